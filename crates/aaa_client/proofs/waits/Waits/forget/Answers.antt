use Rattle.std.proofs.Common.{◌≡◌, ◌∙◌, ap, sym, subst, not, eqb, List, map}
use Rattle.std.specs.Prelude.{filter}
use Rattle.std.specs.List.{AllByRecursion}
use Rattle.aaa_defs.specs.Waits.{Pending, forgotten}
use Rattle.aaa_client.specs.Order.{session_of}
use Rattle.aaa_client.specs.Places.{Agrees, request_of}
use Rattle.aaa_client.proofs.Rising.{all-filter}
use Rattle.aaa_client.proofs.Places.{filter-session}
use Rattle.aaa_client.proofs.waits.Waits.forget.Goals as goal

pub invariant_of-self : goal.invariant_of-self
invariant_of-self c = record {
  all = c.self.invariant.all;
  agree = subst (AllByRecursion (Agrees c.self.inside.places.items)) (sym c.remove.ensures) (all-filter session_of (Agrees c.self.inside.places.items) (λ e. not (eqb e.session c.args.session)) c.self.inside.order c.self.invariant.agree);
}

pub returns : goal.returns
returns c =
    let places : List Pending = c.self.inside.places.items in
    let left : map (request_of places) c.remove.new.self ≡ filter (λ p. not (eqb p.session c.args.session)) (map (request_of places) c.self.inside.order) =
    ap (map (request_of places)) c.remove.ensures ∙ sym (filter-session places c.args.session c.self.inside.order c.self.invariant.agree) in
    ap (λ (rs : List Pending). record { requests = rs; last = c.self.inside.last }) left ∙ ap (forgotten c.args.session) c.self.view_is

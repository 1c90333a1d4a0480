use Rattle.std.proofs.Common.{◌≡◌, ◌∙◌, ◌<◌, ap, sym, subst, refl, List, ℕ}
use Rattle.std.specs.List.{insert}
use Rattle.aaa_defs.specs.Waits.{placed}
use Rattle.std.specs.List.{AllByRecursion}
use Rattle.aaa_defs.specs.declared.TheConstants.{NAMES}
use Rattle.aaa_client.specs.declared.order.Entry.{Entry}
use Rattle.aaa_client.specs.Order.{IsOrder, Rising, session_of, below}
use Rattle.aaa_client.proofs.Rising.{all-placed, placed-at, rises-placed}
use Rattle.aaa_client.proofs.order.Order.insert.Goals as goal

new_items : (c : goal.After-insert) → c.insert.new.self.items ≡ placed session_of (record { session = c.args.session; name = c.args.name }) c.args.self.now
new_items c =
    let e : Entry = record { session = c.args.session; name = c.args.name } in
    let place : c.place_of-at.result ≡ below session_of c.args.session c.args.self.now = c.place_of-at.ensures.place ∙ ap (below session_of c.args.session) (c.as_slice.ensures.value ∙ c.self.view_is) in
    c.insert.ensures.items ∙ ap (λ (ys : List Entry). insert ys c.place_of-at.result e) c.self.view_is
    ∙ ap (λ (k : ℕ). insert c.args.self.now k e) place
    ∙ placed-at session_of c.args.session c.args.self.now e refl c.requires.new

pub invariant_of-self : goal.invariant_of-self
invariant_of-self c =
    let e : Entry = record { session = c.args.session; name = c.args.name } in
    subst IsOrder (sym (new_items c)) (record {
      rising = rises-placed session_of c.args.session c.args.self.now e refl c.requires.new (subst Rising c.self.view_is c.self.invariant.rising);
      names = all-placed session_of (λ (x : Entry). x.name < NAMES) e c.args.self.now c.requires.small (subst (AllByRecursion (λ x. x.name < NAMES)) c.self.view_is c.self.invariant.names);
    })

pub returns : goal.returns
returns c = new_items c

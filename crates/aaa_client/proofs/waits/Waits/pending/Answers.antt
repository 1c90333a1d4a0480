use Rattle.std.proofs.Common.{◌≡◌, ◌∙◌, ap, sym, subst, List, Some, arith, get_or}
use Rattle.std.proofs.lemmas.List.{get_or_default}
use Rattle.aaa_defs.specs.Waits.{AreApart, Pending, pending_of}
use Rattle.aaa_client.specs.Places.{place, no_request}
use Rattle.aaa_client.proofs.Places.{apart, session-request, session-nothing}
use Rattle.aaa_client.proofs.waits.Waits.pending.Goals as goal

pub returns-in-Some-clause-found : goal.returns-in-Some-clause-found
returns-in-Some-clause-found c =
    let places : List Pending = c.self.inside.places.items in
    let read : c.index.result.now ≡ place places c.in-Some.name =
    c.index.ensures ∙ ap (λ k. get_or places k c.index.result.now) c.from.ensures ∙ get_or_default places c.in-Some.name c.index.result.now no_request (omega (arith, c.self.invariant.all, c.in-Some.ensures.small)) in
    ap (λ (p : Pending). Some p) read
    ∙ sym (session-request places c.self.inside.order c.args.session c.in-Some.name c.self.invariant.agree c.in-Some.ensures.found)
    ∙ ap (pending_of c.args.session) c.self.view_is

pub returns-in-None-clause-found : goal.returns-in-None-clause-found
returns-in-None-clause-found c =
    sym (session-nothing c.self.inside.places.items c.self.inside.order c.args.session c.self.invariant.agree c.in-None.ensures.found) ∙ ap (pending_of c.args.session) c.self.view_is

pub returns-in-Some-clause-apart : goal.returns-in-Some-clause-apart
returns-in-Some-clause-apart c = subst AreApart c.self.view_is (apart c.self.inside.places.items c.self.inside.order c.self.inside.last c.find.ensures.rising c.find.ensures.few c.self.invariant.agree)

pub returns-in-None-clause-apart : goal.returns-in-None-clause-apart
returns-in-None-clause-apart c = subst AreApart c.self.view_is (apart c.self.inside.places.items c.self.inside.order c.self.inside.last c.find.ensures.rising c.find.ensures.few c.self.invariant.agree)

use Rattle.std.proofs.Common.{◌≡◌, ◌∙◌, ◌≤◌, ◌<◌, length, ap, sym, List, Some, arith, get_or}
use Rattle.std.proofs.lemmas.List.{get_or_default}
use Rattle.aaa_defs.specs.Waits.{Pending, pending_under}
use Rattle.aaa_client.specs.Places.{place, no_request}
use Rattle.aaa_client.proofs.Places.{past-places, same-some, name-request, name-nothing}
use Rattle.aaa_client.proofs.waits.Waits.named.Goals as goal
use Rattle.aaa_client.proofs.waits.Waits.named.Goals.{in_default-via-in-Some+else-found-name, in_default-via-in_default}

pub returns-in-Some : goal.returns-in-Some
returns-in-Some c =
    let places : List Pending = c.self.inside.places.items in
    let read : c.index-request.result.now ≡ place places c.args.name =
    c.index-request.ensures ∙ ap (λ k. get_or places k c.index-request.result.now) c.from-at.ensures ∙ get_or_default places c.args.name c.index-request.result.now no_request (omega (arith, c.self.invariant.all)) in
    ap (λ (p : Pending). Some p) read
    ∙ sym (name-request places c.self.inside.order c.session.result c.args.name c.self.invariant.agree (ap (λ k. Some k) (sym c.if-found-name.true) ∙ c.in-Some.ensures.found))
    ∙ ap (pending_under c.args.name) c.self.view_is

pub returns-in_default : goal.returns-in_default
returns-in_default c =
    let places : List Pending = c.self.inside.places.items in
    let read : c.index-request.result.now ≡ place places c.args.name =
    c.index-request.ensures ∙ ap (λ k. get_or places k c.index-request.result.now) c.from-at.ensures ∙ get_or_default places c.args.name c.index-request.result.now no_request (omega (arith, c.self.invariant.all)) in
    let session : c.session.result ≡ (place places c.args.name).session = c.session.ensures ∙ ap (λ (p : Pending). p.session) read in
    let other : c.find.result ≡ Some c.args.name → ⊥ = λ found. elim c.in_default.branch [
      | in_default-via-in-Some+else-found-name w ↦ w.if-found-name.false (same-some w.in-Some.found c.args.name (sym w.in-Some.is ∙ found))
      | in_default-via-in_default w ↦ w.in_default.not-Some c.args.name found
    ] in
    sym (name-nothing places c.self.inside.order c.session.result c.args.name c.find.ensures.rising c.self.invariant.agree session (λ is. other (c.find.ensures.found ∙ sym is)))
    ∙ ap (pending_under c.args.name) c.self.view_is

pub returns-then-at-len : goal.returns-then-at-len
returns-then-at-len c =
    let places : List Pending = c.self.inside.places.items in
    let past : length places ≤ c.args.name = omega (arith, c.self.invariant.all) in
    let some : 0 < c.args.name = omega (arith, c.self.invariant.all) in
    sym (past-places places c.self.inside.order c.args.name past some c.self.invariant.agree) ∙ ap (pending_under c.args.name) c.self.view_is

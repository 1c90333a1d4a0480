use Rattle.std.proofs.Common.{◌≡◌, Some, None, true, false, ◌∙◌, sym, ap}
use Rattle.std.specs.Option.{option_copied}
use Rattle.std.proofs.lemmas.Bool.{eq-eqb, ne_eqb}
use Rattle.session_table.specs.Slots.{value_at}
use Rattle.host_sessions.proofs.Numbered.{nth_is, place_if_is}
use Rattle.host_sessions.proofs.sessions.Sessions.place_if.Goals as goal

pub returns-in_err-get : goal.returns-in_err-get
returns-in_err-get c =
    let r = nth_is c.args.self.now.slots c.args.n c.in_ok-at.at c.place_at.ensures.table c.in_ok-at.ensures.place in
    let none : None ≡ value_at c.in_ok-at.at c.args.self.now.slots = sym (ap option_copied c.in_err-get.was) ∙ c.get.ensures in
    let some : value_at c.in_ok-at.at c.args.self.now.slots ≡ Some r.0.value = r.1.value in
    let never : None ≡ Some r.0.value = none ∙ some in
    cc

pub returns-then-branch-number : goal.returns-then-branch-number
returns-then-branch-number c =
    let r = nth_is c.args.self.now.slots c.args.n c.in_ok-at.at c.place_at.ensures.table c.in_ok-at.ensures.place in
    let v = c.in_ok-get.field-0.now in
    let here : Some v ≡ value_at c.in_ok-at.at c.args.self.now.slots = sym (ap option_copied c.in_ok-get.was) ∙ c.get.ensures in
    sym (place_if_is c.args.number c.args.self.now.slots c.args.n c.in_ok-at.at r.0 r.1 v here true (eq-eqb v.number c.args.number c.if-branch-number.true))

pub returns-else-branch-number : goal.returns-else-branch-number
returns-else-branch-number c =
    let r = nth_is c.args.self.now.slots c.args.n c.in_ok-at.at c.place_at.ensures.table c.in_ok-at.ensures.place in
    let v = c.in_ok-get.field-0.now in
    let here : Some v ≡ value_at c.in_ok-at.at c.args.self.now.slots = sym (ap option_copied c.in_ok-get.was) ∙ c.get.ensures in
    sym (place_if_is c.args.number c.args.self.now.slots c.args.n c.in_ok-at.at r.0 r.1 v here false (ne_eqb v.number c.args.number c.if-branch-number.false))

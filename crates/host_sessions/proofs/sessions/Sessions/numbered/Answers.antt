use Rattle.std.proofs.Common.{◌≡◌, ℕ, Option, None, sym, ap, subst, arith}
use Rattle.std.specs.Prelude.{◌==◌, find}
use Rattle.std.specs.Option.{option_map}
use Rattle.session_table.specs.Slots.{Entry}
use Rattle.switch_defs.specs.Switch.{session_numbered}
use Rattle.host_session.specs.declared.session.Session.{Session}
use Rattle.host_sessions.specs.Finds.{FindsAt}
use Rattle.host_sessions.proofs.Holding.{finds}
use Rattle.host_sessions.proofs.Pairs.{both_found, number_agree}
use Rattle.host_sessions.proofs.Numbered.{first_numbered, has_number, none_numbered}
use Rattle.host_sessions.proofs.sessions.Sessions.numbered.Goals as goal

pub returns-in-Some : goal.returns-in-Some
returns-in-Some c = λ s holds.
    let k = c.args.self.now in
    let n = c.args.number in
    let P : Option ℕ → Type 0 = λ o. FindsAt o (session_numbered n s) k s in
    subst P (first_numbered n k.slots c.loop-n.n c.in-Some.at c.loop-n.invariant (sym c.in-Some.ensures))
    (finds k s holds (find (has_number n) k.slots) (session_numbered n s)
    (both_found s.config.times (has_number n) (λ y. y.host.number == n) (number_agree s.config.times n) k.slots s.sessions holds.sessions))

pub returns : goal.returns
returns c = λ s holds.
    let k = c.args.self.now in
    let n = c.args.number in
    let P : Option ℕ → Type 0 = λ o. FindsAt o (session_numbered n s) k s in
    let none : find (has_number n) k.slots ≡ None = none_numbered n k.slots (λ m less. c.loop-n.invariant m (omega (arith, less, c.loop-n-test.false, c.len-n-end.ensures.len))) in
    subst P (ap (option_map (λ (e : Entry Session). e.place)) none)
    (finds k s holds (find (has_number n) k.slots) (session_numbered n s)
    (both_found s.config.times (has_number n) (λ y. y.host.number == n) (number_agree s.config.times n) k.slots s.sessions holds.sessions))

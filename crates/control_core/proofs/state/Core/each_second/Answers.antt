use Rattle.std.proofs.Common.{◌≡◌, ◌<◌, ◌+◌, ◌*◌, ℕ, length, arith, subst, sym, add-one, ap, ◌∙◌, Bool}
use Rattle.switch_defs.specs.Switch.{State}
use Rattle.turn_defs.specs.Walks.{next_place}
use Rattle.control_core.specs.Stands.{Holds}
use Rattle.control_core.proofs.Walking.{Comes, Passes, comes_last, comes_next, comes_passes}
use Rattle.control_core.proofs.state.Core.each_second.Goals as goal
use Rattle.control_core.proofs.state.Core.each_second.Goals.{then-not-second_of, else-not-second_of}

pub second_of-requires-clause-may : goal.second_of-requires-clause-may
second_of-requires-clause-may c =
    let s : State = c.requires.may.0 in
    let h : Holds c.args.self.now s = c.requires.may.1 in
    let less : c.sessions._session < length s.sessions = omega (arith, c.len-session-end.ensures.count s h.sessions) in
    let p : Passes c.sessions.n c.sessions.self = comes_passes less (c.sessions.invariant.comes s h c.requires.may.2) in
    (p.session, p.state, p.holds, p.next, p.may)

pub sessions-preserved : goal.sessions-preserved
sessions-preserved c =
    let k : ℕ = c.sessions._session in
    let room : 9758 * (k + 1) ≡ 9758 * k + 9758 = omega arith in
    let place : c.if-not-second_of.n ≡ next_place c.second_of.result c.sessions.n = elim c.if-not-second_of.branch [
      | then-not-second_of w ↦ w.n-is ∙ add-one c.sessions.n ∙ sym (ap (λ (b : Bool). next_place b c.sessions.n) w.if-not-second_of.true)
      | else-not-second_of w ↦ w.n-is ∙ sym (ap (λ (b : Bool). next_place b c.sessions.n) w.if-not-second_of.false)
    ] in
    record {
      comes = λ s h m.
          let less : k < length s.sessions = omega (arith, c.len-session-end.ensures.count s h.sessions) in
          subst (λ (n : ℕ). Comes (k + 1) n s c.second_of.new.self c.args.tray.now c.second_of.new.tray c.args.items.now.items c.second_of.new.items.items) (sym place)
          (comes_next c.second_of.result less (c.sessions.invariant.comes s h m) (record { does = c.second_of.ensures.does; closes = c.second_of.ensures.closed }));
      room = omega (arith, c.sessions.invariant.room, c.second_of.ensures.room, room);
      few = omega (arith, c.sessions.invariant.few, c.second_of.ensures.few);
      made = c.second_of.ensures.made ∙ c.sessions.invariant.made;
    }

pub returns-clause-does : goal.returns-clause-does
returns-clause-does c s h m =
    let all : c.sessions._session ≡ length s.sessions = omega (arith, c.len-session-end.ensures.count s h.sessions) in
    comes_last all (c.sessions.invariant.comes s h m)

use Rattle.std.proofs.Common.{◌≡◌, ◌≤◌, ◌+◌, ◌*◌, length}
use Rattle.out_tray.specs.Tray.{spare}
use Rattle.switch_defs.specs.Switch.{State}
use Rattle.control_core.specs.Stands.{Holds}
use Rattle.control_core.specs.Passing.{MayPass}
use Rattle.control_core.proofs.Walking.{Comes}
use Rattle.control_core.proofs.state.Core.each_second.Given as goal

abbrev pub invariant-sessions : goal.invariant-sessions
invariant-sessions l = record {
  comes : (s : State) → Holds l.fn.self s → MayPass (length s.sessions) s →
      Comes l._session l.n s l.self l.fn.tray l.tray l.fn.items.items l.items.items;
  room : spare l.fn.tray ≤ spare l.tray + 9758 * l._session;
  few : length l.items.items ≤ length l.fn.items.items + l._session;
  made : l.self.made ≡ l.fn.self.made;
}

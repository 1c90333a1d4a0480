-- So many sessions are still to be looked at.
use Rattle.std.proofs.Common.{◌≡◌, ◌+◌, ◌-◌, ◌≤◌, length}
use Rattle.switch_defs.specs.Switch.{State}
use Rattle.control_core.specs.Walked.{MayClose}
use Rattle.control_core.proofs.Closing.{Closed}
use Rattle.control_core.proofs.state.Core.close_port.Given as goal

abbrev pub invariant-sessions : goal.invariant-sessions
invariant-sessions l = record {
  walk : (s : State) → MayClose l.port l.initial.self s → Closed s l.port l.n (l._session-end - l._session) l.self l.initial.items.items l.items.items;
  few : length l.items.items ≤ length l.initial.items.items + l._session;
  place : l.n ≤ l._session;
  made : l.self.made ≡ l.initial.self.made;
}

-- The session at a place of the order, while a walk over them goes on.
use Rattle.std.specs.Prelude.{ℕ}
use Rattle.switch_defs.specs.Switch.{Session, State}
use Rattle.switch_defs.specs.Sound.{AreHosts}
use Rattle.switch_defs.specs.Switch as switch
use Rattle.table_defs.specs.Told.{Closes, Speaks}
use Rattle.turn_defs.specs.Walks.{Next}
use Rattle.control_core.specs.declared.state.Core.{Core}
use Rattle.control_core.specs.Stands.{Holds}

-- it may be closed
pub record MayEnd (n : ℕ) (y : Session) (core : Core) (t : State) : Type 0 where
  pub next : Next y n t
  pub holds : Holds core t
  pub speaks : Speaks y.host t t

-- the sessions of a port may be closed
pub record MayClose (n : ℕ) (core : Core) (s : State) : Type 0 where
  pub holds : Holds core s
  pub closes : Closes n s
  pub hosts : AreHosts (switch.hosts s) s.next

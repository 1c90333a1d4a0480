-- A frame that was read.
use Rattle.std.specs.Prelude.{◌≡◌, ℕ, List, None, false}
use Rattle.switch_defs.specs.Switch.{Port, State, session_at}
use Rattle.switch_defs.specs.Turn.{FrameCase, Opens, is_full}
use Rattle.switch_defs.specs.Laws.{MayFrame}
use Rattle.switch_event.specs.declared.config.PortConf.{PortConf}
use Rattle.machine_vars.specs.declared.control.Control.TheVariants.{Auto}
use Rattle.control_core.specs.declared.state.Core.{Core}
use Rattle.control_core.specs.Stands.{MayTurn}
use Rattle.control_core.specs.Does.{IsHere}

-- what it does may be done: one turn more, and what is settled may be settled
pub record MayHear (k : FrameCase) (core : Core) (s : State) : Type 0 where
  pub turn : MayTurn core s
  pub settles : MayFrame s k

-- a session may open for a host that has none on a port, where there is room for it
pub record MayBegin (conf : PortConf) (q : Port) (from : List ℕ) (core : Core) (s : State) : Type 0 where
  pub here : IsHere conf Auto q s
  pub new : session_at conf.port from s ≡ None
  pub room : is_full conf.port s ≡ false
  pub hear : MayHear (Opens q from) core s

-- Which states an authenticator stands for.
use Rattle.std.specs.Prelude.{◌≡◌, ℕ, ◌<◌, Bool}
use Rattle.switch_defs.specs.Switch.{State}
use Rattle.switch_defs.specs.Sound.{IsSound}
use Rattle.switch_defs.specs.Laws.{most_turns}
use Rattle.host_sessions.specs.Holds as sessions
use Rattle.turn_defs.specs.Parts.{armed_if}
use Rattle.control_core.specs.declared.state.Core.{Core}

-- what is kept is what the state says, field by field
pub record Holds (core : Core) (s : State) : Type 0 where
  pub config : core.config ≡ s.config
  pub clock : core.clock ≡ s.clock
  pub ports : core.ports ≡ s.ports
  pub sessions : sessions.Holds core.sessions s
  pub kept : core.kept.items ≡ s.kept

-- and the state is sound after so many turns
pub record Stands (core : Core) (s : State) : Type 0 where
  pub holds : Holds core s
  pub sound : IsSound core.made s

-- it may make one turn more
pub record MayTurn (core : Core) (s : State) : Type 0 where
  pub stands : Stands core s
  pub few : core.made < most_turns

-- the same as Holds, but a port is still to be armed where a session of it was closed
pub record Lags (closed : Bool) (n : ℕ) (core : Core) (s : State) : Type 0 where
  pub config : core.config ≡ s.config
  pub clock : core.clock ≡ s.clock
  pub ports : s.ports ≡ armed_if closed n s core.ports
  pub sessions : sessions.Holds core.sessions s
  pub kept : core.kept.items ≡ s.kept

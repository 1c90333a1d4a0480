-- An answer of the server that was taken.
use Rattle.std.specs.Prelude.{◌≡◌, ◌<◌, true, Some}
use Rattle.aaa_defs.specs.Answer.{Taking}
use Rattle.switch_defs.specs.Switch.{Did, Session, State, is_vlan, session_numbered}
use Rattle.switch_defs.specs.Session.{AnAnswer, forget, settle_session}
use Rattle.switch_defs.specs.Answer.{says, stands}
use Rattle.switch_defs.specs.Sound.{IsSound}
use Rattle.switch_defs.specs.Laws.{MayAsk, most_turns}
use Rattle.control_core.specs.declared.state.Core.{Core}
use Rattle.control_core.specs.Stands.{Holds}

-- the session that asked may be told what the answer says: its request is forgotten, and it may be settled so
pub record MayTell (t : Taking) (y : Session) (core : Core) (s : State) : Type 0 where
  pub holds : Holds core (forget y.host s)
  pub sound : IsSound core.made s
  pub few : core.made < most_turns
  pub named : session_numbered t.session s ≡ Some y
  pub ask : MayAsk y.host (stands (says s t y) y.standing) (forget y.host s)
  pub vlan : is_vlan (says s t y).kept.vlan ≡ true

-- what telling it does
abbrev pub told : Taking → Session → State → Did
told t y s = settle_session AnAnswer y.host (stands (says s t y) y.standing) (forget y.host s)

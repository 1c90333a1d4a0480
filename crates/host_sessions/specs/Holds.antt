-- The sessions that are kept, and the states of the switch that they are those of. Nothing is said of
-- ports, of the clock, or of replies.
use Rattle.std.specs.Prelude.{◌≡◌, List, [], ◌∷◌}
use Rattle.machine_vars.specs.declared.control.Times.{Times}
use Rattle.session_table.specs.Slots.{Entry, IsTable}
use Rattle.switch_defs.specs.Switch as switch
use Rattle.switch_defs.specs.Switch.{State}
use Rattle.host_session.specs.declared.session.Session.{Session}
use Rattle.host_session.specs.Sits.{SitsAs}
use Rattle.host_sessions.specs.declared.sessions.Sessions.{Sessions}

-- an entry is of a session, under these times
pub record IsOf (times : Times) (e : Entry Session) (y : switch.Session) : Type 0 where
  pub number : e.value.number ≡ y.host.number
  pub port : e.port ≡ y.host.port
  pub address : e.address ≡ y.host.address
  pub sits : SitsAs e.value y.standing
  pub timed : y.standing.vars.times ≡ times

-- one entry for each session, in the same order
abbrev pub AreOf : Times → List (Entry Session) → List switch.Session → Type 0
AreOf times [] [] = Unit {0}
AreOf times [] (y ∷ ys) = ⊥
AreOf times (e ∷ es) [] = ⊥
AreOf times (e ∷ es) (y ∷ ys) = IsOf times e y × AreOf times es ys

pub record Holds (k : Sessions) (s : State) : Type 0 where
  pub table : IsTable k.slots
  pub sessions : AreOf s.config.times k.slots s.sessions
  pub waits : k.waits ≡ s.waits
  pub asked : k.asked ≡ s.asked
  pub next : k.next ≡ s.next

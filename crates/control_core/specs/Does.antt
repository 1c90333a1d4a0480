-- What a part of a turn does.
use Rattle.std.specs.Prelude.{◌≡◌, ℕ, true, List, map, Some}
use Rattle.machine_vars.specs.declared.control.Control.{Control}
use Rattle.switch_event.specs.declared.event.Outcome.{Outcome}
use Rattle.switch_event.specs.declared.config.PortConf.{PortConf}
use Rattle.out_tray.specs.Tray.{Things}
use Rattle.typed_session.specs.Follows.{with_sent}
use Rattle.switch_defs.specs.Switch.{Did, Host, Port, Session, State, Turned, port_of}
use Rattle.turn_defs.specs.Parts as parts
use Rattle.table_defs.specs.declared.change.Item.{Item}
use Rattle.table_defs.specs.Change.{item_of}
use Rattle.host_sessions.specs.Finds.{IsAt}
use Rattle.control_core.specs.declared.state.Core.{Core}
use Rattle.control_core.specs.Stands.{Holds}

-- items that told of a change up to one state tell, with more, of one up to another
abbrev pub TellsOn : State → State → (before after : List Item) → Type 0
TellsOn s t before after = parts.TellsOn s t (map item_of before) (map item_of after)

-- what was done to a state: it is kept so, the tray has what was sent, and the items tell of it
pub record Does (s : State) (d : Did) (core : Core) (from to : Things) (before after : List Item) : Type 0 where
  pub holds : Holds core d.state
  pub sent : to ≡ with_sent d.sent from
  pub told : TellsOn s d.state before after

-- the same of an event, with what became of it
pub record Turns (s : State) (t : Turned) (core : Core) (outcome : Outcome) (from to : Things) (before after : List Item) : Type 0 where
  pub holds : Holds core t.state
  pub became : outcome ≡ t.outcome
  pub sent : to ≡ with_sent t.sent from
  pub told : TellsOn s t.state before after

-- a host is that of a port and an address
pub record IsOfHost (h : Host) (port : ℕ) (address : List ℕ) : Type 0 where
  pub on : h.port ≡ port
  pub whose : h.address ≡ address

-- a session of the state is kept at a place, and is that of a port and an address
pub record IsKnown (at : ℕ) (y : Session) (port : ℕ) (address : List ℕ) (core : Core) (s : State) : Type 0 where
  pub here : IsAt at y core.sessions s
  pub host : IsOfHost y.host port address

-- a port of the state that is up, with its settings and its control
pub record IsHere (conf : PortConf) (control : Control) (q : Port) (s : State) : Type 0 where
  pub settings : q.conf ≡ conf
  pub controlled : q.control ≡ control
  pub here : port_of conf.port s ≡ Some q
  pub link : q.link ≡ true

-- What may be told of what a turn does.
use Rattle.std.proofs.Common.{◌≡◌, ℕ, ◌-◌, ◌≤◌, not, List, [], ◌∷◌, map, Option, None, Some, Bool, true, false}
use Rattle.std.specs.Prelude.{if◌then◌else◌, ◌==◌, ◌&&◌}
use Rattle.std.specs.List.{AllByRecursion}
use Rattle.switch_event.specs.declared.config.PortConf.{PortConf}
use Rattle.switch_defs.specs.Switch.{Port, Host, Session, State, hosts, session_at, same_key}
use Rattle.switch_defs.specs.Turn.{turn}
use Rattle.switch_defs.specs.Decide.{Right, view, authorised}
use Rattle.switch_defs.specs.Sound.{here, there, AreHosts, confs}
use Rattle.switch_defs.specs.Fitting.{AreVlans}
use Rattle.switch_defs.specs.Moving.{Moved}
use Rattle.table_defs.specs.Table.{Item, Guest, Let, Bar, conf_of, IsAllowed, said, Leads, StayRoomy}

pub record ToldBy (is : List Item) (s t : State) : Type 0 where
  pub leads : Leads s is t
  pub moved : Moved s t
  pub settings : confs t.ports ≡ confs s.ports
  pub allowed : AllByRecursion (IsAllowed (confs s.ports)) is
  pub room : AreHosts (hosts s) s.next → StayRoomy (authorised s) is

-- all but one host's session is as before
pub record Aside (h : Host) (s t : State) : Type 0 where
  pub ports : map view s.ports ≡ map view t.ports
  pub confs : confs t.ports ≡ confs s.ports
  pub others : (port : ℕ) (address : List ℕ) → same_key h.port h.address port address ≡ false → session_at port address t ≡ session_at port address s

-- what there is to say of a host: its right, or that it has none
abbrev pub item_by : Host → Option Right → Item
item_by h None = Bar h.port h.address
item_by h (Some r) = Let h.port h.address r

-- a port of this number is configured
abbrev pub HasConf : List PortConf → ℕ → Type 0
HasConf ps n = (c : PortConf) × (conf_of n ps ≡ Some c)

-- the restricted VLANs of settings
abbrev pub AreRestricted : List PortConf → Type 0
AreRestricted ps = AllByRecursion (λ c. c.restricted ≤ 4094) ps

-- what is known where something is said of a host: its port is configured, and the VLANs that there are afterwards are such
pub record Speaks (h : Host) (s t : State) : Type 0 where
  pub here : HasConf (confs s.ports) h.port
  pub restricted : AreRestricted (confs s.ports)
  pub vlans : AreVlans t.sessions

-- a second opens the port to guests
abbrev pub opens : Port → Bool
opens p = p.guest_while == 1 && not p.guest_open

-- the items of the ports that it opens
abbrev pub opened_guests : List Port → List Item
opened_guests [] = []
opened_guests (p ∷ ps) = if opens p then Guest p.conf.port true ∷ opened_guests ps else opened_guests ps

-- the ports of these sessions are configured
abbrev pub AreConfigured : List PortConf → List Session → Type 0
AreConfigured ps ys = AllByRecursion (λ y. HasConf ps y.host.port) ys

-- what is known before a port is closed
pub record Closes (n : ℕ) (s : State) : Type 0 where
  pub here : HasConf (confs s.ports) n
  pub hosts : AreConfigured (confs s.ports) s.sessions
  pub restricted : AreRestricted (confs s.ports)
  pub vlans : AreVlans s.sessions

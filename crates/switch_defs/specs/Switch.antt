-- The state of the switch, what it sends, and look-ups.
use Rattle.std.specs.Prelude.{ℕ, ◌==◌, ◌&&◌, Bool, false, List, [], ◌∷◌, ◌++◌, take, map, find, Option}
use Rattle.std.specs.Str.{bytes_eq}
use Rattle.wire_defs.specs.Ethernet.{pae_group}
use Rattle.machine_vars.specs.declared.vars.Vars.{Vars}
use Rattle.machine_vars.specs.declared.control.Control.{Control}
use Rattle.machine_defs.specs.Live.{fresh}
use Rattle.kept_defs.specs.Kept.{Entry}
use Rattle.aaa_defs.specs.Waits.{Waits, nothing}
use Rattle.switch_event.specs.declared.config.PortConf.{PortConf}
use Rattle.switch_event.specs.declared.event.Outcome.{Outcome}
use Rattle.switch_event.specs.Sent.{Sent}
use Rattle.switch_event.specs.Config.{Config, within}

-- how many hosts a port may have, and how many sessions there may be on 60 ports
abbrev pub most_hosts : ℕ
most_hosts = 16

abbrev pub most_sessions : ℕ
most_sessions = 960

-- a VLAN is 1 to 4094 (IEEE Std 802.1Q, 9.6)
abbrev pub is_vlan : ℕ → Bool
is_vlan vlan = within 1 4094 vlan

-- a configured port: its settings, whether its link is up, its control (IEEE Std 802.1X-2004, 8.2.2.2), the variables by which it
-- speaks where it is forced, how long an Identity request still waits for an answer before guests are let in, and whether they are
pub record Port : Type 0 where
  pub conf : PortConf
  pub link : Bool
  pub control : Control
  pub forced : Vars
  pub guest_while : ℕ
  pub guest_open : Bool

-- whose a session is. It never changes
pub record Host : Type 0 where
  pub number : ℕ
  pub port : ℕ
  pub address : List ℕ

-- what changes of a session: its variables, its VLAN, the State of the server's last Challenge (RFC 2865, section 5.24), how long
-- until it ends, where that is not 0 (section 5.27), and whether the server rejected its host
pub record Standing : Type 0 where
  pub vars : Vars
  pub vlan : ℕ
  pub state : Option (List ℕ)
  pub end_while : ℕ
  pub restricted : Bool

pub record Session : Type 0 where
  pub host : Host
  pub standing : Standing

pub record State : Type 0 where
  pub config : Config
  pub clock : ℕ
  -- in the order of the settings
  pub ports : List Port
  -- in rising order of their numbers, at most one for each port and address
  pub sessions : List Session
  pub waits : Waits
  -- how many authenticators of requests were used
  pub asked : ℕ
  -- the next session's number
  pub next : ℕ
  -- for each client, in the order of the settings, the replies that are kept for it, the oldest first
  pub kept : List (List Entry)

-- a state, and what was sent on the way to it
pub record Did : Type 0 where
  pub state : State
  pub sent : List Sent

-- what one turn gives
pub record Turned : Type 0 where
  pub state : State
  pub outcome : Outcome
  pub sent : List Sent

abbrev pub turned : Outcome → Did → Turned
turned outcome d = record { state = d.state; outcome = outcome; sent = d.sent }

-- one act, and then another
abbrev pub and_then : Did → (State → Did) → Did
and_then d act = record { state = (act d.state).state; sent = d.sent ++ (act d.state).sent }

-- nothing is sent
abbrev pub only : State → Did
only s = record { state = s; sent = [] }

-- the address of a port: the first five octets of the bridge's, and the port's number
abbrev pub port_address : List ℕ → ℕ → List ℕ
port_address bridge port = take 5 bridge ++ port ∷ []

abbrev pub own_address : State → ℕ → List ℕ
own_address s port = port_address s.config.bridge port

-- ---- look-ups

abbrev pub is_port : ℕ → Port → Bool
is_port n p = p.conf.port == n

-- the configured port of a number
abbrev pub port_of : ℕ → State → Option Port
port_of n s = find (is_port n) s.ports

abbrev pub same_key : ℕ → List ℕ → ℕ → List ℕ → Bool
same_key port address p a = port == p && bytes_eq address a

abbrev pub is_at : ℕ → List ℕ → Host → Bool
is_at port address h = same_key h.port h.address port address

-- the session of a port and an address
abbrev pub session_at : ℕ → List ℕ → State → Option Session
session_at port address s = find (λ y. is_at port address y.host) s.sessions

abbrev pub session_numbered : ℕ → State → Option Session
session_numbered n s = find (λ y. y.host.number == n) s.sessions

abbrev pub on_port : ℕ → Session → Bool
on_port n y = y.host.port == n

-- whose the sessions of a state are
abbrev pub hosts : State → List Host
hosts s = map (λ y. y.host) s.sessions

-- ---- the opening

abbrev pub opened_port : Config → PortConf → Port
opened_port c p = record {
  conf = p;
  link = false;
  control = p.control;
  forced = fresh p.port (port_address c.bridge p.port) pae_group p.control c.times;
  guest_while = 0;
  guest_open = false;
}

-- links are down, there is no session, nothing waits, and nothing is kept
abbrev pub opening : Config → State
opening c = record {
  config = c;
  clock = c.clock;
  ports = map (opened_port c) c.ports;
  sessions = [];
  waits = nothing;
  asked = 0;
  next = 1;
  kept = map (λ client. []) c.clients;
}

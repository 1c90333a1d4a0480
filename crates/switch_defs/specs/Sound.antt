-- What holds of each state that a history leads to.
use Rattle.std.specs.Prelude.{◌≡◌, ℕ, nat_eq, suc, ◌+◌, ◌*◌, ◌≤◌, ◌==◌, Bool, true, false, List, [], ◌∷◌, length, map, filter, find, Option, None, Some, is_some}
use Rattle.std.specs.List.{AllByRecursion, IsDistinct, list_all}
use Rattle.machine_vars.specs.declared.vars.Vars.{Vars}
use Rattle.machine_vars.specs.declared.control.Control.TheVariants.{Auto}
use Rattle.machine_vars.specs.declared.states.EapState.TheVariants.{AaaIdle}
use Rattle.machine_defs.specs.BackendTable.{is_auto}
use Rattle.machine_defs.specs.Settling.{next}
use Rattle.machine_defs.specs.Live.{Live, Ready, InRange, Event, Start, Logoff, Packet}
use Rattle.settle_defs.specs.Settle.{settled}
use Rattle.settle_defs.specs.Named.{IsNamed}
use Rattle.aaa_defs.specs.Waits.{Pending, Waits, pending_of}
use Rattle.switch_event.specs.declared.config.PortConf.{PortConf}
use Rattle.switch_event.specs.Config.{is_valid, within}
use Rattle.switch_defs.specs.Switch.{Port, Host, Standing, Session, State, hosts, is_at, port_of, session_at, is_vlan, most_hosts, most_sessions}
use Rattle.switch_defs.specs.Turn.{FrameCase, Dropped, Forces, Opens, Turns, is_full}

-- x is one of these
pub data In {A : Type 0} (x : A) : List A → Type 0 where
  here : {xs : List A} → In x (x ∷ xs)
  there : {y : A} {xs : List A} → In x xs → In x (y ∷ xs)

-- ---- whose the sessions are

-- numbers in rising order, from lo on and below hi
unfoldable pub Rises : ℕ → List Host → ℕ → Type 0
Rises lo [] hi = lo ≤ hi
Rises lo (h ∷ hs) hi = (lo ≤ h.number) × Rises (suc h.number) hs hi

-- no two have one port and address
abbrev pub AreApart : List Host → Type 0
AreApart [] = Unit {0}
AreApart (h ∷ hs) = (find (is_at h.port h.address) hs ≡ None) × AreApart hs

abbrev pub host_on : ℕ → Host → Bool
host_on n h = h.port == n

-- no port has more than it may have
abbrev pub AreFew : List Host → Type 0
AreFew hs = (n : ℕ) → length (filter (host_on n) hs) ≤ most_hosts

pub record AreHosts (hs : List Host) (next : ℕ) : Type 0 where
  pub rises : Rises 1 hs next
  pub apart : AreApart hs
  pub few : AreFew hs

-- ---- sessions and their requests

-- a session between two events: its variables are settled, and were acted upon; the host gave its identity where the server is asked
-- for it; and where a request waits for an answer, so does the machine
pub record IsAtRest (waits : Waits) (y : Session) : Type 0 where
  pub live : Live y.standing.vars
  pub idle : next y.standing.vars ≡ None
  pub goes_on : y.standing.vars.gone ≡ false
  pub auto : y.standing.vars.port_control ≡ Auto
  pub unasked : y.standing.vars.aaa_eap_resp ≡ false
  pub wanted : y.standing.vars.aaa_abort ≡ false
  pub named : IsNamed y.standing.vars
  pub port : y.standing.vars.port ≡ y.host.port
  pub peer : y.standing.vars.peer ≡ y.host.address
  pub waiting : is_some (pending_of y.host.number waits) ≡ true → y.standing.vars.eap ≡ AaaIdle

abbrev pub SomeHost : List Host → ℕ → Type 0
SomeHost hs n = (h : Host) × In h hs × (h.number ≡ n)

-- each request is of a session that there is
abbrev pub AreOwned : List Host → List Pending → Type 0
AreOwned hs ps = AllByRecursion (λ p. SomeHost hs p.session) ps

-- at most one request a session, in rising order of the sessions' numbers
abbrev pub InOrder : ℕ → List Pending → Type 0
InOrder lo [] = Unit {0}
InOrder lo (p ∷ ps) = (lo ≤ p.session) × InOrder (suc p.session) ps

pub record Rests (waits : Waits) (ys : List Session) : Type 0 where
  pub sessions : AllByRecursion (IsAtRest waits) ys
  pub owned : AreOwned (map (λ y. y.host) ys) waits.requests
  pub order : InOrder 0 waits.requests

-- ---- ports

-- the variables of a port, and where it is forced and up that they are those of its control, at rest
pub record IsPort (p : Port) : Type 0 where
  pub live : Live p.forced
  pub control : is_auto p.control ≡ false → p.link ≡ true → p.forced.port_control ≡ p.control
  pub idle : is_auto p.control ≡ false → p.link ≡ true → next p.forced ≡ None

-- a port without a VLAN for guests lets none in, and does not wait to
pub record MayHaveGuests (p : Port) : Type 0 where
  pub while : p.conf.guest ≡ 0 → p.guest_while ≡ 0
  pub shut : p.conf.guest ≡ 0 → p.guest_open ≡ false

-- a session's VLAN is one
abbrev pub HasVlan : Session → Type 0
HasVlan y = is_vlan y.standing.vlan ≡ true

-- a port that sessions may be on: configured, Auto, and up
abbrev pub IsOpenPort : Option Port → Type 0
IsOpenPort None = ⊥
IsOpenPort (Some p) = (p.link ≡ true) × (p.control ≡ Auto)

abbrev pub ArePlaced : State → Type 0
ArePlaced s = AllByRecursion (λ h. IsOpenPort (port_of h.port s)) (hosts s)

abbrev pub confs : List Port → List PortConf
confs ps = map (λ p. p.conf) ps

-- ---- a state after so many turns

-- how many ports there may be, from 1 on
abbrev pub most_ports : ℕ
most_ports = 60

-- the ports of settings are 1 to 60, and no two are the same
pub record ArePorts (ports : List PortConf) : Type 0 where
  pub in_range : list_all (λ p. within 1 60 p.port) ports ≡ true
  pub apart : IsDistinct nat_eq (map (λ p. p.port) ports)

pub record IsSound (turns : ℕ) (s : State) : Type 0 where
  pub valid : is_valid s.config ≡ true
  pub times : InRange s.config.times
  pub clock : s.clock ≤ s.config.clock + turns
  pub next : s.next ≤ turns + 1
  pub asked : s.asked ≤ (most_sessions + 1) * turns
  pub confs : confs s.ports ≡ s.config.ports
  pub distinct : ArePorts s.config.ports
  pub room : length s.ports ≤ most_ports
  pub ports : AllByRecursion IsPort s.ports
  pub guests : AllByRecursion MayHaveGuests s.ports
  pub hosts : AreHosts (hosts s) s.next
  pub placed : ArePlaced s
  pub vlans : AllByRecursion HasVlan s.sessions
  pub rests : Rests s.waits s.sessions
  pub kept : length s.kept ≡ length s.config.clients

-- ---- settling

-- where a session's request waits or not as its settling begins, and these variables are left: the server is asked only in the state
-- that waits for it, and only where no request is left; and a request is left only in that state
pub record Fine (pending : Bool) (w : Vars) : Type 0 where
  pub asks : w.aaa_eap_resp ≡ true → w.eap ≡ AaaIdle
  pub free : w.aaa_eap_resp ≡ true → pending ≡ true → w.aaa_abort ≡ true
  pub stays : w.aaa_eap_resp ≡ false → w.aaa_abort ≡ false → pending ≡ true → w.eap ≡ AaaIdle

-- the session of a host may be settled with this standing: every other session is at rest
pub record MaySettle (h : Host) (x : Standing) (s : State) : Type 0 where
  pub there : In h (hosts s)
  pub others : AllByRecursion (λ y. is_at h.port h.address y.host ≡ false → IsAtRest s.waits y) s.sessions
  pub owned : AreOwned (hosts s) s.waits.requests
  pub order : InOrder 0 s.waits.requests
  pub ready : Ready x.vars
  pub named : IsNamed x.vars
  pub auto : x.vars.port_control ≡ Auto
  pub port : x.vars.port ≡ h.port
  pub peer : x.vars.peer ≡ h.address
  pub fine : Fine (is_some (pending_of h.number s.waits)) (settled x.vars).vars

-- ---- what a frame leads to

-- what may come from a host that has a session
pub data FromHost : Event → Type 0 where
  start : FromHost Start
  logoff : FromHost Logoff
  packet : (eap : List ℕ) → FromHost (Packet eap)

-- a port that is configured, and up
pub record IsUp (s : State) (q : Port) : Type 0 where
  pub here : port_of q.conf.port s ≡ Some q
  pub link : q.link ≡ true

-- the case of a frame is of what there is: of a port that is up, forced or Auto, with room for a host that has no session, or of a
-- session that there is
abbrev pub Fits : State → FrameCase → Type 0
Fits s (Dropped line) = Unit {0}
Fits s (Forces q from) = IsUp s q × (is_auto q.control ≡ false)
Fits s (Opens q from) = IsUp s q × (is_auto q.control ≡ true) × (session_at q.conf.port from s ≡ None) × (is_full q.conf.port s ≡ false)
Fits s (Turns y e) = In y s.sessions × FromHost e

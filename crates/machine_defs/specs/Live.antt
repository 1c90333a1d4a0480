-- The values that the variables of a session, or of a forced port, can have.
use Rattle.std.specs.Prelude.{◌≡◌, ℕ, ◌-◌, ◌≤◌, Bool, true, false, ◌||◌, if◌then◌else◌, List, [], length}
use Rattle.arrayvec.specs.ArrayVec.{ArrayVec}
use Rattle.machine_vars.specs.declared.vars.Vars.{Vars}
use Rattle.machine_vars.specs.declared.control.Times.{Times}
use Rattle.machine_vars.specs.declared.control.Control.{Control}
use Rattle.machine_vars.specs.declared.control.Control.TheVariants.{Auto}
use Rattle.machine_vars.specs.declared.states.Pae.TheVariants as Pae
use Rattle.machine_vars.specs.declared.states.Backend.TheVariants as Backend
use Rattle.machine_vars.specs.declared.states.Reauth.TheVariants as Reauth
use Rattle.machine_vars.specs.declared.states.EapState.TheVariants as Eap
use Rattle.wire_defs.specs.Ethernet.{pae_group}
use Rattle.machine_defs.specs.BackendTable.{is_auto}
use Rattle.machine_defs.specs.ReauthTable.{stops}
use Rattle.machine_vars.specs.declared.states.Row.{Row}
use Rattle.machine_defs.specs.Settling.{Settles}

abbrev pub as_octets : List ℕ → ArrayVec ℕ
as_octets octets = record { items = octets }

abbrev pub no_octets : ArrayVec ℕ
no_octets = as_octets []

-- the opening value, on a port with its address, for a peer (IEEE Std 802.1X-2004, 8.2.4; RFC 4137, 7)
abbrev pub fresh : ℕ → List ℕ → List ℕ → Control → Times → Vars
fresh port own peer control t = record {
  pae = Pae.Initialize;
  backend = Backend.Initialize;
  reauth = Reauth.Initialize;
  eap = Eap.Disabled;
  port = port;
  own = own;
  peer = peer;
  times = t;
  port_control = control;
  port_enabled = true;
  port_mode = Auto;
  port_valid = true;
  initialize = false;
  auth_port_status = false;
  re_auth_count = 0;
  retrans_count = 0;
  current_id = 0;
  quiet_while = 0;
  a_while = 0;
  re_auth_when = 0;
  retrans_while = 0;
  re_auth_enabled = t.reauth;
  re_auth_period = t.reauth_period;
  method_timeout = 0;
  eapol_start = false;
  eapol_logoff = false;
  eapol_eap = false;
  auth_start = false;
  auth_abort = false;
  auth_success = false;
  auth_fail = false;
  auth_timeout = false;
  key_run = false;
  key_done = false;
  re_authenticate = false;
  eap_restart = false;
  eap_req = false;
  eap_no_req = false;
  eap_resp = false;
  eap_success = false;
  eap_fail = false;
  eap_timeout = false;
  aaa_eap_resp = false;
  aaa_eap_req = false;
  aaa_eap_no_req = false;
  aaa_timeout = false;
  aaa_fail = false;
  aaa_success = false;
  aaa_abort = false;
  local = false;
  gone = false;
  rx_eap = no_octets;
  eap_resp_data = no_octets;
  last_req_data = no_octets;
  aaa_eap_req_data = no_octets;
  identity = no_octets;
}

-- the ranges of the Times
pub record InRange (t : Times) : Type 0 where
  pub quiet_from : 1 ≤ t.quiet
  pub server_from : 1 ≤ t.server
  pub most_from : 1 ≤ t.reauth_max
  pub most_to : t.reauth_max ≤ 10
  pub period_from : 1 ≤ t.reauth_period

-- what can come to a session or a forced port
pub data Event : Type 0 where
  -- the host begins, or logs off (IEEE Std 802.1X-2004, 7.5.4)
  Start : Event
  Logoff : Event
  -- a host begins on a forced port, from this address
  Greeting : List ℕ → Event
  -- an EAP packet of the host
  Packet : List ℕ → Event
  -- the server asks on: an EAP packet, and how long its response is to be waited for, with 0 for no word on that
  Challenge : List ℕ → ℕ → Event
  -- the server asks on without an EAP packet
  Notice : Event
  -- the server accepts: an EAP packet, whether the host is to be authenticated again, and after how long
  Accept : List ℕ → Bool → ℕ → Event
  -- the server refuses: an EAP packet
  Reject : List ℕ → Event
  -- a second goes by, in which the server may be given up
  Second : Bool → Event
  -- the server changes whether the host is to be authenticated again, and after how long (RFC 5176, 3.6)
  Change : Bool → ℕ → Event

-- the variables that an event sets
abbrev pub set : Event → Vars → Vars
set Start v = record v { eapol_start = true }
set Logoff v = record v { eapol_logoff = true }
set (Greeting source) v = record v { eapol_start = true; peer = source }
set (Packet eap) v = record v { eapol_eap = true; rx_eap = as_octets eap }
set (Challenge eap wait) v =
    record v { aaa_eap_req = true; aaa_eap_req_data = as_octets eap; method_timeout = wait }
set Notice v = record v { aaa_eap_no_req = true }
set (Accept eap again period) v = record v {
  aaa_success = true;
  aaa_eap_req_data = as_octets eap;
  re_auth_enabled = again;
  re_auth_period = period;
  re_auth_when = period;
}
set (Reject eap) v = record v { aaa_fail = true; aaa_eap_req_data = as_octets eap }
set (Second gave_up) v = record v {
  quiet_while = v.quiet_while - 1;
  a_while = v.a_while - 1;
  retrans_while = v.retrans_while - 1;
  re_auth_when = if stops v then v.re_auth_when else v.re_auth_when - 1;
  aaa_timeout = v.aaa_timeout || gave_up;
}
set (Change again period) v =
    record v { re_auth_enabled = again; re_auth_period = period; re_auth_when = period }

-- an EAP packet of the server's has an identifier, a period is not 0, and a greeting comes on a forced
-- port
abbrev pub IsProper : Event → Vars → Type 0
IsProper Start v = Unit {0}
IsProper Logoff v = Unit {0}
IsProper (Greeting source) v = is_auto v.port_control ≡ false
IsProper (Packet eap) v = Unit {0}
IsProper (Challenge eap wait) v = 2 ≤ length eap
IsProper Notice v = Unit {0}
IsProper (Accept eap again period) v = (2 ≤ length eap) × (1 ≤ period)
IsProper (Reject eap) v = 2 ≤ length eap
IsProper (Second gave_up) v = Unit {0}
IsProper (Change again period) v = 1 ≤ period

-- what is taken back once a settling was acted upon: the word to the server, or that nothing is wanted of it
abbrev pub cleared : Vars → Vars
cleared v = record v { aaa_abort = false; aaa_eap_resp = false }

-- a forced port speaks to all hosts again (IEEE Std 802.1X-2004, 7.8)
abbrev pub to_all : Vars → Vars
to_all v = record v { peer = pae_group }

-- the values of a session or of a forced port
pub data Live : Vars → Type 0 where
  born : (port : ℕ) (own peer : List ℕ) (control : Control) (t : Times) → InRange t →
      Live (fresh port own peer control t)
  rested : {v w : Vars} {rows : List Row} {sent : List (List ℕ)} → Live v →
      Settles v rows sent w → Live w
  turned : {v w : Vars} {rows : List Row} {sent : List (List ℕ)} (e : Event) → Live v → IsProper e v →
      Settles (set e v) rows sent w → Live w
  taken : {v : Vars} → Live v → Live (cleared v)
  addressed : {v : Vars} → Live v → is_auto v.port_control ≡ false → Live (to_all v)

-- what may be settled: a Live value, also with the variables of an event
pub data Ready : Vars → Type 0 where
  still : {v : Vars} → Live v → Ready v
  turns : {v : Vars} (e : Event) → Live v → IsProper e v → Ready (set e v)

-- what may come to a session while the server is asked, but for its answer and the end of all patience
pub data ComesBetween : Event → Type 0 where
  start : ComesBetween Start
  logoff : ComesBetween Logoff
  packet : (eap : List ℕ) → ComesBetween (Packet eap)
  second : ComesBetween (Second false)

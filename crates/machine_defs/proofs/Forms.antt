-- The settled values as records with the flags and timers filled in, which the chains of rows compute on.
use Rattle.std.proofs.Common.{◌≡◌, ℕ, suc, Bool, true, false}
use Rattle.std.specs.Prelude.{nat_lt}
use Rattle.machine_vars.specs.declared.vars.Vars.{Vars}
use Rattle.machine_vars.specs.declared.control.Control.TheVariants.{Auto, ForceAuth, ForceUnauth}
use Rattle.machine_vars.specs.declared.states.Pae.TheVariants as Pae
use Rattle.machine_vars.specs.declared.states.Backend.TheVariants as Backend
use Rattle.machine_vars.specs.declared.states.Reauth.TheVariants as Reauth
use Rattle.machine_vars.specs.declared.states.EapState.TheVariants as Eap

-- the quiet period, the server's time and the reauthentication period, each less one, and the method's time
pub record Numbers : Type 0 where
  pub quiet : ℕ
  pub server : ℕ
  pub period : ℕ
  pub method : ℕ

-- the status and the reauthentication timer, which does not stand at 0 while it runs
pub data Clock : Type 0 where
  shut : Bool → ℕ → Clock
  still : ℕ → Clock
  ticks : ℕ → Clock

abbrev pub status : Clock → Bool
status (shut on w) = false
status (still w) = true
status (ticks w) = true

abbrev pub enabled : Clock → Bool
enabled (shut on w) = on
enabled (still w) = false
enabled (ticks w) = true

abbrev pub when : Clock → ℕ
when (shut on w) = w
when (still w) = w
when (ticks w) = suc w

-- the host is asked at least once, and neither it nor a request is tried too often
pub record Bounds (most tries again : ℕ) : Type 0 where
  pub some : nat_lt most 1 ≡ false
  pub tried : nat_lt most tries ≡ false
  pub sent : nat_lt 3 again ≡ false

abbrev pub Kept : Vars → Type 0
Kept v = Bounds v.times.reauth_max v.re_auth_count v.retrans_count

-- a session on an Auto port that goes on
abbrev pub auto : Vars → Numbers → Clock → Vars
auto v n c = record v {
  times = record v.times { quiet = suc n.quiet; server = suc n.server };
  re_auth_period = suc n.period;
  method_timeout = n.method;
  reauth = Reauth.Initialize;
  port_control = Auto;
  port_enabled = true;
  port_mode = Auto;
  port_valid = true;
  initialize = false;
  gone = false;
  auth_port_status = status c;
  re_auth_enabled = enabled c;
  re_auth_when = when c;
}

-- while a host is authenticated no flag of an event before is left
abbrev pub authenticating : Vars → Numbers → Clock → Vars
authenticating v n c = record (auto v n c) {
  pae = Pae.Authenticating;
  auth_start = true;
  eapol_start = false;
  eapol_logoff = false;
  auth_abort = false;
  auth_success = false;
  auth_fail = false;
  auth_timeout = false;
  key_run = false;
  key_done = false;
  eap_restart = false;
  eap_req = false;
  eap_no_req = false;
  eap_success = false;
  eap_fail = false;
}

-- the host is asked: its response is waited for while retransWhile runs
abbrev pub request : Vars → Numbers → Clock → ℕ → Vars
request v n c r = record (authenticating v n c) { backend = Backend.Request; eap = Eap.Idle2; retrans_while = suc r; eapol_eap = false; eap_resp = false; eap_timeout = false }

-- the same after a response that was not taken
abbrev pub ignore : Vars → Numbers → Clock → ℕ → Vars
ignore v n c r = record (authenticating v n c) { backend = Backend.Ignore; eap = Eap.Idle2; retrans_while = suc r; eapol_eap = false; eap_resp = false; eap_timeout = false }

-- the server is asked while aWhile runs; a response may wait, and a reauthentication may be due
abbrev pub asks_server : Vars → Numbers → Clock → ℕ → Bool → Bool → Vars
asks_server v n c a heard again = record (authenticating v n c) {
  eapol_eap = heard;
  re_authenticate = again;
  backend = Backend.Response;
  eap = Eap.AaaIdle;
  a_while = suc a;
  eap_resp = true;
  eap_timeout = false;
  aaa_eap_req = false;
  aaa_eap_no_req = false;
  aaa_timeout = false;
  aaa_fail = false;
  aaa_success = false;
}

-- the server was given up, and aWhile still runs
abbrev pub gave_up : Vars → Numbers → Clock → ℕ → Vars
gave_up v n c a = record (authenticating v n c) { backend = Backend.Response; eap = Eap.TimeoutFailure2; a_while = suc a; eap_resp = true; eap_timeout = true }

-- the time until reauthentication, which is not 0 where it is wanted
abbrev pub has_left : Bool → ℕ → ℕ
has_left true w = suc w
has_left false w = w

-- authorized, with reauthentication on or off
abbrev pub authenticated : Vars → Numbers → Bool → ℕ → Vars
authenticated v n on w = record (auto v n (shut on w)) {
  pae = Pae.Authenticated;
  backend = Backend.Idle;
  eap = Eap.Success2;
  auth_port_status = true;
  re_auth_when = has_left on w;
  auth_start = false;
  eapol_start = false;
  eapol_logoff = false;
  auth_abort = false;
  auth_fail = false;
  auth_timeout = false;
  re_authenticate = false;
  eap_restart = false;
  eap_req = false;
  eap_no_req = false;
  eap_fail = false;
  eap_timeout = false;
}

-- refused, while quietWhile runs
abbrev pub held : Vars → Numbers → Bool → ℕ → ℕ → Vars
held v n on w q = record (auto v n (shut on w)) {
  pae = Pae.Held;
  backend = Backend.Idle;
  eap = Eap.Failure2;
  quiet_while = suc q;
  auth_start = false;
  auth_abort = false;
  auth_success = false;
  auth_timeout = false;
  eap_restart = false;
  eap_req = false;
  eap_no_req = false;
  eap_success = false;
  eap_timeout = false;
}

-- a port that is forced open, and one that is forced shut
abbrev pub forced_open : Vars → Vars
forced_open v = record v {
  pae = Pae.ForceAuth;
  backend = Backend.Initialize;
  reauth = Reauth.Initialize;
  eap = Eap.Disabled;
  port_control = ForceAuth;
  port_mode = ForceAuth;
  port_enabled = true;
  initialize = false;
  gone = false;
  eapol_start = false;
  eap_restart = false;
  auth_abort = false;
}

abbrev pub forced_shut : Vars → Vars
forced_shut v = record v {
  pae = Pae.ForceUnauth;
  backend = Backend.Initialize;
  reauth = Reauth.Initialize;
  eap = Eap.Disabled;
  port_control = ForceUnauth;
  port_mode = ForceUnauth;
  port_enabled = true;
  initialize = false;
  gone = false;
  eapol_start = false;
  eap_restart = false;
  auth_abort = false;
}

-- the host was given up
abbrev pub gone : Vars → Vars
gone v = record v { pae = Pae.Disconnected; backend = Backend.Idle; reauth = Reauth.Initialize; eap = Eap.Start; auth_port_status = false }

-- r, a, w and q are what a timer that runs has left, less one
pub data Formed : Vars → Type 0 where
  as_request : {v : Vars} (n : Numbers) (c : Clock) (r : ℕ) → Kept v → v ≡ request v n c r → Formed v
  as_ignore : {v : Vars} (n : Numbers) (c : Clock) (r : ℕ) → Kept v → v ≡ ignore v n c r → Formed v
  as_server : {v : Vars} (n : Numbers) (c : Clock) (a : ℕ) (heard again : Bool) → Kept v → v ≡ asks_server v n c a heard again → Formed v
  as_gave_up : {v : Vars} (n : Numbers) (c : Clock) (a : ℕ) → Kept v → v ≡ gave_up v n c a → Formed v
  as_authenticated : {v : Vars} (n : Numbers) (on : Bool) (w : ℕ) → Kept v → v ≡ authenticated v n on w → Formed v
  as_held : {v : Vars} (n : Numbers) (on : Bool) (w q : ℕ) → Kept v → v ≡ held v n on w q → Formed v
  as_open : {v : Vars} → Kept v → v ≡ forced_open v → Formed v
  as_shut : {v : Vars} → Kept v → v ≡ forced_shut v → Formed v
  as_end : {v : Vars} → Kept v → v.gone ≡ true → v ≡ gone v → Formed v

abbrev pub numbers : ℕ → ℕ → ℕ → ℕ → Numbers
numbers q s p m = record { quiet = q; server = s; period = p; method = m }

-- The settled values of the variables, by the combination of the machines' states: for each of the nine
-- which flags are up or down, and which timer runs. What is not named may be as it likes.
use Rattle.std.specs.Prelude.{◌≡◌, ◌≤◌, true, false}
use Rattle.machine_vars.specs.declared.vars.Vars.{Vars}
use Rattle.machine_vars.specs.declared.control.Control.TheVariants as Control
use Rattle.machine_vars.specs.declared.states.Pae.{Pae as PaeState}
use Rattle.machine_vars.specs.declared.states.Pae.TheVariants as Pae
use Rattle.machine_vars.specs.declared.states.Backend.{Backend as BackendState}
use Rattle.machine_vars.specs.declared.states.Backend.TheVariants as Backend
use Rattle.machine_vars.specs.declared.states.Reauth.TheVariants as Reauth
use Rattle.machine_vars.specs.declared.states.EapState.{EapState}
use Rattle.machine_vars.specs.declared.states.EapState.TheVariants as Eap

-- the states of the four machines; the reauthentication timer rests in INITIALIZE in all nine
pub record AreStates (v : Vars) (p : PaeState) (b : BackendState) (e : EapState) : Type 0 where
  pub pae : v.pae ≡ p
  pub backend : v.backend ≡ b
  pub reauth : v.reauth ≡ Reauth.Initialize
  pub eap : v.eap ≡ e

-- the host was asked at most as often as it may be, and so was each request
pub record AreFew (v : Vars) : Type 0 where
  pub most : 1 ≤ v.times.reauth_max
  pub tries : v.re_auth_count ≤ v.times.reauth_max
  pub again : v.retrans_count ≤ 3

-- a session on an Auto port that goes on; where the reauthentication timer runs, it has not run out
pub record GoesOn (v : Vars) : Type 0 where
  pub control : v.port_control ≡ Control.Auto
  pub mode : v.port_mode ≡ Control.Auto
  pub enabled : v.port_enabled ≡ true
  pub valid : v.port_valid ≡ true
  pub initialize : v.initialize ≡ false
  pub gone : v.gone ≡ false
  pub quiet : 1 ≤ v.times.quiet
  pub server : 1 ≤ v.times.server
  pub period : 1 ≤ v.re_auth_period
  pub clock : v.auth_port_status ≡ true → v.re_auth_enabled ≡ true → 1 ≤ v.re_auth_when

-- while a host is authenticated no flag of an event before is left
pub record IsAuthenticating (v : Vars) : Type 0 where
  pub auth_start : v.auth_start ≡ true
  pub eapol_start : v.eapol_start ≡ false
  pub eapol_logoff : v.eapol_logoff ≡ false
  pub auth_abort : v.auth_abort ≡ false
  pub auth_success : v.auth_success ≡ false
  pub auth_fail : v.auth_fail ≡ false
  pub auth_timeout : v.auth_timeout ≡ false
  pub key_run : v.key_run ≡ false
  pub key_done : v.key_done ≡ false
  pub eap_restart : v.eap_restart ≡ false
  pub eap_req : v.eap_req ≡ false
  pub eap_no_req : v.eap_no_req ≡ false
  pub eap_success : v.eap_success ≡ false
  pub eap_fail : v.eap_fail ≡ false

-- the host is waited for
pub record IsWaiting (v : Vars) : Type 0 where
  pub eapol_eap : v.eapol_eap ≡ false
  pub eap_resp : v.eap_resp ≡ false
  pub eap_timeout : v.eap_timeout ≡ false

-- the host is asked: its response is waited for while retransWhile runs
pub record AtRequest (v : Vars) : Type 0 where
  pub states : AreStates v Pae.Authenticating Backend.Request Eap.Idle2
  pub session : GoesOn v
  pub runs : 1 ≤ v.retrans_while
  pub flags : IsAuthenticating v
  pub calm : IsWaiting v

-- the same after a response that was not taken
pub record AtIgnore (v : Vars) : Type 0 where
  pub states : AreStates v Pae.Authenticating Backend.Ignore Eap.Idle2
  pub session : GoesOn v
  pub runs : 1 ≤ v.retrans_while
  pub flags : IsAuthenticating v
  pub calm : IsWaiting v

-- the server has not answered yet
pub record IsConsulted (v : Vars) : Type 0 where
  pub eap_resp : v.eap_resp ≡ true
  pub eap_timeout : v.eap_timeout ≡ false
  pub aaa_eap_req : v.aaa_eap_req ≡ false
  pub aaa_eap_no_req : v.aaa_eap_no_req ≡ false
  pub aaa_timeout : v.aaa_timeout ≡ false
  pub aaa_fail : v.aaa_fail ≡ false
  pub aaa_success : v.aaa_success ≡ false

-- the server is asked while aWhile runs; a packet may have come since, and the host may have to be
-- authenticated again
pub record AtServer (v : Vars) : Type 0 where
  pub states : AreStates v Pae.Authenticating Backend.Response Eap.AaaIdle
  pub session : GoesOn v
  pub runs : 1 ≤ v.a_while
  pub flags : IsAuthenticating v
  pub calm : IsConsulted v

-- the server was given up, and aWhile still runs
pub record AtGaveUp (v : Vars) : Type 0 where
  pub states : AreStates v Pae.Authenticating Backend.Response Eap.TimeoutFailure2
  pub session : GoesOn v
  pub runs : 1 ≤ v.a_while
  pub flags : IsAuthenticating v
  pub eap_resp : v.eap_resp ≡ true
  pub eap_timeout : v.eap_timeout ≡ true

-- the host is let in
pub record IsAdmitted (v : Vars) : Type 0 where
  pub auth_start : v.auth_start ≡ false
  pub eapol_start : v.eapol_start ≡ false
  pub eapol_logoff : v.eapol_logoff ≡ false
  pub auth_abort : v.auth_abort ≡ false
  pub auth_fail : v.auth_fail ≡ false
  pub auth_timeout : v.auth_timeout ≡ false
  pub re_authenticate : v.re_authenticate ≡ false
  pub eap_restart : v.eap_restart ≡ false
  pub eap_req : v.eap_req ≡ false
  pub eap_no_req : v.eap_no_req ≡ false
  pub eap_fail : v.eap_fail ≡ false
  pub eap_timeout : v.eap_timeout ≡ false

pub record AtAuthenticated (v : Vars) : Type 0 where
  pub states : AreStates v Pae.Authenticated Backend.Idle Eap.Success2
  pub session : GoesOn v
  pub status : v.auth_port_status ≡ true
  pub flags : IsAdmitted v

-- the host was refused; that it begins or logs off is looked at once quietWhile has run out
pub record IsRefused (v : Vars) : Type 0 where
  pub auth_start : v.auth_start ≡ false
  pub auth_abort : v.auth_abort ≡ false
  pub auth_success : v.auth_success ≡ false
  pub auth_timeout : v.auth_timeout ≡ false
  pub eap_restart : v.eap_restart ≡ false
  pub eap_req : v.eap_req ≡ false
  pub eap_no_req : v.eap_no_req ≡ false
  pub eap_success : v.eap_success ≡ false
  pub eap_timeout : v.eap_timeout ≡ false

pub record AtHeld (v : Vars) : Type 0 where
  pub states : AreStates v Pae.Held Backend.Idle Eap.Failure2
  pub session : GoesOn v
  pub status : v.auth_port_status ≡ false
  pub runs : 1 ≤ v.quiet_while
  pub flags : IsRefused v

-- a port that is forced
pub record IsForced (v : Vars) : Type 0 where
  pub enabled : v.port_enabled ≡ true
  pub initialize : v.initialize ≡ false
  pub gone : v.gone ≡ false
  pub eapol_start : v.eapol_start ≡ false
  pub eap_restart : v.eap_restart ≡ false
  pub auth_abort : v.auth_abort ≡ false

-- open, and shut
pub record AtOpen (v : Vars) : Type 0 where
  pub states : AreStates v Pae.ForceAuth Backend.Initialize Eap.Disabled
  pub control : v.port_control ≡ Control.ForceAuth
  pub mode : v.port_mode ≡ Control.ForceAuth
  pub flags : IsForced v

pub record AtShut (v : Vars) : Type 0 where
  pub states : AreStates v Pae.ForceUnauth Backend.Initialize Eap.Disabled
  pub control : v.port_control ≡ Control.ForceUnauth
  pub mode : v.port_mode ≡ Control.ForceUnauth
  pub flags : IsForced v

-- the host was given up
pub record AtEnd (v : Vars) : Type 0 where
  pub states : AreStates v Pae.Disconnected Backend.Idle Eap.Start
  pub status : v.auth_port_status ≡ false
  pub gone : v.gone ≡ true

pub data Settled : Vars → Type 0 where
  at_request : {v : Vars} → AreFew v → AtRequest v → Settled v
  at_ignore : {v : Vars} → AreFew v → AtIgnore v → Settled v
  at_server : {v : Vars} → AreFew v → AtServer v → Settled v
  at_gave_up : {v : Vars} → AreFew v → AtGaveUp v → Settled v
  at_authenticated : {v : Vars} → AreFew v → AtAuthenticated v → Settled v
  at_held : {v : Vars} → AreFew v → AtHeld v → Settled v
  at_open : {v : Vars} → AreFew v → AtOpen v → Settled v
  at_shut : {v : Vars} → AreFew v → AtShut v → Settled v
  at_end : {v : Vars} → AreFew v → AtEnd v → Settled v

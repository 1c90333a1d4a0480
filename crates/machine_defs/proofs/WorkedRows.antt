-- Each row alone, from each state that it starts from: once with nearly all flags up, so that each flag that it takes back is
-- seen, and once with nearly all of them down, so that each that it sets is. What is expected comes from another program, as
-- in Worked.
use Rattle.std.proofs.Common.{◌≡◌, true, false, [], ◌∷◌, replicate, refl}
use Rattle.machine_vars.specs.declared.vars.Vars.{Vars}
use Rattle.machine_vars.specs.declared.control.Control.TheVariants as Control
use Rattle.machine_vars.specs.declared.states.Pae.TheVariants as Pae
use Rattle.machine_vars.specs.declared.states.Backend.TheVariants as Backend
use Rattle.machine_vars.specs.declared.states.Reauth.TheVariants as Reauth
use Rattle.machine_vars.specs.declared.states.EapState.TheVariants as Eap
use Rattle.machine_vars.specs.declared.states.Row.TheVariants.{P, B, A, E}
use Rattle.machine_defs.specs.EapTable.{response_fits}
use Rattle.machine_defs.specs.Live.{fresh, as_octets}
use Rattle.machine_defs.proofs.Walking.{Does, own, peer, times}

-- all flags up, but for the end of the session
abbrev noisy : Vars
noisy = record (fresh 1 own peer Control.Auto times) {
  pae = Pae.Held;
  backend = Backend.Idle;
  eap = Eap.Failure2;
  auth_port_status = true;
  re_auth_count = 1;
  retrans_count = 2;
  current_id = 77;
  quiet_while = 11;
  a_while = 12;
  re_auth_when = 13;
  retrans_while = 14;
  re_auth_period = 9;
  method_timeout = 15;
  eapol_start = true;
  eapol_logoff = true;
  eapol_eap = true;
  auth_start = true;
  auth_abort = true;
  auth_success = true;
  auth_fail = true;
  auth_timeout = true;
  key_run = true;
  key_done = true;
  re_authenticate = true;
  eap_restart = true;
  eap_req = true;
  eap_no_req = true;
  eap_resp = true;
  eap_success = true;
  eap_fail = true;
  eap_timeout = true;
  aaa_eap_resp = true;
  aaa_eap_req = true;
  aaa_eap_no_req = true;
  aaa_timeout = true;
  aaa_fail = true;
  aaa_success = true;
  aaa_abort = true;
  local = true;
  rx_eap = as_octets (2 ∷ 77 ∷ 0 ∷ 6 ∷ 1 ∷ 97 ∷ []);
  eap_resp_data = as_octets (2 ∷ 77 ∷ 0 ∷ 7 ∷ 1 ∷ 98 ∷ 99 ∷ []);
  last_req_data = as_octets (1 ∷ 77 ∷ 0 ∷ 6 ∷ 4 ∷ 1 ∷ []);
  aaa_eap_req_data = as_octets (1 ∷ 88 ∷ 0 ∷ 6 ∷ 4 ∷ 2 ∷ []);
  identity = as_octets (100 ∷ []);
}

-- all flags down
abbrev quiet : Vars
quiet = record (fresh 1 own peer Control.Auto times) {
  pae = Pae.Held;
  backend = Backend.Idle;
  eap = Eap.Failure2;
  re_auth_count = 1;
  retrans_count = 2;
  current_id = 77;
  quiet_while = 11;
  a_while = 12;
  re_auth_when = 13;
  retrans_while = 14;
  re_auth_enabled = false;
  re_auth_period = 9;
  method_timeout = 15;
  rx_eap = as_octets (2 ∷ 77 ∷ 0 ∷ 6 ∷ 1 ∷ 97 ∷ []);
  eap_resp_data = as_octets (2 ∷ 77 ∷ 0 ∷ 7 ∷ 1 ∷ 98 ∷ 99 ∷ []);
  last_req_data = as_octets (1 ∷ 77 ∷ 0 ∷ 6 ∷ 4 ∷ 1 ∷ []);
  aaa_eap_req_data = as_octets (1 ∷ 88 ∷ 0 ∷ 6 ∷ 4 ∷ 2 ∷ []);
  identity = as_octets (100 ∷ []);
}

p1_held_all : Does (P 1) (record noisy { port_mode = Control.ForceUnauth }) []
    (λ v. record v { pae = Pae.Initialize; port_mode = Control.Auto })
p1_held_all = refl

p1_held_none : Does (P 1) (record quiet { port_mode = Control.ForceUnauth }) []
    (λ v. record v { pae = Pae.Initialize; port_mode = Control.Auto })
p1_held_none = refl

p2_held_all : Does (P 2) (record noisy { port_control = Control.ForceAuth }) ((3 ∷ 77 ∷ 0 ∷ 4 ∷ []) ∷ [])
    (λ v. record v { pae = Pae.ForceAuth; port_mode = Control.ForceAuth; eapol_start = false })
p2_held_all = refl

p2_held_none : Does (P 2) (record quiet { port_control = Control.ForceAuth }) ((3 ∷ 77 ∷ 0 ∷ 4 ∷ []) ∷ [])
    (λ v. record v { pae = Pae.ForceAuth; port_mode = Control.ForceAuth; auth_port_status = true })
p2_held_none = refl

p3_held_all : Does (P 3) (record noisy { port_control = Control.ForceUnauth }) ((4 ∷ 77 ∷ 0 ∷ 4 ∷ []) ∷ [])
    (λ v. record v { pae = Pae.ForceUnauth; port_mode = Control.ForceUnauth; auth_port_status = false; eapol_start = false })
p3_held_all = refl

p3_held_none : Does (P 3) (record quiet { port_control = Control.ForceUnauth }) ((4 ∷ 77 ∷ 0 ∷ 4 ∷ []) ∷ [])
    (λ v. record v { pae = Pae.ForceUnauth; port_mode = Control.ForceUnauth })
p3_held_none = refl

p4_initialize_all : Does (P 4) (record noisy { pae = Pae.Initialize }) []
    (λ v. record v { pae = Pae.Disconnected; auth_port_status = false; re_auth_count = 0; eapol_logoff = false })
p4_initialize_all = refl

p4_initialize_none : Does (P 4) (record quiet { pae = Pae.Initialize }) []
    (λ v. record v { pae = Pae.Disconnected; re_auth_count = 0 })
p4_initialize_none = refl

p5_disconnected_all : Does (P 5) (record noisy { pae = Pae.Disconnected }) []
    (λ v. record v { pae = Pae.Restart })
p5_disconnected_all = refl

p5_disconnected_none : Does (P 5) (record quiet { pae = Pae.Disconnected }) []
    (λ v. record v { pae = Pae.Restart; eap_restart = true })
p5_disconnected_none = refl

p6_restart_all : Does (P 6) (record noisy { pae = Pae.Restart; eap_restart = false }) []
    (λ v. record v { pae = Pae.Connecting; re_auth_count = 2; re_authenticate = false })
p6_restart_all = refl

p6_restart_none : Does (P 6) (record quiet { pae = Pae.Restart }) []
    (λ v. record v { pae = Pae.Connecting; re_auth_count = 2 })
p6_restart_none = refl

p7_connecting_all : Does (P 7) (record noisy { pae = Pae.Connecting }) []
    (λ v. record v { pae = Pae.Disconnected; auth_port_status = false; re_auth_count = 0; eapol_logoff = false })
p7_connecting_all = refl

p7_connecting_none : Does (P 7) (record quiet { pae = Pae.Connecting; eapol_logoff = true }) []
    (λ v. record v { pae = Pae.Disconnected; re_auth_count = 0; eapol_logoff = false })
p7_connecting_none = refl

p8_connecting_all : Does (P 8) (record noisy { pae = Pae.Connecting; eapol_logoff = false }) []
    (λ v. record v { pae = Pae.Authenticating; eapol_start = false; auth_success = false; auth_fail = false; auth_timeout = false; key_run = false; key_done = false })
p8_connecting_all = refl

p8_connecting_none : Does (P 8) (record quiet { pae = Pae.Connecting; eap_req = true }) []
    (λ v. record v { pae = Pae.Authenticating; auth_start = true })
p8_connecting_none = refl

p9_authenticating_all : Does (P 9) (record noisy { pae = Pae.Authenticating }) []
    (λ v. record v { pae = Pae.Authenticated; re_auth_count = 0 })
p9_authenticating_all = refl

p9_authenticating_none : Does (P 9) (record quiet { pae = Pae.Authenticating; auth_success = true }) []
    (λ v. record v { pae = Pae.Authenticated; auth_port_status = true; re_auth_count = 0 })
p9_authenticating_none = refl

p10_authenticating_all : Does (P 10) (record noisy { pae = Pae.Authenticating; auth_success = false }) []
    (λ v. record v { pae = Pae.Held; auth_port_status = false; quiet_while = 2; eapol_logoff = false })
p10_authenticating_all = refl

p10_authenticating_none : Does (P 10) (record quiet { pae = Pae.Authenticating; auth_fail = true }) []
    (λ v. record v { pae = Pae.Held; quiet_while = 2 })
p10_authenticating_none = refl

p11_authenticating_all : Does (P 11) (record noisy { pae = Pae.Authenticating; auth_success = false; auth_fail = false }) []
    (λ v. record v { pae = Pae.Aborting; key_run = false; key_done = false })
p11_authenticating_all = refl

p11_authenticating_none : Does (P 11) (record quiet { pae = Pae.Authenticating; eapol_start = true }) []
    (λ v. record v { pae = Pae.Aborting; auth_abort = true })
p11_authenticating_none = refl

p12_authenticated_all : Does (P 12) (record noisy { pae = Pae.Authenticated }) []
    (λ v. record v { pae = Pae.Restart })
p12_authenticated_all = refl

p12_authenticated_none : Does (P 12) (record quiet { pae = Pae.Authenticated; re_authenticate = true }) []
    (λ v. record v { pae = Pae.Restart; eap_restart = true })
p12_authenticated_none = refl

p13_authenticated_all : Does (P 13) (record noisy { pae = Pae.Authenticated; eapol_start = false; re_authenticate = false }) []
    (λ v. record v { pae = Pae.Disconnected; auth_port_status = false; re_auth_count = 0; eapol_logoff = false })
p13_authenticated_all = refl

p13_authenticated_none : Does (P 13) (record quiet { pae = Pae.Authenticated; eapol_logoff = true }) []
    (λ v. record v { pae = Pae.Disconnected; re_auth_count = 0; eapol_logoff = false })
p13_authenticated_none = refl

p14_aborting_all : Does (P 14) (record noisy { pae = Pae.Aborting; auth_abort = false }) []
    (λ v. record v { pae = Pae.Disconnected; auth_port_status = false; re_auth_count = 0; eapol_logoff = false })
p14_aborting_all = refl

p14_aborting_none : Does (P 14) (record quiet { pae = Pae.Aborting; eapol_logoff = true }) []
    (λ v. record v { pae = Pae.Disconnected; re_auth_count = 0; eapol_logoff = false })
p14_aborting_none = refl

p15_aborting_all : Does (P 15) (record noisy { pae = Pae.Aborting; eapol_logoff = false; auth_abort = false }) []
    (λ v. record v { pae = Pae.Restart })
p15_aborting_all = refl

p15_aborting_none : Does (P 15) (record quiet { pae = Pae.Aborting }) []
    (λ v. record v { pae = Pae.Restart; eap_restart = true })
p15_aborting_none = refl

p16_held_all : Does (P 16) (record noisy { quiet_while = 0 }) []
    (λ v. record v { pae = Pae.Restart })
p16_held_all = refl

p16_held_none : Does (P 16) (record quiet { quiet_while = 0 }) []
    (λ v. record v { pae = Pae.Restart; eap_restart = true })
p16_held_none = refl

p17_force_auth_all : Does (P 17) (record noisy { pae = Pae.ForceAuth; port_control = Control.ForceAuth; port_mode = Control.ForceAuth }) ((3 ∷ 77 ∷ 0 ∷ 4 ∷ []) ∷ [])
    (λ v. record v { eapol_start = false })
p17_force_auth_all = refl

p17_force_auth_none : Does (P 17) (record quiet { pae = Pae.ForceAuth; port_control = Control.ForceAuth; port_mode = Control.ForceAuth; eapol_start = true }) ((3 ∷ 77 ∷ 0 ∷ 4 ∷ []) ∷ [])
    (λ v. record v { auth_port_status = true; eapol_start = false })
p17_force_auth_none = refl

p18_force_unauth_all : Does (P 18) (record noisy { pae = Pae.ForceUnauth; port_control = Control.ForceUnauth; port_mode = Control.ForceUnauth }) ((4 ∷ 77 ∷ 0 ∷ 4 ∷ []) ∷ [])
    (λ v. record v { auth_port_status = false; eapol_start = false })
p18_force_unauth_all = refl

p18_force_unauth_none : Does (P 18) (record quiet { pae = Pae.ForceUnauth; port_control = Control.ForceUnauth; port_mode = Control.ForceUnauth; eapol_start = true }) ((4 ∷ 77 ∷ 0 ∷ 4 ∷ []) ∷ [])
    (λ v. record v { eapol_start = false })
p18_force_unauth_none = refl

b1_response_all : Does (B 1) (record noisy { backend = Backend.Response }) []
    (λ v. record v { backend = Backend.Initialize; auth_abort = false; eap_no_req = false; aaa_eap_resp = false })
b1_response_all = refl

b1_response_none : Does (B 1) (record quiet { backend = Backend.Response; auth_abort = true }) []
    (λ v. record v { backend = Backend.Initialize; auth_abort = false; aaa_abort = true })
b1_response_none = refl

b2_initialize_all : Does (B 2) (record noisy { backend = Backend.Initialize; auth_abort = false }) []
    (λ v. record v { backend = Backend.Idle; auth_start = false })
b2_initialize_all = refl

b2_initialize_none : Does (B 2) (record quiet { backend = Backend.Initialize }) []
    (λ v. record v { backend = Backend.Idle })
b2_initialize_none = refl

b3_idle_all : Does (B 3) (record noisy { auth_abort = false }) ((1 ∷ 88 ∷ 0 ∷ 6 ∷ 4 ∷ 2 ∷ []) ∷ [])
    (λ v. record v { backend = Backend.Fail })
b3_idle_all = refl

b3_idle_none : Does (B 3) (record quiet { auth_start = true; eap_fail = true }) ((1 ∷ 88 ∷ 0 ∷ 6 ∷ 4 ∷ 2 ∷ []) ∷ [])
    (λ v. record v { backend = Backend.Fail; auth_fail = true })
b3_idle_none = refl

b4_idle_all : Does (B 4) (record noisy { auth_abort = false; eap_fail = false }) ((1 ∷ 77 ∷ 0 ∷ 6 ∷ 4 ∷ 1 ∷ []) ∷ [])
    (λ v. record v { backend = Backend.Request; eapol_eap = false; eap_req = false })
b4_idle_all = refl

b4_idle_none : Does (B 4) (record quiet { auth_start = true; eap_req = true }) ((1 ∷ 77 ∷ 0 ∷ 6 ∷ 4 ∷ 1 ∷ []) ∷ [])
    (λ v. record v { backend = Backend.Request; eap_req = false })
b4_idle_none = refl

b5_idle_all : Does (B 5) (record noisy { auth_abort = false; eap_req = false; eap_fail = false }) ((1 ∷ 88 ∷ 0 ∷ 6 ∷ 4 ∷ 2 ∷ []) ∷ [])
    (λ v. record v { backend = Backend.Success })
b5_idle_all = refl

b5_idle_none : Does (B 5) (record quiet { auth_start = true; eap_success = true }) ((1 ∷ 88 ∷ 0 ∷ 6 ∷ 4 ∷ 2 ∷ []) ∷ [])
    (λ v. record v { backend = Backend.Success; auth_success = true; key_run = true })
b5_idle_none = refl

b6_request_all : Does (B 6) (record noisy { backend = Backend.Request; auth_abort = false }) []
    (λ v. record v { backend = Backend.Response; a_while = 3; eapol_eap = false; auth_timeout = false; eap_no_req = false; eap_resp_data = as_octets (2 ∷ 77 ∷ 0 ∷ 6 ∷ 1 ∷ 97 ∷ []) })
b6_request_all = refl

b6_request_none : Does (B 6) (record quiet { backend = Backend.Request; eapol_eap = true }) []
    (λ v. record v { backend = Backend.Response; a_while = 3; eapol_eap = false; eap_resp = true; eap_resp_data = as_octets (2 ∷ 77 ∷ 0 ∷ 6 ∷ 1 ∷ 97 ∷ []) })
b6_request_none = refl

b6_ignore_all : Does (B 6) (record noisy { backend = Backend.Ignore; auth_abort = false }) []
    (λ v. record v { backend = Backend.Response; a_while = 3; eapol_eap = false; auth_timeout = false; eap_no_req = false; eap_resp_data = as_octets (2 ∷ 77 ∷ 0 ∷ 6 ∷ 1 ∷ 97 ∷ []) })
b6_ignore_all = refl

b6_ignore_none : Does (B 6) (record quiet { backend = Backend.Ignore; eapol_eap = true }) []
    (λ v. record v { backend = Backend.Response; a_while = 3; eapol_eap = false; eap_resp = true; eap_resp_data = as_octets (2 ∷ 77 ∷ 0 ∷ 6 ∷ 1 ∷ 97 ∷ []) })
b6_ignore_none = refl

b7_request_all : Does (B 7) (record noisy { backend = Backend.Request; eapol_eap = false; auth_abort = false }) ((1 ∷ 77 ∷ 0 ∷ 6 ∷ 4 ∷ 1 ∷ []) ∷ [])
    (λ v. record v { eap_req = false })
b7_request_all = refl

b7_request_none : Does (B 7) (record quiet { backend = Backend.Request; eap_req = true }) ((1 ∷ 77 ∷ 0 ∷ 6 ∷ 4 ∷ 1 ∷ []) ∷ [])
    (λ v. record v { eap_req = false })
b7_request_none = refl

b7_ignore_all : Does (B 7) (record noisy { backend = Backend.Ignore; eapol_eap = false; auth_abort = false }) ((1 ∷ 77 ∷ 0 ∷ 6 ∷ 4 ∷ 1 ∷ []) ∷ [])
    (λ v. record v { backend = Backend.Request; eap_req = false })
b7_ignore_all = refl

b7_ignore_none : Does (B 7) (record quiet { backend = Backend.Ignore; eap_req = true }) ((1 ∷ 77 ∷ 0 ∷ 6 ∷ 4 ∷ 1 ∷ []) ∷ [])
    (λ v. record v { backend = Backend.Request; eap_req = false })
b7_ignore_none = refl

b8_request_all : Does (B 8) (record noisy { backend = Backend.Request; eapol_eap = false; auth_abort = false; eap_req = false }) []
    (λ v. record v { backend = Backend.Timeout })
b8_request_all = refl

b8_request_none : Does (B 8) (record quiet { backend = Backend.Request; eap_timeout = true }) []
    (λ v. record v { backend = Backend.Timeout; auth_timeout = true })
b8_request_none = refl

b8_ignore_all : Does (B 8) (record noisy { backend = Backend.Ignore; eapol_eap = false; auth_abort = false; eap_req = false }) []
    (λ v. record v { backend = Backend.Timeout })
b8_ignore_all = refl

b8_ignore_none : Does (B 8) (record quiet { backend = Backend.Ignore; eap_timeout = true }) []
    (λ v. record v { backend = Backend.Timeout; auth_timeout = true })
b8_ignore_none = refl

b9_response_all : Does (B 9) (record noisy { backend = Backend.Response; auth_abort = false }) []
    (λ v. record v { backend = Backend.Ignore; eap_no_req = false })
b9_response_all = refl

b9_response_none : Does (B 9) (record quiet { backend = Backend.Response; eap_no_req = true }) []
    (λ v. record v { backend = Backend.Ignore; eap_no_req = false })
b9_response_none = refl

b10_response_all : Does (B 10) (record noisy { backend = Backend.Response; auth_abort = false; eap_no_req = false }) ((1 ∷ 77 ∷ 0 ∷ 6 ∷ 4 ∷ 1 ∷ []) ∷ [])
    (λ v. record v { backend = Backend.Request; eapol_eap = false; eap_req = false })
b10_response_all = refl

b10_response_none : Does (B 10) (record quiet { backend = Backend.Response; eap_req = true }) ((1 ∷ 77 ∷ 0 ∷ 6 ∷ 4 ∷ 1 ∷ []) ∷ [])
    (λ v. record v { backend = Backend.Request; eap_req = false })
b10_response_none = refl

b11_response_all : Does (B 11) (record noisy { backend = Backend.Response; a_while = 0; auth_abort = false; eap_req = false; eap_no_req = false }) []
    (λ v. record v { backend = Backend.Timeout })
b11_response_all = refl

b11_response_none : Does (B 11) (record quiet { backend = Backend.Response; a_while = 0 }) []
    (λ v. record v { backend = Backend.Timeout; auth_timeout = true })
b11_response_none = refl

b12_response_all : Does (B 12) (record noisy { backend = Backend.Response; auth_abort = false; eap_req = false; eap_no_req = false }) ((1 ∷ 88 ∷ 0 ∷ 6 ∷ 4 ∷ 2 ∷ []) ∷ [])
    (λ v. record v { backend = Backend.Fail })
b12_response_all = refl

b12_response_none : Does (B 12) (record quiet { backend = Backend.Response; eap_fail = true }) ((1 ∷ 88 ∷ 0 ∷ 6 ∷ 4 ∷ 2 ∷ []) ∷ [])
    (λ v. record v { backend = Backend.Fail; auth_fail = true })
b12_response_none = refl

b13_response_all : Does (B 13) (record noisy { backend = Backend.Response; auth_abort = false; eap_req = false; eap_no_req = false; eap_fail = false }) ((1 ∷ 88 ∷ 0 ∷ 6 ∷ 4 ∷ 2 ∷ []) ∷ [])
    (λ v. record v { backend = Backend.Success })
b13_response_all = refl

b13_response_none : Does (B 13) (record quiet { backend = Backend.Response; eap_success = true }) ((1 ∷ 88 ∷ 0 ∷ 6 ∷ 4 ∷ 2 ∷ []) ∷ [])
    (λ v. record v { backend = Backend.Success; auth_success = true; key_run = true })
b13_response_none = refl

b14_timeout_all : Does (B 14) (record noisy { backend = Backend.Timeout; auth_abort = false }) []
    (λ v. record v { backend = Backend.Idle; auth_start = false })
b14_timeout_all = refl

b14_timeout_none : Does (B 14) (record quiet { backend = Backend.Timeout }) []
    (λ v. record v { backend = Backend.Idle })
b14_timeout_none = refl

b14_success_all : Does (B 14) (record noisy { backend = Backend.Success; auth_abort = false }) []
    (λ v. record v { backend = Backend.Idle; auth_start = false })
b14_success_all = refl

b14_success_none : Does (B 14) (record quiet { backend = Backend.Success }) []
    (λ v. record v { backend = Backend.Idle })
b14_success_none = refl

b14_fail_all : Does (B 14) (record noisy { backend = Backend.Fail; auth_abort = false }) []
    (λ v. record v { backend = Backend.Idle; auth_start = false })
b14_fail_all = refl

b14_fail_none : Does (B 14) (record quiet { backend = Backend.Fail }) []
    (λ v. record v { backend = Backend.Idle })
b14_fail_none = refl

a1_reauthenticate_all : Does (A 1) (record noisy { reauth = Reauth.Reauthenticate; auth_port_status = false; auth_start = false; auth_abort = false }) []
    (λ v. record v { reauth = Reauth.Initialize; re_auth_when = 9 })
a1_reauthenticate_all = refl

a1_reauthenticate_none : Does (A 1) (record quiet { reauth = Reauth.Reauthenticate }) []
    (λ v. record v { reauth = Reauth.Initialize; re_auth_when = 9 })
a1_reauthenticate_none = refl

a2_initialize_all : Does (A 2) (record noisy { re_auth_when = 0; auth_start = false; auth_abort = false }) []
    (λ v. record v { reauth = Reauth.Reauthenticate })
a2_initialize_all = refl

a2_initialize_none : Does (A 2) (record quiet { auth_port_status = true; re_auth_when = 0; re_auth_enabled = true }) []
    (λ v. record v { reauth = Reauth.Reauthenticate; re_authenticate = true })
a2_initialize_none = refl

a3_reauthenticate_all : Does (A 3) (record noisy { reauth = Reauth.Reauthenticate; auth_start = false; auth_abort = false }) []
    (λ v. record v { reauth = Reauth.Initialize; re_auth_when = 9 })
a3_reauthenticate_all = refl

a3_reauthenticate_none : Does (A 3) (record quiet { reauth = Reauth.Reauthenticate; auth_port_status = true; re_auth_enabled = true }) []
    (λ v. record v { reauth = Reauth.Initialize; re_auth_when = 9 })
a3_reauthenticate_none = refl

e1_success2_all : Does (E 1) (record noisy { eap = Eap.Success2; auth_start = false; auth_abort = false }) []
    (λ v. record v { eap = Eap.Start; retrans_count = 0; current_id = 78; method_timeout = 0; eap_restart = false; eap_no_req = false; eap_resp = false; eap_success = false; eap_fail = false; eap_timeout = false; last_req_data = as_octets (1 ∷ 78 ∷ 0 ∷ 5 ∷ 1 ∷ []) })
e1_success2_all = refl

e1_success2_none : Does (E 1) (record quiet { eap = Eap.Success2; eap_restart = true }) []
    (λ v. record v { eap = Eap.Start; retrans_count = 0; current_id = 78; method_timeout = 0; eap_restart = false; eap_req = true; local = true; last_req_data = as_octets (1 ∷ 78 ∷ 0 ∷ 5 ∷ 1 ∷ []) })
e1_success2_none = refl

e2_start_all : Does (E 2) (record noisy { eap = Eap.Start; auth_start = false; auth_abort = false; eap_restart = false }) []
    (λ v. record v { eap = Eap.Idle2; retrans_while = 15 })
e2_start_all = refl

e2_start_none : Does (E 2) (record quiet { eap = Eap.Start }) []
    (λ v. record v { eap = Eap.Idle2; retrans_while = 15 })
e2_start_none = refl

e3_idle2_all : Does (E 3) (record noisy { eap = Eap.Idle2; auth_start = false; auth_abort = false; eap_restart = false }) []
    (λ v. record v { eap = Eap.Received2 })
e3_idle2_all = refl

e3_idle2_none : Does (E 3) (record quiet { eap = Eap.Idle2; eap_resp = true }) []
    (λ v. record v { eap = Eap.Received2 })
e3_idle2_none = refl

e4_idle2_all : Does (E 4) (record noisy { eap = Eap.Idle2; retrans_while = 0; auth_start = false; auth_abort = false; eap_restart = false; eap_resp = false }) []
    (λ v. record v { eap = Eap.Retransmit2; retrans_count = 3 })
e4_idle2_all = refl

e4_idle2_none : Does (E 4) (record quiet { eap = Eap.Idle2; retrans_while = 0 }) []
    (λ v. record v { eap = Eap.Retransmit2; retrans_count = 3; eap_req = true })
e4_idle2_none = refl

e5_retransmit2_all : Does (E 5) (record noisy { eap = Eap.Retransmit2; retrans_count = 4; auth_start = false; auth_abort = false; eap_restart = false }) []
    (λ v. record v { eap = Eap.TimeoutFailure2 })
e5_retransmit2_all = refl

e5_retransmit2_none : Does (E 5) (record quiet { eap = Eap.Retransmit2; retrans_count = 4 }) []
    (λ v. record v { eap = Eap.TimeoutFailure2; eap_timeout = true })
e5_retransmit2_none = refl

e6_retransmit2_all : Does (E 6) (record noisy { eap = Eap.Retransmit2; auth_start = false; auth_abort = false; eap_restart = false }) []
    (λ v. record v { eap = Eap.Idle2; retrans_while = 15 })
e6_retransmit2_all = refl

e6_retransmit2_none : Does (E 6) (record quiet { eap = Eap.Retransmit2 }) []
    (λ v. record v { eap = Eap.Idle2; retrans_while = 15 })
e6_retransmit2_none = refl

e7_received2_all : Does (E 7) (record noisy { eap = Eap.Received2; auth_start = false; auth_abort = false; eap_restart = false }) []
    (λ v. record v { eap = Eap.AaaRequest; identity = as_octets (98 ∷ 99 ∷ []) })
e7_received2_all = refl

e7_received2_none : Does (E 7) (record quiet { eap = Eap.Received2 }) []
    (λ v. record v { eap = Eap.AaaRequest; identity = as_octets (98 ∷ 99 ∷ []) })
e7_received2_none = refl

e8_received2_all : Does (E 8) (record noisy { eap = Eap.Received2; auth_start = false; auth_abort = false; eap_restart = false; eap_resp_data = as_octets (2 ∷ 78 ∷ 0 ∷ 7 ∷ 1 ∷ 98 ∷ 99 ∷ []) }) []
    (λ v. record v { eap = Eap.Discard2; eap_resp = false })
e8_received2_all = refl

e8_received2_none : Does (E 8) (record quiet { eap = Eap.Received2; eap_resp_data = as_octets (2 ∷ 78 ∷ 0 ∷ 7 ∷ 1 ∷ 98 ∷ 99 ∷ []) }) []
    (λ v. record v { eap = Eap.Discard2; eap_no_req = true })
e8_received2_none = refl

e9_discard2_all : Does (E 9) (record noisy { eap = Eap.Discard2; auth_start = false; auth_abort = false; eap_restart = false }) []
    (λ v. record v { eap = Eap.Idle2; retrans_while = 15 })
e9_discard2_all = refl

e9_discard2_none : Does (E 9) (record quiet { eap = Eap.Discard2 }) []
    (λ v. record v { eap = Eap.Idle2; retrans_while = 15 })
e9_discard2_none = refl

e10_aaa_request_all : Does (E 10) (record noisy { eap = Eap.AaaRequest; auth_start = false; auth_abort = false; eap_restart = false }) []
    (λ v. record v { eap = Eap.AaaIdle; aaa_eap_req = false; aaa_eap_no_req = false; aaa_timeout = false; aaa_fail = false; aaa_success = false })
e10_aaa_request_all = refl

e10_aaa_request_none : Does (E 10) (record quiet { eap = Eap.AaaRequest }) []
    (λ v. record v { eap = Eap.AaaIdle; aaa_eap_resp = true })
e10_aaa_request_none = refl

e11_aaa_idle_all : Does (E 11) (record noisy { eap = Eap.AaaIdle; auth_start = false; auth_abort = false; eap_restart = false }) []
    (λ v. record v { eap = Eap.Discard2; eap_resp = false })
e11_aaa_idle_all = refl

e11_aaa_idle_none : Does (E 11) (record quiet { eap = Eap.AaaIdle; aaa_eap_no_req = true }) []
    (λ v. record v { eap = Eap.Discard2; eap_no_req = true })
e11_aaa_idle_none = refl

e12_aaa_idle_all : Does (E 12) (record noisy { eap = Eap.AaaIdle; auth_start = false; auth_abort = false; eap_restart = false; aaa_eap_no_req = false }) []
    (λ v. record v { eap = Eap.AaaResponse; current_id = 88; local = false; last_req_data = as_octets (1 ∷ 88 ∷ 0 ∷ 6 ∷ 4 ∷ 2 ∷ []) })
e12_aaa_idle_all = refl

e12_aaa_idle_none : Does (E 12) (record quiet { eap = Eap.AaaIdle; aaa_eap_req = true }) []
    (λ v. record v { eap = Eap.AaaResponse; current_id = 88; last_req_data = as_octets (1 ∷ 88 ∷ 0 ∷ 6 ∷ 4 ∷ 2 ∷ []) })
e12_aaa_idle_none = refl

e13_aaa_idle_all : Does (E 13) (record noisy { eap = Eap.AaaIdle; auth_start = false; auth_abort = false; eap_restart = false; aaa_eap_req = false; aaa_eap_no_req = false }) []
    (λ v. record v { eap = Eap.TimeoutFailure2 })
e13_aaa_idle_all = refl

e13_aaa_idle_none : Does (E 13) (record quiet { eap = Eap.AaaIdle; aaa_timeout = true }) []
    (λ v. record v { eap = Eap.TimeoutFailure2; eap_timeout = true })
e13_aaa_idle_none = refl

e14_aaa_idle_all : Does (E 14) (record noisy { eap = Eap.AaaIdle; auth_start = false; auth_abort = false; eap_restart = false; aaa_eap_req = false; aaa_eap_no_req = false; aaa_timeout = false }) []
    (λ v. record v { eap = Eap.Failure2 })
e14_aaa_idle_all = refl

e14_aaa_idle_none : Does (E 14) (record quiet { eap = Eap.AaaIdle; aaa_fail = true }) []
    (λ v. record v { eap = Eap.Failure2; eap_fail = true })
e14_aaa_idle_none = refl

e15_aaa_idle_all : Does (E 15) (record noisy { eap = Eap.AaaIdle; auth_start = false; auth_abort = false; eap_restart = false; aaa_eap_req = false; aaa_eap_no_req = false; aaa_timeout = false; aaa_fail = false }) []
    (λ v. record v { eap = Eap.Success2 })
e15_aaa_idle_all = refl

e15_aaa_idle_none : Does (E 15) (record quiet { eap = Eap.AaaIdle; aaa_success = true }) []
    (λ v. record v { eap = Eap.Success2; eap_success = true })
e15_aaa_idle_none = refl

e16_aaa_response_all : Does (E 16) (record noisy { eap = Eap.AaaResponse; auth_start = false; auth_abort = false; eap_restart = false }) []
    (λ v. record v { eap = Eap.SendRequest2; retrans_count = 0; eap_resp = false })
e16_aaa_response_all = refl

e16_aaa_response_none : Does (E 16) (record quiet { eap = Eap.AaaResponse }) []
    (λ v. record v { eap = Eap.SendRequest2; retrans_count = 0; eap_req = true })
e16_aaa_response_none = refl

e17_send_request2_all : Does (E 17) (record noisy { eap = Eap.SendRequest2; auth_start = false; auth_abort = false; eap_restart = false }) []
    (λ v. record v { eap = Eap.Idle2; retrans_while = 15 })
e17_send_request2_all = refl

e17_send_request2_none : Does (E 17) (record quiet { eap = Eap.SendRequest2 }) []
    (λ v. record v { eap = Eap.Idle2; retrans_while = 15 })
e17_send_request2_none = refl

-- ---- which responses fit: the identifier, the type where the identity was asked for, and an identity's length

fits_1 : response_fits (2 ∷ 7 ∷ 0 ∷ 6 ∷ 1 ∷ 97 ∷ []) 7 true ≡ true
fits_1 = refl

fits_2 : response_fits (2 ∷ 7 ∷ 0 ∷ 6 ∷ 1 ∷ 97 ∷ []) 7 false ≡ true
fits_2 = refl

fits_3 : response_fits (2 ∷ 7 ∷ 0 ∷ 6 ∷ 1 ∷ 97 ∷ []) 8 true ≡ false
fits_3 = refl

fits_4 : response_fits (1 ∷ 7 ∷ 0 ∷ 6 ∷ 1 ∷ 97 ∷ []) 7 true ≡ false
fits_4 = refl

fits_5 : response_fits (2 ∷ 7 ∷ 0 ∷ 6 ∷ 4 ∷ 97 ∷ []) 7 true ≡ false
fits_5 = refl

fits_6 : response_fits (2 ∷ 7 ∷ 0 ∷ 6 ∷ 4 ∷ 97 ∷ []) 7 false ≡ true
fits_6 = refl

fits_7 : response_fits (2 ∷ 7 ∷ 0 ∷ 5 ∷ 4 ∷ []) 7 false ≡ true
fits_7 = refl

fits_8 : response_fits (2 ∷ 7 ∷ 0 ∷ 5 ∷ 1 ∷ []) 7 true ≡ false
fits_8 = refl

fits_9 : response_fits (2 ∷ 7 ∷ 0 ∷ 5 ∷ 1 ∷ []) 7 false ≡ false
fits_9 = refl

fits_10 : response_fits (3 ∷ 7 ∷ 0 ∷ 4 ∷ []) 7 false ≡ false
fits_10 = refl

fits_11 : response_fits (2 ∷ 7 ∷ 0 ∷ 4 ∷ []) 7 false ≡ false
fits_11 = refl

fits_12 : response_fits (2 ∷ 7 ∷ 1 ∷ 2 ∷ 1 ∷ replicate 253 97) 7 true ≡ true
fits_12 = refl

fits_13 : response_fits (2 ∷ 7 ∷ 1 ∷ 3 ∷ 1 ∷ replicate 254 97) 7 true ≡ false
fits_13 = refl

fits_14 : response_fits (2 ∷ 7 ∷ 1 ∷ 3 ∷ 1 ∷ replicate 254 97) 7 false ≡ false
fits_14 = refl

fits_15 : response_fits (2 ∷ 7 ∷ 1 ∷ 44 ∷ 4 ∷ replicate 295 97) 7 false ≡ true
fits_15 = refl

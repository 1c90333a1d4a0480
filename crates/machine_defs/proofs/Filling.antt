-- A field whose value is known may be filled in.
use Rattle.std.proofs.Common.{◌≡◌, ℕ, Bool, refl, ap, ◌∙◌}
use Rattle.machine_vars.specs.declared.vars.Vars.{Vars}
use Rattle.machine_vars.specs.declared.control.Times.{Times}
use Rattle.machine_vars.specs.declared.control.Control.{Control}
use Rattle.machine_vars.specs.declared.states.Pae.{Pae}
use Rattle.machine_vars.specs.declared.states.Backend.{Backend}
use Rattle.machine_vars.specs.declared.states.Reauth.{Reauth}
use Rattle.machine_vars.specs.declared.states.EapState.{EapState}

module _ (v : Vars) where
  pub same : v ≡ v
  same = refl

  pub to_pae : {w : Vars} {x : Pae} → v.pae ≡ x → v ≡ w → v ≡ record w { pae = x }
  to_pae {x = x} e h = ap (λ (y : Pae). record v { pae = y }) e ∙ ap (λ (u : Vars). record u { pae = x }) h

  pub to_backend : {w : Vars} {x : Backend} → v.backend ≡ x → v ≡ w → v ≡ record w { backend = x }
  to_backend {x = x} e h = ap (λ (y : Backend). record v { backend = y }) e ∙ ap (λ (u : Vars). record u { backend = x }) h

  pub to_reauth : {w : Vars} {x : Reauth} → v.reauth ≡ x → v ≡ w → v ≡ record w { reauth = x }
  to_reauth {x = x} e h = ap (λ (y : Reauth). record v { reauth = y }) e ∙ ap (λ (u : Vars). record u { reauth = x }) h

  pub to_eap : {w : Vars} {x : EapState} → v.eap ≡ x → v ≡ w → v ≡ record w { eap = x }
  to_eap {x = x} e h = ap (λ (y : EapState). record v { eap = y }) e ∙ ap (λ (u : Vars). record u { eap = x }) h

  pub to_port_control : {w : Vars} {x : Control} → v.port_control ≡ x → v ≡ w → v ≡ record w { port_control = x }
  to_port_control {x = x} e h = ap (λ (y : Control). record v { port_control = y }) e ∙ ap (λ (u : Vars). record u { port_control = x }) h

  pub to_port_mode : {w : Vars} {x : Control} → v.port_mode ≡ x → v ≡ w → v ≡ record w { port_mode = x }
  to_port_mode {x = x} e h = ap (λ (y : Control). record v { port_mode = y }) e ∙ ap (λ (u : Vars). record u { port_mode = x }) h

  pub to_times : {w : Vars} {x : Times} → v.times ≡ x → v ≡ w → v ≡ record w { times = x }
  to_times {x = x} e h = ap (λ (y : Times). record v { times = y }) e ∙ ap (λ (u : Vars). record u { times = x }) h

  pub to_port_enabled : {w : Vars} {x : Bool} → v.port_enabled ≡ x → v ≡ w → v ≡ record w { port_enabled = x }
  to_port_enabled {x = x} e h = ap (λ (y : Bool). record v { port_enabled = y }) e ∙ ap (λ (u : Vars). record u { port_enabled = x }) h

  pub to_port_valid : {w : Vars} {x : Bool} → v.port_valid ≡ x → v ≡ w → v ≡ record w { port_valid = x }
  to_port_valid {x = x} e h = ap (λ (y : Bool). record v { port_valid = y }) e ∙ ap (λ (u : Vars). record u { port_valid = x }) h

  pub to_initialize : {w : Vars} {x : Bool} → v.initialize ≡ x → v ≡ w → v ≡ record w { initialize = x }
  to_initialize {x = x} e h = ap (λ (y : Bool). record v { initialize = y }) e ∙ ap (λ (u : Vars). record u { initialize = x }) h

  pub to_auth_port_status : {w : Vars} {x : Bool} → v.auth_port_status ≡ x → v ≡ w → v ≡ record w { auth_port_status = x }
  to_auth_port_status {x = x} e h = ap (λ (y : Bool). record v { auth_port_status = y }) e ∙ ap (λ (u : Vars). record u { auth_port_status = x }) h

  pub to_re_auth_enabled : {w : Vars} {x : Bool} → v.re_auth_enabled ≡ x → v ≡ w → v ≡ record w { re_auth_enabled = x }
  to_re_auth_enabled {x = x} e h = ap (λ (y : Bool). record v { re_auth_enabled = y }) e ∙ ap (λ (u : Vars). record u { re_auth_enabled = x }) h

  pub to_eapol_start : {w : Vars} {x : Bool} → v.eapol_start ≡ x → v ≡ w → v ≡ record w { eapol_start = x }
  to_eapol_start {x = x} e h = ap (λ (y : Bool). record v { eapol_start = y }) e ∙ ap (λ (u : Vars). record u { eapol_start = x }) h

  pub to_eapol_logoff : {w : Vars} {x : Bool} → v.eapol_logoff ≡ x → v ≡ w → v ≡ record w { eapol_logoff = x }
  to_eapol_logoff {x = x} e h = ap (λ (y : Bool). record v { eapol_logoff = y }) e ∙ ap (λ (u : Vars). record u { eapol_logoff = x }) h

  pub to_eapol_eap : {w : Vars} {x : Bool} → v.eapol_eap ≡ x → v ≡ w → v ≡ record w { eapol_eap = x }
  to_eapol_eap {x = x} e h = ap (λ (y : Bool). record v { eapol_eap = y }) e ∙ ap (λ (u : Vars). record u { eapol_eap = x }) h

  pub to_auth_start : {w : Vars} {x : Bool} → v.auth_start ≡ x → v ≡ w → v ≡ record w { auth_start = x }
  to_auth_start {x = x} e h = ap (λ (y : Bool). record v { auth_start = y }) e ∙ ap (λ (u : Vars). record u { auth_start = x }) h

  pub to_auth_abort : {w : Vars} {x : Bool} → v.auth_abort ≡ x → v ≡ w → v ≡ record w { auth_abort = x }
  to_auth_abort {x = x} e h = ap (λ (y : Bool). record v { auth_abort = y }) e ∙ ap (λ (u : Vars). record u { auth_abort = x }) h

  pub to_auth_success : {w : Vars} {x : Bool} → v.auth_success ≡ x → v ≡ w → v ≡ record w { auth_success = x }
  to_auth_success {x = x} e h = ap (λ (y : Bool). record v { auth_success = y }) e ∙ ap (λ (u : Vars). record u { auth_success = x }) h

  pub to_auth_fail : {w : Vars} {x : Bool} → v.auth_fail ≡ x → v ≡ w → v ≡ record w { auth_fail = x }
  to_auth_fail {x = x} e h = ap (λ (y : Bool). record v { auth_fail = y }) e ∙ ap (λ (u : Vars). record u { auth_fail = x }) h

  pub to_auth_timeout : {w : Vars} {x : Bool} → v.auth_timeout ≡ x → v ≡ w → v ≡ record w { auth_timeout = x }
  to_auth_timeout {x = x} e h = ap (λ (y : Bool). record v { auth_timeout = y }) e ∙ ap (λ (u : Vars). record u { auth_timeout = x }) h

  pub to_key_run : {w : Vars} {x : Bool} → v.key_run ≡ x → v ≡ w → v ≡ record w { key_run = x }
  to_key_run {x = x} e h = ap (λ (y : Bool). record v { key_run = y }) e ∙ ap (λ (u : Vars). record u { key_run = x }) h

  pub to_key_done : {w : Vars} {x : Bool} → v.key_done ≡ x → v ≡ w → v ≡ record w { key_done = x }
  to_key_done {x = x} e h = ap (λ (y : Bool). record v { key_done = y }) e ∙ ap (λ (u : Vars). record u { key_done = x }) h

  pub to_re_authenticate : {w : Vars} {x : Bool} → v.re_authenticate ≡ x → v ≡ w → v ≡ record w { re_authenticate = x }
  to_re_authenticate {x = x} e h = ap (λ (y : Bool). record v { re_authenticate = y }) e ∙ ap (λ (u : Vars). record u { re_authenticate = x }) h

  pub to_eap_restart : {w : Vars} {x : Bool} → v.eap_restart ≡ x → v ≡ w → v ≡ record w { eap_restart = x }
  to_eap_restart {x = x} e h = ap (λ (y : Bool). record v { eap_restart = y }) e ∙ ap (λ (u : Vars). record u { eap_restart = x }) h

  pub to_eap_req : {w : Vars} {x : Bool} → v.eap_req ≡ x → v ≡ w → v ≡ record w { eap_req = x }
  to_eap_req {x = x} e h = ap (λ (y : Bool). record v { eap_req = y }) e ∙ ap (λ (u : Vars). record u { eap_req = x }) h

  pub to_eap_no_req : {w : Vars} {x : Bool} → v.eap_no_req ≡ x → v ≡ w → v ≡ record w { eap_no_req = x }
  to_eap_no_req {x = x} e h = ap (λ (y : Bool). record v { eap_no_req = y }) e ∙ ap (λ (u : Vars). record u { eap_no_req = x }) h

  pub to_eap_resp : {w : Vars} {x : Bool} → v.eap_resp ≡ x → v ≡ w → v ≡ record w { eap_resp = x }
  to_eap_resp {x = x} e h = ap (λ (y : Bool). record v { eap_resp = y }) e ∙ ap (λ (u : Vars). record u { eap_resp = x }) h

  pub to_eap_success : {w : Vars} {x : Bool} → v.eap_success ≡ x → v ≡ w → v ≡ record w { eap_success = x }
  to_eap_success {x = x} e h = ap (λ (y : Bool). record v { eap_success = y }) e ∙ ap (λ (u : Vars). record u { eap_success = x }) h

  pub to_eap_fail : {w : Vars} {x : Bool} → v.eap_fail ≡ x → v ≡ w → v ≡ record w { eap_fail = x }
  to_eap_fail {x = x} e h = ap (λ (y : Bool). record v { eap_fail = y }) e ∙ ap (λ (u : Vars). record u { eap_fail = x }) h

  pub to_eap_timeout : {w : Vars} {x : Bool} → v.eap_timeout ≡ x → v ≡ w → v ≡ record w { eap_timeout = x }
  to_eap_timeout {x = x} e h = ap (λ (y : Bool). record v { eap_timeout = y }) e ∙ ap (λ (u : Vars). record u { eap_timeout = x }) h

  pub to_aaa_eap_req : {w : Vars} {x : Bool} → v.aaa_eap_req ≡ x → v ≡ w → v ≡ record w { aaa_eap_req = x }
  to_aaa_eap_req {x = x} e h = ap (λ (y : Bool). record v { aaa_eap_req = y }) e ∙ ap (λ (u : Vars). record u { aaa_eap_req = x }) h

  pub to_aaa_eap_no_req : {w : Vars} {x : Bool} → v.aaa_eap_no_req ≡ x → v ≡ w → v ≡ record w { aaa_eap_no_req = x }
  to_aaa_eap_no_req {x = x} e h = ap (λ (y : Bool). record v { aaa_eap_no_req = y }) e ∙ ap (λ (u : Vars). record u { aaa_eap_no_req = x }) h

  pub to_aaa_timeout : {w : Vars} {x : Bool} → v.aaa_timeout ≡ x → v ≡ w → v ≡ record w { aaa_timeout = x }
  to_aaa_timeout {x = x} e h = ap (λ (y : Bool). record v { aaa_timeout = y }) e ∙ ap (λ (u : Vars). record u { aaa_timeout = x }) h

  pub to_aaa_fail : {w : Vars} {x : Bool} → v.aaa_fail ≡ x → v ≡ w → v ≡ record w { aaa_fail = x }
  to_aaa_fail {x = x} e h = ap (λ (y : Bool). record v { aaa_fail = y }) e ∙ ap (λ (u : Vars). record u { aaa_fail = x }) h

  pub to_aaa_success : {w : Vars} {x : Bool} → v.aaa_success ≡ x → v ≡ w → v ≡ record w { aaa_success = x }
  to_aaa_success {x = x} e h = ap (λ (y : Bool). record v { aaa_success = y }) e ∙ ap (λ (u : Vars). record u { aaa_success = x }) h

  pub to_gone : {w : Vars} {x : Bool} → v.gone ≡ x → v ≡ w → v ≡ record w { gone = x }
  to_gone {x = x} e h = ap (λ (y : Bool). record v { gone = y }) e ∙ ap (λ (u : Vars). record u { gone = x }) h

  pub to_quiet_while : {w : Vars} {x : ℕ} → v.quiet_while ≡ x → v ≡ w → v ≡ record w { quiet_while = x }
  to_quiet_while {x = x} e h = ap (λ (y : ℕ). record v { quiet_while = y }) e ∙ ap (λ (u : Vars). record u { quiet_while = x }) h

  pub to_a_while : {w : Vars} {x : ℕ} → v.a_while ≡ x → v ≡ w → v ≡ record w { a_while = x }
  to_a_while {x = x} e h = ap (λ (y : ℕ). record v { a_while = y }) e ∙ ap (λ (u : Vars). record u { a_while = x }) h

  pub to_re_auth_when : {w : Vars} {x : ℕ} → v.re_auth_when ≡ x → v ≡ w → v ≡ record w { re_auth_when = x }
  to_re_auth_when {x = x} e h = ap (λ (y : ℕ). record v { re_auth_when = y }) e ∙ ap (λ (u : Vars). record u { re_auth_when = x }) h

  pub to_retrans_while : {w : Vars} {x : ℕ} → v.retrans_while ≡ x → v ≡ w → v ≡ record w { retrans_while = x }
  to_retrans_while {x = x} e h = ap (λ (y : ℕ). record v { retrans_while = y }) e ∙ ap (λ (u : Vars). record u { retrans_while = x }) h

  pub to_re_auth_period : {w : Vars} {x : ℕ} → v.re_auth_period ≡ x → v ≡ w → v ≡ record w { re_auth_period = x }
  to_re_auth_period {x = x} e h = ap (λ (y : ℕ). record v { re_auth_period = y }) e ∙ ap (λ (u : Vars). record u { re_auth_period = x }) h

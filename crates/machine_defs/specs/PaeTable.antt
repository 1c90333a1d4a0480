-- The authenticator's port access entity machine (IEEE Std 802.1X-2004, 8.2.4).
use Rattle.std.specs.Prelude.{ℕ, ◌+◌, Bool, true, false, ◌==◌, ◌&&◌, ◌||◌, not, nat_lt, List, [], ◌∷◌}
use Rattle.wire_defs.specs.Eap.{canned}
use Rattle.machine_vars.specs.declared.vars.Vars.{Vars}
use Rattle.machine_vars.specs.declared.states.Row.TheVariants.{P}
use Rattle.machine_vars.specs.declared.control.Control.{Control}
use Rattle.machine_vars.specs.declared.control.Control.TheVariants.{Auto, ForceAuth, ForceUnauth}
use Rattle.machine_vars.specs.declared.states.Pae.{Pae}
use Rattle.machine_vars.specs.declared.states.Pae.TheVariants.{Initialize, Disconnected, Restart, Connecting, Authenticating, Authenticated, Aborting, Held, ForceAuth as ForcedOpen, ForceUnauth as ForcedShut}
use Rattle.machine_defs.specs.Table.{Line, is_zero}

abbrev pub control_number : Control → ℕ
control_number Auto = 0
control_number ForceAuth = 1
control_number ForceUnauth = 2

abbrev pub same_control : Control → Control → Bool
same_control a b = control_number a == control_number b

abbrev pub state_number : Pae → ℕ
state_number Initialize = 0
state_number Disconnected = 1
state_number Restart = 2
state_number Connecting = 3
state_number Authenticating = 4
state_number Authenticated = 5
state_number Aborting = 6
state_number Held = 7
state_number ForcedOpen = 8
state_number ForcedShut = 9

-- the machine is in this state
abbrev pub at : Pae → Vars → Bool
at s v = state_number v.pae == state_number s

-- the conditions of the rows from any state
abbrev pub must_initialize : Vars → Bool
must_initialize v =
    (same_control v.port_control Auto && not (same_control v.port_mode Auto))
    || v.initialize || not v.port_enabled

abbrev pub must_force : Control → Vars → Bool
must_force control v =
    same_control v.port_control control && not (same_control v.port_mode control)
    && not v.initialize && v.port_enabled

abbrev pub no_global : Vars → Bool
no_global v = not (must_initialize v) && not (must_force ForceAuth v) && not (must_force ForceUnauth v)

-- a row from one state
abbrev pub row : ℕ → (Vars → Bool) → (Vars → Bool) → (Vars → Vars) → (Vars → List (List ℕ)) → Line
row n here when after sends = record {
  name = P n;
  condition = λ v. no_global v && (here v && when v);
  after = after;
  sends = sends;
}

-- for rows with no condition of their own, and rows that send nothing
abbrev pub always : Vars → Bool
always v = true

abbrev pub nothing : Vars → List (List ℕ)
nothing v = []

-- the packets that tell a host of a forced port (RFC 3748, 4.2)
abbrev pub success : Vars → List (List ℕ)
success v = canned true v.current_id ∷ []

abbrev pub failure : Vars → List (List ℕ)
failure v = canned false v.current_id ∷ []

-- what each state does as it is entered (8.2.4)
abbrev pub initialize : Vars → Vars
initialize v = record v { pae = Initialize; port_mode = Auto }

abbrev pub disconnected : Vars → Vars
disconnected v = record v {
  pae = Disconnected;
  auth_port_status = false;
  re_auth_count = 0;
  eapol_logoff = false;
}

abbrev pub restart : Vars → Vars
restart v = record v { pae = Restart; eap_restart = true }

abbrev pub connecting : Vars → Vars
connecting v = record v {
  pae = Connecting;
  re_authenticate = false;
  re_auth_count = v.re_auth_count + 1;
}

abbrev pub authenticating : Vars → Vars
authenticating v = record v {
  pae = Authenticating;
  eapol_start = false;
  auth_success = false;
  auth_fail = false;
  auth_timeout = false;
  key_run = false;
  key_done = false;
  auth_start = true;
}

abbrev pub authenticated : Vars → Vars
authenticated v = record v { pae = Authenticated; auth_port_status = true; re_auth_count = 0 }

abbrev pub aborting : Vars → Vars
aborting v = record v { pae = Aborting; auth_abort = true; key_run = false; key_done = false }

abbrev pub held : Vars → Vars
held v = record v {
  pae = Held;
  auth_port_status = false;
  quiet_while = v.times.quiet;
  eapol_logoff = false;
}

abbrev pub force_auth : Vars → Vars
force_auth v = record v {
  pae = ForcedOpen;
  auth_port_status = true;
  port_mode = ForceAuth;
  eapol_start = false;
}

abbrev pub force_unauth : Vars → Vars
force_unauth v = record v {
  pae = ForcedShut;
  auth_port_status = false;
  port_mode = ForceUnauth;
  eapol_start = false;
}

-- the host was asked more often than it may be
abbrev pub tired : Vars → Bool
tired v = nat_lt v.times.reauth_max v.re_auth_count

-- the session ends where an unauthorized host was asked too often and has not begun anew
abbrev pub give_up : Vars → Vars
give_up v = record (disconnected v) {
  gone = v.gone || (not v.auth_port_status && not v.eapol_start && tired v);
}

abbrev pub pae_table : List Line
pae_table =
    record {
      name = P 1;
      condition = λ v. must_initialize v && (not (at Initialize v) || not (same_control v.port_mode Auto));
      after = initialize;
      sends = nothing;
    }
    ∷ record {
      name = P 2;
      condition = must_force ForceAuth;
      after = force_auth;
      sends = success;
    }
    ∷ record {
      name = P 3;
      condition = must_force ForceUnauth;
      after = force_unauth;
      sends = failure;
    }
    ∷ row 4 (at Initialize) always disconnected nothing
    ∷ row 5 (at Disconnected) always restart nothing
    ∷ row 6 (at Restart) (λ v. not v.eap_restart) connecting nothing
    ∷ row 7 (at Connecting) (λ v. v.eapol_logoff || tired v) give_up nothing
    ∷ row 8 (at Connecting) (λ v. v.eap_req || v.eap_success || v.eap_fail) authenticating nothing
    ∷ row 9 (at Authenticating) (λ v. v.auth_success && v.port_valid) authenticated nothing
    ∷ row 10 (at Authenticating) (λ v. v.auth_fail || (v.key_done && not v.port_valid)) held nothing
    ∷ row 11 (at Authenticating) (λ v. v.eapol_start || v.eapol_logoff || v.auth_timeout)
    aborting nothing
    ∷ row 12 (at Authenticated) (λ v. v.eapol_start || v.re_authenticate) restart nothing
    ∷ row 13 (at Authenticated) (λ v. v.eapol_logoff || not v.port_valid) disconnected nothing
    ∷ row 14 (at Aborting) (λ v. v.eapol_logoff && not v.auth_abort) disconnected nothing
    ∷ row 15 (at Aborting) (λ v. not v.eapol_logoff && not v.auth_abort) restart nothing
    ∷ row 16 (at Held) (λ v. is_zero v.quiet_while) restart nothing
    ∷ row 17 (at ForcedOpen) (λ v. v.eapol_start) force_auth success
    ∷ row 18 (at ForcedShut) (λ v. v.eapol_start) force_unauth failure
    ∷ []

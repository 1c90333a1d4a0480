-- The backend authentication machine (IEEE Std 802.1X-2004, 8.2).
use Rattle.std.specs.Prelude.{ℕ, Bool, true, false, ◌==◌, ◌&&◌, ◌||◌, not, List, [], ◌∷◌}
use Rattle.machine_vars.specs.declared.vars.Vars.{Vars}
use Rattle.machine_vars.specs.declared.states.Row.TheVariants.{B}
use Rattle.machine_vars.specs.declared.control.Control.{Control}
use Rattle.machine_vars.specs.declared.control.Control.TheVariants.{Auto, ForceAuth, ForceUnauth}
use Rattle.machine_vars.specs.declared.states.Backend.{Backend}
use Rattle.machine_vars.specs.declared.states.Backend.TheVariants.{Initialize, Idle, Request, Response, Ignore, Timeout, Success, Fail}
use Rattle.machine_defs.specs.Table.{Line, is_zero}

abbrev pub is_auto : Control → Bool
is_auto Auto = true
is_auto ForceAuth = false
is_auto ForceUnauth = false

abbrev pub state_number : Backend → ℕ
state_number Initialize = 0
state_number Idle = 1
state_number Request = 2
state_number Response = 3
state_number Ignore = 4
state_number Timeout = 5
state_number Success = 6
state_number Fail = 7

-- the machine is in this state
abbrev pub at : Backend → Vars → Bool
at s v = state_number v.backend == state_number s

-- the condition of the row from any state: the port is not controlled by authentication, is
-- initialized, or gives up what it began
abbrev pub resets : Vars → Bool
resets v = not (is_auto v.port_control) || v.initialize || v.auth_abort

-- a row from one state or some, which waits until the condition of that row does not hold
abbrev pub row : ℕ → (Vars → Bool) → (Vars → Bool) → (Vars → Vars) → (Vars → List (List ℕ)) → Line
row n here when after sends = record {
  name = B n;
  condition = λ v. not (resets v) && (here v && when v);
  after = after;
  sends = sends;
}

-- for rows with no condition of their own, and rows that send nothing
abbrev pub always : Vars → Bool
always v = true

abbrev pub nothing : Vars → List (List ℕ)
nothing v = []

-- the last request to the host, and what the server sent for it
abbrev pub asks : Vars → List (List ℕ)
asks v = v.last_req_data.items ∷ []

abbrev pub from_server : Vars → List (List ℕ)
from_server v = v.aaa_eap_req_data.items ∷ []

-- what each state does as it is entered
abbrev pub initialize : Vars → Vars
initialize v = record v {
  backend = Initialize;
  aaa_abort = true;
  aaa_eap_resp = false;
  eap_no_req = false;
  auth_abort = false;
}

abbrev pub idle : Vars → Vars
idle v = record v { backend = Idle; auth_start = false }

abbrev pub request : Vars → Vars
request v = record v { backend = Request; eap_req = false; eapol_eap = false }

abbrev pub response : Vars → Vars
response v = record v {
  backend = Response;
  auth_timeout = false;
  eapol_eap = false;
  eap_no_req = false;
  a_while = v.times.server;
  eap_resp_data = v.rx_eap;
  eap_resp = true;
}

abbrev pub ignore : Vars → Vars
ignore v = record v { backend = Ignore; eap_no_req = false }

abbrev pub timeout : Vars → Vars
timeout v = record v { backend = Timeout; auth_timeout = true }

abbrev pub success : Vars → Vars
success v = record v { backend = Success; auth_success = true; key_run = true }

abbrev pub fail : Vars → Vars
fail v = record v { backend = Fail; auth_fail = true }

-- a request was sent, and a response is waited for
abbrev pub waits : Vars → Bool
waits v = at Request v || at Ignore v

-- B1 is the row from any state; it is taken again from INITIALIZE only to clear authAbort
abbrev pub backend_table : List Line
backend_table =
    record {
      name = B 1;
      condition = λ v. resets v && (not (at Initialize v) || v.auth_abort);
      after = initialize;
      sends = nothing;
    }
    ∷ row 2 (at Initialize) always idle nothing
    ∷ row 3 (at Idle) (λ v. v.auth_start && v.eap_fail) fail from_server
    ∷ row 4 (at Idle) (λ v. v.auth_start && v.eap_req) request asks
    ∷ row 5 (at Idle) (λ v. v.auth_start && v.eap_success) success from_server
    ∷ row 6 waits (λ v. v.eapol_eap) response nothing
    ∷ row 7 waits (λ v. v.eap_req) request asks
    ∷ row 8 waits (λ v. v.eap_timeout) timeout nothing
    ∷ row 9 (at Response) (λ v. v.eap_no_req) ignore nothing
    ∷ row 10 (at Response) (λ v. v.eap_req) request asks
    ∷ row 11 (at Response) (λ v. is_zero v.a_while) timeout nothing
    ∷ row 12 (at Response) (λ v. v.eap_fail) fail from_server
    ∷ row 13 (at Response) (λ v. v.eap_success) success from_server
    ∷ row 14 (λ v. at Timeout v || at Success v || at Fail v) always idle nothing
    ∷ []

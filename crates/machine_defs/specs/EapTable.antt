-- The EAP machine that passes packets through to a server (RFC 4137, 7).
use Rattle.std.specs.Prelude.{ℕ, zero, suc, ◌+◌, ◌%◌, Bool, true, false, ◌==◌, ◌&&◌, ◌||◌, not, nat_lt, nat_le, List, [], ◌∷◌, length, drop, slice_index, if◌then◌else◌}
use Rattle.wire_defs.specs.Eap.{identity_request}
use Rattle.machine_vars.specs.declared.vars.Vars.{Vars}
use Rattle.machine_vars.specs.declared.states.Row.TheVariants.{E}
use Rattle.machine_vars.specs.declared.states.EapState.{EapState}
use Rattle.machine_vars.specs.declared.states.EapState.TheVariants.{Disabled, Start, Idle2, Retransmit2, Received2, Discard2, AaaRequest, AaaIdle, AaaResponse, SendRequest2, TimeoutFailure2, Failure2, Success2}
use Rattle.machine_defs.specs.Table.{Line, is_zero}

abbrev pub state_number : EapState → ℕ
state_number Disabled = 0
state_number Start = 1
state_number Idle2 = 2
state_number Retransmit2 = 3
state_number Received2 = 4
state_number Discard2 = 5
state_number AaaRequest = 6
state_number AaaIdle = 7
state_number AaaResponse = 8
state_number SendRequest2 = 9
state_number TimeoutFailure2 = 10
state_number Failure2 = 11
state_number Success2 = 12

-- the machine is in this state
abbrev pub at : EapState → Vars → Bool
at s v = state_number v.eap == state_number s

-- the type of an EAP packet is Identity (RFC 3748, 5.1)
abbrev pub is_identity : List ℕ → Bool
is_identity eap = slice_index eap 4 == 1

-- a packet is a Response to what was asked last (RFC 3748, 4.1): it has its identifier and, where the
-- identity was asked for, its type; an identity has 1 to 253 octets
abbrev pub response_fits : List ℕ → ℕ → Bool → Bool
response_fits eap id asks_identity =
    nat_lt 4 (length eap) && slice_index eap 0 == 2 && slice_index eap 1 == id
    && (not asks_identity || is_identity eap)
    && (not (is_identity eap) || (nat_lt 5 (length eap) && nat_le (length eap) 258))

abbrev pub fits : Vars → Bool
fits v = response_fits v.eap_resp_data.items v.current_id v.local

-- a row from one state, which waits while EAP is to begin anew
abbrev pub row : ℕ → (Vars → Bool) → (Vars → Bool) → (Vars → Vars) → Line
row n here when after = record {
  name = E n;
  condition = λ v. not v.eap_restart && (here v && when v);
  after = after;
  sends = λ v. [];
}

abbrev pub always : Vars → Bool
always v = true

-- the identifier after this one (RFC 3748, 4.1)
abbrev pub next_id : ℕ → ℕ
next_id id = (id + 1) % 256

-- what each state does as it is entered (RFC 4137, 7); START stands for the states that ask for the
-- identity
abbrev pub start : Vars → Vars
start v = record v {
  eap = Start;
  eap_restart = false;
  eap_success = false;
  eap_fail = false;
  eap_timeout = false;
  eap_no_req = false;
  eap_resp = false;
  current_id = next_id v.current_id;
  last_req_data = record { items = identity_request (next_id v.current_id) };
  local = true;
  method_timeout = 0;
  retrans_count = 0;
  eap_req = true;
}

-- how long an answer is waited for: what the server asked for, or else 10
abbrev pub idle_time : ℕ → ℕ
idle_time zero = 10
idle_time (suc n) = suc n

abbrev pub idle2 : Vars → Vars
idle2 v = record v { eap = Idle2; retrans_while = idle_time v.method_timeout }

abbrev pub retransmit2 : Vars → Vars
retransmit2 v = record v {
  eap = Retransmit2;
  retrans_count = v.retrans_count + 1;
  eap_req = v.eap_req || not (nat_lt 3 (v.retrans_count + 1));
}

abbrev pub received2 : Vars → Vars
received2 v = record v { eap = Received2 }

abbrev pub discard2 : Vars → Vars
discard2 v = record v { eap = Discard2; eap_resp = false; eap_no_req = true }

abbrev pub aaa_request : Vars → Vars
aaa_request v = record v {
  eap = AaaRequest;
  identity =
      if is_identity v.eap_resp_data.items
      then record { items = drop 5 v.eap_resp_data.items }
      else v.identity;
}

abbrev pub aaa_idle : Vars → Vars
aaa_idle v = record v {
  eap = AaaIdle;
  aaa_eap_req = false;
  aaa_eap_no_req = false;
  aaa_timeout = false;
  aaa_fail = false;
  aaa_success = false;
  aaa_eap_resp = true;
}

abbrev pub aaa_response : Vars → Vars
aaa_response v = record v {
  eap = AaaResponse;
  last_req_data = v.aaa_eap_req_data;
  current_id = slice_index v.aaa_eap_req_data.items 1;
  local = false;
}

abbrev pub send_request2 : Vars → Vars
send_request2 v = record v { eap = SendRequest2; retrans_count = 0; eap_resp = false; eap_req = true }

abbrev pub timeout_failure2 : Vars → Vars
timeout_failure2 v = record v { eap = TimeoutFailure2; eap_timeout = true }

abbrev pub failure2 : Vars → Vars
failure2 v = record v { eap = Failure2; eap_fail = true }

abbrev pub success2 : Vars → Vars
success2 v = record v { eap = Success2; eap_success = true }

abbrev pub eap_table : List Line
eap_table =
    record { name = E 1; condition = λ v. v.eap_restart; after = start; sends = λ v. [] }
    ∷ row 2 (at Start) always idle2
    ∷ row 3 (at Idle2) (λ v. v.eap_resp) received2
    ∷ row 4 (at Idle2) (λ v. is_zero v.retrans_while) retransmit2
    ∷ row 5 (at Retransmit2) (λ v. nat_lt 3 v.retrans_count) timeout_failure2
    ∷ row 6 (at Retransmit2) (λ v. not (nat_lt 3 v.retrans_count)) idle2
    ∷ row 7 (at Received2) fits aaa_request
    ∷ row 8 (at Received2) (λ v. not (fits v)) discard2
    ∷ row 9 (at Discard2) always idle2
    ∷ row 10 (at AaaRequest) always aaa_idle
    ∷ row 11 (at AaaIdle) (λ v. v.aaa_eap_no_req) discard2
    ∷ row 12 (at AaaIdle) (λ v. v.aaa_eap_req) aaa_response
    ∷ row 13 (at AaaIdle) (λ v. v.aaa_timeout) timeout_failure2
    ∷ row 14 (at AaaIdle) (λ v. v.aaa_fail) failure2
    ∷ row 15 (at AaaIdle) (λ v. v.aaa_success) success2
    ∷ row 16 (at AaaResponse) always send_request2
    ∷ row 17 (at SendRequest2) always idle2
    ∷ []

-- Worked chains, computed row by row from the tables: each with the rows that are taken, the packets that are sent and the
-- variables that change. The expected chains come from another program, which was written from the same conditions and
-- actions.
use Rattle.std.proofs.Common.{◌≡◌, ℕ, zero, suc, true, false, List, [], ◌∷◌, ◌++◌, Some, None, refl}
use Rattle.machine_vars.specs.declared.vars.Vars.{Vars}
use Rattle.machine_vars.specs.declared.control.Times.{Times}
use Rattle.machine_vars.specs.declared.control.Control.TheVariants as Control
use Rattle.machine_vars.specs.declared.states.Pae.TheVariants as Pae
use Rattle.machine_vars.specs.declared.states.Backend.TheVariants as Backend
use Rattle.machine_vars.specs.declared.states.Reauth.TheVariants as Reauth
use Rattle.machine_vars.specs.declared.states.EapState.TheVariants as Eap
use Rattle.machine_vars.specs.declared.states.Row.{Row}
use Rattle.machine_vars.specs.declared.states.Row.TheVariants.{P, B, A, E}
use Rattle.wire_defs.specs.Ethernet.{pae_group}
use Rattle.machine_defs.specs.Settling.{next}
use Rattle.machine_defs.specs.Live.{fresh, set, cleared, as_octets, Start, Logoff, Greeting, Packet, Challenge, Notice, Accept, Reject, Second, Change}
use Rattle.machine_defs.proofs.Walking.{Walk, walk, before, Walks, Steps, own, peer, times}

-- a session of an Auto port as it is opened
abbrev new : Vars
new = fresh 1 own peer Control.Auto times

-- P4 P5 B2 E1 P6 P8 B4 E2: the identity is asked for
abbrev asked : Vars
asked = record new {
  pae = Pae.Authenticating;
  backend = Backend.Request;
  eap = Eap.Idle2;
  re_auth_count = 1;
  current_id = 1;
  retrans_while = 10;
  auth_start = true;
  local = true;
  last_req_data = as_octets (1 ∷ 1 ∷ 0 ∷ 5 ∷ 1 ∷ []);
}

asked_is : Walks 48 new (P 4 ∷ P 5 ∷ B 2 ∷ E 1 ∷ P 6 ∷ P 8 ∷ B 4 ∷ E 2 ∷ []) ((1 ∷ 1 ∷ 0 ∷ 5 ∷ 1 ∷ []) ∷ []) asked
asked_is = refl

-- B6 E3 E7 E10: the identity comes and goes to the server
abbrev named : Vars
named = record (cleared asked) {
  backend = Backend.Response;
  eap = Eap.AaaIdle;
  a_while = 3;
  eap_resp = true;
  aaa_eap_resp = true;
  rx_eap = as_octets (2 ∷ 1 ∷ 0 ∷ 8 ∷ 1 ∷ 98 ∷ 111 ∷ 98 ∷ []);
  eap_resp_data = as_octets (2 ∷ 1 ∷ 0 ∷ 8 ∷ 1 ∷ 98 ∷ 111 ∷ 98 ∷ []);
  identity = as_octets (98 ∷ 111 ∷ 98 ∷ []);
}

named_is : Walks 48 (set (Packet (2 ∷ 1 ∷ 0 ∷ 8 ∷ 1 ∷ 98 ∷ 111 ∷ 98 ∷ [])) (cleared asked)) (B 6 ∷ E 3 ∷ E 7 ∷ E 10 ∷ []) [] named
named_is = refl

-- E12 E16 B10 E17: the server asks for more, and has a time for it
abbrev challenged : Vars
challenged = record (cleared named) {
  backend = Backend.Request;
  eap = Eap.Idle2;
  current_id = 7;
  retrans_while = 1;
  method_timeout = 1;
  eap_resp = false;
  aaa_eap_req = true;
  local = false;
  last_req_data = as_octets (1 ∷ 7 ∷ 0 ∷ 6 ∷ 4 ∷ 7 ∷ []);
  aaa_eap_req_data = as_octets (1 ∷ 7 ∷ 0 ∷ 6 ∷ 4 ∷ 7 ∷ []);
}

challenged_is : Walks 48 (set (Challenge (1 ∷ 7 ∷ 0 ∷ 6 ∷ 4 ∷ 7 ∷ []) 1) (cleared named)) (E 12 ∷ E 16 ∷ B 10 ∷ E 17 ∷ []) ((1 ∷ 7 ∷ 0 ∷ 6 ∷ 4 ∷ 7 ∷ []) ∷ []) challenged
challenged_is = refl

-- B6 E3 E8 B9 E9: a response to another request is not taken
abbrev foreign : Vars
foreign = record (cleared challenged) {
  backend = Backend.Ignore;
  rx_eap = as_octets (2 ∷ 8 ∷ 0 ∷ 6 ∷ 4 ∷ 9 ∷ []);
  eap_resp_data = as_octets (2 ∷ 8 ∷ 0 ∷ 6 ∷ 4 ∷ 9 ∷ []);
}

foreign_is : Walks 48 (set (Packet (2 ∷ 8 ∷ 0 ∷ 6 ∷ 4 ∷ 9 ∷ [])) (cleared challenged)) (B 6 ∷ E 3 ∷ E 8 ∷ B 9 ∷ E 9 ∷ []) [] foreign
foreign_is = refl

-- B6 E3 E7 E10: from IGNORE too, and with another type than Identity
abbrev answered : Vars
answered = record (cleared foreign) {
  backend = Backend.Response;
  eap = Eap.AaaIdle;
  eap_resp = true;
  aaa_eap_resp = true;
  aaa_eap_req = false;
  rx_eap = as_octets (2 ∷ 7 ∷ 0 ∷ 6 ∷ 4 ∷ 9 ∷ []);
  eap_resp_data = as_octets (2 ∷ 7 ∷ 0 ∷ 6 ∷ 4 ∷ 9 ∷ []);
}

answered_is : Walks 48 (set (Packet (2 ∷ 7 ∷ 0 ∷ 6 ∷ 4 ∷ 9 ∷ [])) (cleared foreign)) (B 6 ∷ E 3 ∷ E 7 ∷ E 10 ∷ []) [] answered
answered_is = refl

-- E11 B9 E9: the server has heard, and asks for nothing
abbrev noted : Vars
noted = record (cleared answered) {
  backend = Backend.Ignore;
  eap = Eap.Idle2;
  eap_resp = false;
  aaa_eap_no_req = true;
}

noted_is : Walks 48 (set Notice (cleared answered)) (E 11 ∷ B 9 ∷ E 9 ∷ []) [] noted
noted_is = refl

-- B6 E3 E7 E10: the host may answer again
abbrev answered_again : Vars
answered_again = record (cleared noted) {
  backend = Backend.Response;
  eap = Eap.AaaIdle;
  eap_resp = true;
  aaa_eap_resp = true;
  aaa_eap_no_req = false;
}

answered_again_is : Walks 48 (set (Packet (2 ∷ 7 ∷ 0 ∷ 6 ∷ 4 ∷ 9 ∷ [])) (cleared noted)) (B 6 ∷ E 3 ∷ E 7 ∷ E 10 ∷ []) [] answered_again
answered_again_is = refl

-- no row: a packet that comes while the server is asked is kept
abbrev heard : Vars
heard = record (cleared answered_again) {
  eapol_eap = true;
  rx_eap = as_octets (2 ∷ 9 ∷ 0 ∷ 6 ∷ 4 ∷ 9 ∷ []);
}

heard_is : Walks 48 (set (Packet (2 ∷ 9 ∷ 0 ∷ 6 ∷ 4 ∷ 9 ∷ [])) (cleared answered_again)) [] [] heard
heard_is = refl

-- E11 B9 B6 E9 E3 E8 B9 E9: and is looked at once the server has asked for nothing
abbrev looked_at : Vars
looked_at = record (cleared heard) {
  backend = Backend.Ignore;
  eap = Eap.Idle2;
  eapol_eap = false;
  eap_resp = false;
  aaa_eap_no_req = true;
  eap_resp_data = as_octets (2 ∷ 9 ∷ 0 ∷ 6 ∷ 4 ∷ 9 ∷ []);
}

looked_at_is : Walks 48 (set Notice (cleared heard)) (E 11 ∷ B 9 ∷ B 6 ∷ E 9 ∷ E 3 ∷ E 8 ∷ B 9 ∷ E 9 ∷ []) [] looked_at
looked_at_is = refl

-- E15 B13 P9 B14: the server accepts
abbrev let_in : Vars
let_in = record (cleared heard) {
  pae = Pae.Authenticated;
  backend = Backend.Idle;
  eap = Eap.Success2;
  auth_port_status = true;
  re_auth_count = 0;
  re_auth_when = 2;
  auth_start = false;
  auth_success = true;
  key_run = true;
  eap_success = true;
  aaa_success = true;
  aaa_eap_req_data = as_octets (3 ∷ 7 ∷ 0 ∷ 4 ∷ []);
}

let_in_is : Walks 48 (set (Accept (3 ∷ 7 ∷ 0 ∷ 4 ∷ []) true 2) (cleared heard)) (E 15 ∷ B 13 ∷ P 9 ∷ B 14 ∷ []) ((3 ∷ 7 ∷ 0 ∷ 4 ∷ []) ∷ []) let_in
let_in_is = refl

-- no row: a second goes by
abbrev let_in_for_a_second : Vars
let_in_for_a_second = record (cleared let_in) {
  a_while = 2;
  re_auth_when = 1;
  retrans_while = 0;
}

let_in_for_a_second_is : Walks 48 (set (Second false) (cleared let_in)) [] [] let_in_for_a_second
let_in_for_a_second_is = refl

-- A2 P12 A3 E1 P6 P8 B4 E2: the host is to be authenticated again
abbrev asked_while_let_in : Vars
asked_while_let_in = record (cleared let_in_for_a_second) {
  pae = Pae.Authenticating;
  backend = Backend.Request;
  eap = Eap.Idle2;
  re_auth_count = 1;
  current_id = 8;
  a_while = 1;
  re_auth_when = 2;
  retrans_while = 10;
  method_timeout = 0;
  eapol_eap = false;
  auth_start = true;
  auth_success = false;
  key_run = false;
  eap_resp = false;
  eap_success = false;
  local = true;
  last_req_data = as_octets (1 ∷ 8 ∷ 0 ∷ 5 ∷ 1 ∷ []);
}

asked_while_let_in_is : Walks 48 (set (Second false) (cleared let_in_for_a_second)) (A 2 ∷ P 12 ∷ A 3 ∷ E 1 ∷ P 6 ∷ P 8 ∷ B 4 ∷ E 2 ∷ []) ((1 ∷ 8 ∷ 0 ∷ 5 ∷ 1 ∷ []) ∷ []) asked_while_let_in
asked_while_let_in_is = refl

-- P12 E1 P6 P8 B4 E2: it begins anew
abbrev begun_while_let_in : Vars
begun_while_let_in = record (cleared let_in) {
  pae = Pae.Authenticating;
  backend = Backend.Request;
  eap = Eap.Idle2;
  re_auth_count = 1;
  current_id = 8;
  retrans_while = 10;
  method_timeout = 0;
  eapol_eap = false;
  auth_start = true;
  auth_success = false;
  key_run = false;
  eap_resp = false;
  eap_success = false;
  local = true;
  last_req_data = as_octets (1 ∷ 8 ∷ 0 ∷ 5 ∷ 1 ∷ []);
}

begun_while_let_in_is : Walks 48 (set Start (cleared let_in)) (P 12 ∷ E 1 ∷ P 6 ∷ P 8 ∷ B 4 ∷ E 2 ∷ []) ((1 ∷ 8 ∷ 0 ∷ 5 ∷ 1 ∷ []) ∷ []) begun_while_let_in
begun_while_let_in_is = refl

-- P13 P5 E1 P6 P8 B4 E2: it logs off
abbrev logged_off_while_let_in : Vars
logged_off_while_let_in = record (cleared let_in) {
  pae = Pae.Authenticating;
  backend = Backend.Request;
  eap = Eap.Idle2;
  auth_port_status = false;
  re_auth_count = 1;
  current_id = 8;
  retrans_while = 10;
  method_timeout = 0;
  eapol_eap = false;
  auth_start = true;
  auth_success = false;
  key_run = false;
  eap_resp = false;
  eap_success = false;
  local = true;
  last_req_data = as_octets (1 ∷ 8 ∷ 0 ∷ 5 ∷ 1 ∷ []);
}

logged_off_while_let_in_is : Walks 48 (set Logoff (cleared let_in)) (P 13 ∷ P 5 ∷ E 1 ∷ P 6 ∷ P 8 ∷ B 4 ∷ E 2 ∷ []) ((1 ∷ 8 ∷ 0 ∷ 5 ∷ 1 ∷ []) ∷ []) logged_off_while_let_in
logged_off_while_let_in_is = refl

-- B6 E3 E7 E10: it gives its identity again
abbrev named_while_let_in : Vars
named_while_let_in = record (cleared asked_while_let_in) {
  backend = Backend.Response;
  eap = Eap.AaaIdle;
  a_while = 3;
  eap_resp = true;
  aaa_eap_resp = true;
  aaa_success = false;
  rx_eap = as_octets (2 ∷ 8 ∷ 0 ∷ 8 ∷ 1 ∷ 98 ∷ 111 ∷ 98 ∷ []);
  eap_resp_data = as_octets (2 ∷ 8 ∷ 0 ∷ 8 ∷ 1 ∷ 98 ∷ 111 ∷ 98 ∷ []);
}

named_while_let_in_is : Walks 48 (set (Packet (2 ∷ 8 ∷ 0 ∷ 8 ∷ 1 ∷ 98 ∷ 111 ∷ 98 ∷ [])) (cleared asked_while_let_in)) (B 6 ∷ E 3 ∷ E 7 ∷ E 10 ∷ []) [] named_while_let_in
named_while_let_in_is = refl

-- no row: the server has time
abbrev waits_while_let_in : Vars
waits_while_let_in = record (cleared named_while_let_in) {
  a_while = 2;
  re_auth_when = 1;
  retrans_while = 9;
}

waits_while_let_in_is : Walks 48 (set (Second false) (cleared named_while_let_in)) [] [] waits_while_let_in
waits_while_let_in_is = refl

-- A2 A3: meanwhile it is to be authenticated again
abbrev due_while_let_in : Vars
due_while_let_in = record (cleared waits_while_let_in) {
  a_while = 1;
  re_auth_when = 2;
  retrans_while = 8;
  re_authenticate = true;
}

due_while_let_in_is : Walks 48 (set (Second false) (cleared waits_while_let_in)) (A 2 ∷ A 3 ∷ []) [] due_while_let_in
due_while_let_in_is = refl

-- E15 B13 P9 P12 B14 E1 P6 P8 B4 E2: so it is let in and asked at once
abbrev asked_at_once : Vars
asked_at_once = record (cleared due_while_let_in) {
  backend = Backend.Request;
  eap = Eap.Idle2;
  current_id = 9;
  re_auth_when = 9;
  retrans_while = 10;
  re_auth_period = 9;
  re_authenticate = false;
  eap_resp = false;
  aaa_success = true;
  last_req_data = as_octets (1 ∷ 9 ∷ 0 ∷ 5 ∷ 1 ∷ []);
  aaa_eap_req_data = as_octets (3 ∷ 8 ∷ 0 ∷ 4 ∷ []);
}

asked_at_once_is : Walks 48 (set (Accept (3 ∷ 8 ∷ 0 ∷ 4 ∷ []) true 9) (cleared due_while_let_in)) (E 15 ∷ B 13 ∷ P 9 ∷ P 12 ∷ B 14 ∷ E 1 ∷ P 6 ∷ P 8 ∷ B 4 ∷ E 2 ∷ []) ((3 ∷ 8 ∷ 0 ∷ 4 ∷ []) ∷ (1 ∷ 9 ∷ 0 ∷ 5 ∷ 1 ∷ []) ∷ []) asked_at_once
asked_at_once_is = refl

-- E14 B12 P10 B14: the server refuses
abbrev held : Vars
held = record (cleared named) {
  pae = Pae.Held;
  backend = Backend.Idle;
  eap = Eap.Failure2;
  quiet_while = 2;
  auth_start = false;
  auth_fail = true;
  eap_fail = true;
  aaa_fail = true;
  aaa_eap_req_data = as_octets (4 ∷ 1 ∷ 0 ∷ 4 ∷ []);
}

held_is : Walks 48 (set (Reject (4 ∷ 1 ∷ 0 ∷ 4 ∷ [])) (cleared named)) (E 14 ∷ B 12 ∷ P 10 ∷ B 14 ∷ []) ((4 ∷ 1 ∷ 0 ∷ 4 ∷ []) ∷ []) held
held_is = refl

-- no row: a Start waits until quietWhile has run out
abbrev held_with_a_start : Vars
held_with_a_start = record (cleared held) {
  eapol_start = true;
}

held_with_a_start_is : Walks 48 (set Start (cleared held)) [] [] held_with_a_start
held_with_a_start_is = refl

-- no row: a second goes by
abbrev held_for_a_second : Vars
held_for_a_second = record (cleared held_with_a_start) {
  quiet_while = 1;
  a_while = 2;
  retrans_while = 9;
}

held_for_a_second_is : Walks 48 (set (Second false) (cleared held_with_a_start)) [] [] held_for_a_second
held_for_a_second_is = refl

-- P16 E1 P6 P7 P5 E1 P6 P8 B4 E2: asked too often, but it has begun anew
abbrev asked_after_held : Vars
asked_after_held = record (cleared held_for_a_second) {
  pae = Pae.Authenticating;
  backend = Backend.Request;
  eap = Eap.Idle2;
  current_id = 3;
  quiet_while = 0;
  a_while = 1;
  retrans_while = 10;
  eapol_start = false;
  auth_start = true;
  auth_fail = false;
  eap_resp = false;
  eap_fail = false;
  last_req_data = as_octets (1 ∷ 3 ∷ 0 ∷ 5 ∷ 1 ∷ []);
}

asked_after_held_is : Walks 48 (set (Second false) (cleared held_for_a_second)) (P 16 ∷ E 1 ∷ P 6 ∷ P 7 ∷ P 5 ∷ E 1 ∷ P 6 ∷ P 8 ∷ B 4 ∷ E 2 ∷ []) ((1 ∷ 3 ∷ 0 ∷ 5 ∷ 1 ∷ []) ∷ []) asked_after_held
asked_after_held_is = refl

-- no row: a second goes by
abbrev held_in_silence : Vars
held_in_silence = record (cleared held) {
  quiet_while = 1;
  a_while = 2;
  retrans_while = 9;
}

held_in_silence_is : Walks 48 (set (Second false) (cleared held)) [] [] held_in_silence
held_in_silence_is = refl

-- P16 E1 P6 P7: an Unauthorized host that was asked too often is given up, and its session is gone
abbrev given_up : Vars
given_up = record (cleared held_in_silence) {
  pae = Pae.Disconnected;
  eap = Eap.Start;
  re_auth_count = 0;
  current_id = 2;
  quiet_while = 0;
  a_while = 1;
  retrans_while = 8;
  eap_req = true;
  eap_resp = false;
  eap_fail = false;
  gone = true;
  last_req_data = as_octets (1 ∷ 2 ∷ 0 ∷ 5 ∷ 1 ∷ []);
}

given_up_is : Walks 48 (set (Second false) (cleared held_in_silence)) (P 16 ∷ E 1 ∷ P 6 ∷ P 7 ∷ []) [] given_up
given_up_is = refl

-- P11 B1 P14 P5 B2 E1 P6 P8 B4 E2: a Logoff breaks off what was begun
abbrev logged_off : Vars
logged_off = record (cleared asked) {
  current_id = 2;
  aaa_abort = true;
  last_req_data = as_octets (1 ∷ 2 ∷ 0 ∷ 5 ∷ 1 ∷ []);
}

logged_off_is : Walks 48 (set Logoff (cleared asked)) (P 11 ∷ B 1 ∷ P 14 ∷ P 5 ∷ B 2 ∷ E 1 ∷ P 6 ∷ P 8 ∷ B 4 ∷ E 2 ∷ []) ((1 ∷ 2 ∷ 0 ∷ 5 ∷ 1 ∷ []) ∷ []) logged_off
logged_off_is = refl

-- P11 B1 P15 B2 E1 P6 P7 P5 E1 P6 P8 B4 E2: so does a Start; the host was asked too often, but it begins anew
abbrev begun : Vars
begun = record (cleared asked) {
  current_id = 3;
  aaa_abort = true;
  last_req_data = as_octets (1 ∷ 3 ∷ 0 ∷ 5 ∷ 1 ∷ []);
}

begun_is : Walks 48 (set Start (cleared asked)) (P 11 ∷ B 1 ∷ P 15 ∷ B 2 ∷ E 1 ∷ P 6 ∷ P 7 ∷ P 5 ∷ E 1 ∷ P 6 ∷ P 8 ∷ B 4 ∷ E 2 ∷ []) ((1 ∷ 3 ∷ 0 ∷ 5 ∷ 1 ∷ []) ∷ []) begun
begun_is = refl

-- E4 B7 E6: the request is sent again
abbrev sent_twice : Vars
sent_twice = record (cleared challenged) {
  retrans_count = 1;
  a_while = 2;
}

sent_twice_is : Walks 48 (set (Second false) (cleared challenged)) (E 4 ∷ B 7 ∷ E 6 ∷ []) ((1 ∷ 7 ∷ 0 ∷ 6 ∷ 4 ∷ 7 ∷ []) ∷ []) sent_twice
sent_twice_is = refl

-- E4 B7 E6
abbrev sent_thrice : Vars
sent_thrice = record (cleared sent_twice) {
  retrans_count = 2;
  a_while = 1;
}

sent_thrice_is : Walks 48 (set (Second false) (cleared sent_twice)) (E 4 ∷ B 7 ∷ E 6 ∷ []) ((1 ∷ 7 ∷ 0 ∷ 6 ∷ 4 ∷ 7 ∷ []) ∷ []) sent_thrice
sent_thrice_is = refl

-- E4 B7 E6
abbrev sent_four_times : Vars
sent_four_times = record (cleared sent_thrice) {
  retrans_count = 3;
  a_while = 0;
}

sent_four_times_is : Walks 48 (set (Second false) (cleared sent_thrice)) (E 4 ∷ B 7 ∷ E 6 ∷ []) ((1 ∷ 7 ∷ 0 ∷ 6 ∷ 4 ∷ 7 ∷ []) ∷ []) sent_four_times
sent_four_times_is = refl

-- E4 E5 B8 P11 B1 P15 B2 E1 P6 P7: the host never answered, and was asked too often
abbrev silent_too_long : Vars
silent_too_long = record (cleared sent_four_times) {
  pae = Pae.Disconnected;
  backend = Backend.Idle;
  eap = Eap.Start;
  re_auth_count = 0;
  retrans_count = 0;
  current_id = 8;
  retrans_while = 0;
  method_timeout = 0;
  auth_start = false;
  auth_timeout = true;
  eap_req = true;
  aaa_abort = true;
  local = true;
  gone = true;
  last_req_data = as_octets (1 ∷ 8 ∷ 0 ∷ 5 ∷ 1 ∷ []);
}

silent_too_long_is : Walks 48 (set (Second false) (cleared sent_four_times)) (E 4 ∷ E 5 ∷ B 8 ∷ P 11 ∷ B 1 ∷ P 15 ∷ B 2 ∷ E 1 ∷ P 6 ∷ P 7 ∷ []) [] silent_too_long
silent_too_long_is = refl

-- E13: the server is given up
abbrev server_given_up : Vars
server_given_up = record (cleared named) {
  eap = Eap.TimeoutFailure2;
  a_while = 2;
  retrans_while = 9;
  eap_timeout = true;
  aaa_timeout = true;
}

server_given_up_is : Walks 48 (set (Second true) (cleared named)) (E 13 ∷ []) [] server_given_up
server_given_up_is = refl

-- no row: aWhile still runs
abbrev server_given_up_for_a_second : Vars
server_given_up_for_a_second = record (cleared server_given_up) {
  a_while = 1;
  retrans_while = 8;
}

server_given_up_for_a_second_is : Walks 48 (set (Second false) (cleared server_given_up)) [] [] server_given_up_for_a_second
server_given_up_for_a_second_is = refl

-- B11 P11 B1 P15 B2 E1 P6 P7: it has run out
abbrev ended_without_server : Vars
ended_without_server = record (cleared server_given_up_for_a_second) {
  pae = Pae.Disconnected;
  backend = Backend.Idle;
  eap = Eap.Start;
  re_auth_count = 0;
  current_id = 2;
  a_while = 0;
  retrans_while = 7;
  auth_start = false;
  auth_timeout = true;
  eap_req = true;
  eap_resp = false;
  eap_timeout = false;
  aaa_abort = true;
  gone = true;
  last_req_data = as_octets (1 ∷ 2 ∷ 0 ∷ 5 ∷ 1 ∷ []);
}

ended_without_server_is : Walks 48 (set (Second false) (cleared server_given_up_for_a_second)) (B 11 ∷ P 11 ∷ B 1 ∷ P 15 ∷ B 2 ∷ E 1 ∷ P 6 ∷ P 7 ∷ []) [] ended_without_server
ended_without_server_is = refl

-- E12 E16 B10 E17: the server asks for more of a host that is let in
abbrev challenged_while_let_in : Vars
challenged_while_let_in = record (cleared named_while_let_in) {
  backend = Backend.Request;
  eap = Eap.Idle2;
  current_id = 20;
  retrans_while = 1;
  method_timeout = 1;
  eap_resp = false;
  aaa_eap_req = true;
  local = false;
  last_req_data = as_octets (1 ∷ 20 ∷ 0 ∷ 6 ∷ 4 ∷ 7 ∷ []);
  aaa_eap_req_data = as_octets (1 ∷ 20 ∷ 0 ∷ 6 ∷ 4 ∷ 7 ∷ []);
}

challenged_while_let_in_is : Walks 48 (set (Challenge (1 ∷ 20 ∷ 0 ∷ 6 ∷ 4 ∷ 7 ∷ []) 1) (cleared named_while_let_in)) (E 12 ∷ E 16 ∷ B 10 ∷ E 17 ∷ []) ((1 ∷ 20 ∷ 0 ∷ 6 ∷ 4 ∷ 7 ∷ []) ∷ []) challenged_while_let_in
challenged_while_let_in_is = refl

-- E4 B7 E6, with A2 A3 before where the host is to be authenticated again
abbrev one_more : Vars
one_more = record (cleared challenged_while_let_in) {
  retrans_count = 1;
  a_while = 2;
  re_auth_when = 1;
}

one_more_is : Walks 48 (set (Second false) (cleared challenged_while_let_in)) (E 4 ∷ B 7 ∷ E 6 ∷ []) ((1 ∷ 20 ∷ 0 ∷ 6 ∷ 4 ∷ 7 ∷ []) ∷ []) one_more
one_more_is = refl

-- E4 B7 E6, with A2 A3 before where the host is to be authenticated again
abbrev two_more : Vars
two_more = record (cleared one_more) {
  retrans_count = 2;
  a_while = 1;
  re_auth_when = 2;
  re_authenticate = true;
}

two_more_is : Walks 48 (set (Second false) (cleared one_more)) (A 2 ∷ A 3 ∷ E 4 ∷ B 7 ∷ E 6 ∷ []) ((1 ∷ 20 ∷ 0 ∷ 6 ∷ 4 ∷ 7 ∷ []) ∷ []) two_more
two_more_is = refl

-- E4 B7 E6, with A2 A3 before where the host is to be authenticated again
abbrev three_more : Vars
three_more = record (cleared two_more) {
  retrans_count = 3;
  a_while = 0;
  re_auth_when = 1;
}

three_more_is : Walks 48 (set (Second false) (cleared two_more)) (E 4 ∷ B 7 ∷ E 6 ∷ []) ((1 ∷ 20 ∷ 0 ∷ 6 ∷ 4 ∷ 7 ∷ []) ∷ []) three_more
three_more_is = refl

-- no row: the times of reauthentication are changed
abbrev soon_due : Vars
soon_due = record (cleared three_more) {
  re_auth_period = 1;
}

soon_due_is : Walks 48 (set (Change true 1) (cleared three_more)) [] [] soon_due
soon_due_is = refl

-- A2 A3 E4 E5 B8 P11 B1 P15 B2 E1 P6 P7 P5 E1 P6 P8 B4 E2: the longest of these chains
abbrev longest : Vars
longest = record (cleared soon_due) {
  auth_port_status = false;
  retrans_count = 0;
  current_id = 22;
  retrans_while = 10;
  method_timeout = 0;
  re_authenticate = false;
  aaa_abort = true;
  local = true;
  last_req_data = as_octets (1 ∷ 22 ∷ 0 ∷ 5 ∷ 1 ∷ []);
}

longest_is : Walks 48 (set (Second false) (cleared soon_due)) (A 2 ∷ A 3 ∷ E 4 ∷ E 5 ∷ B 8 ∷ P 11 ∷ B 1 ∷ P 15 ∷ B 2 ∷ E 1 ∷ P 6 ∷ P 7 ∷ P 5 ∷ E 1 ∷ P 6 ∷ P 8 ∷ B 4 ∷ E 2 ∷ []) ((1 ∷ 22 ∷ 0 ∷ 5 ∷ 1 ∷ []) ∷ []) longest
longest_is = refl

-- a port that is forced open
abbrev new_open : Vars
new_open = fresh 1 own pae_group Control.ForceAuth times

-- P2: it tells all hosts of success
abbrev open_ : Vars
open_ = record new_open {
  pae = Pae.ForceAuth;
  port_mode = Control.ForceAuth;
  auth_port_status = true;
}

open__is : Walks 48 new_open (P 2 ∷ []) ((3 ∷ 0 ∷ 0 ∷ 4 ∷ []) ∷ []) open_
open__is = refl

-- P17: and each host that begins
abbrev greeted : Vars
greeted = record (cleared open_) {
  peer = (2 ∷ 0 ∷ 0 ∷ 0 ∷ 0 ∷ 170 ∷ []);
}

greeted_is : Walks 48 (set (Greeting (2 ∷ 0 ∷ 0 ∷ 0 ∷ 0 ∷ 170 ∷ [])) (cleared open_)) (P 17 ∷ []) ((3 ∷ 0 ∷ 0 ∷ 4 ∷ []) ∷ []) greeted
greeted_is = refl

-- a port that is forced shut
abbrev new_shut : Vars
new_shut = fresh 1 own pae_group Control.ForceUnauth times

-- P3: it tells all hosts of failure
abbrev shut : Vars
shut = record new_shut {
  pae = Pae.ForceUnauth;
  port_mode = Control.ForceUnauth;
}

shut_is : Walks 48 new_shut (P 3 ∷ []) ((4 ∷ 0 ∷ 0 ∷ 4 ∷ []) ∷ []) shut
shut_is = refl

-- P18: and each host that begins
abbrev greeted_shut : Vars
greeted_shut = record (cleared shut) {
  peer = (2 ∷ 0 ∷ 0 ∷ 0 ∷ 0 ∷ 170 ∷ []);
}

greeted_shut_is : Walks 48 (set (Greeting (2 ∷ 0 ∷ 0 ∷ 0 ∷ 0 ∷ 170 ∷ [])) (cleared shut)) (P 18 ∷ []) ((4 ∷ 0 ∷ 0 ∷ 4 ∷ []) ∷ []) greeted_shut
greeted_shut_is = refl

-- ---- rows that no session takes, and conditions that none meets, at values made up for them

-- P1: the port mode differs from Auto
mode_is_taken_back : Steps (record held { port_mode = Control.ForceAuth }) (P 1) [] (record (record held { port_mode = Control.ForceAuth }) { pae = Pae.Initialize; port_mode = Control.Auto })
mode_is_taken_back = refl

-- P1: initialize holds
is_initialized : Steps (record held { initialize = true }) (P 1) [] (record (record held { initialize = true }) { pae = Pae.Initialize })
is_initialized = refl

-- P1: the port is not enabled
is_disabled : Steps (record held { port_enabled = false }) (P 1) [] (record (record held { port_enabled = false }) { pae = Pae.Initialize })
is_disabled = refl

-- no row: P1 is not taken again from INITIALIZE
stays_initialized : next (record new { initialize = true }) ≡ None
stays_initialized = refl

-- no row: P2 waits for initialize
is_not_forced_open : next (record new_open { initialize = true }) ≡ None
is_not_forced_open = refl

-- no row: P3 waits until the port is enabled
is_not_forced_shut : next (record new_shut { port_enabled = false }) ≡ None
is_not_forced_shut = refl

-- B3: EAP has failed before the backend asks
fails_from_idle : Steps (record given_up { gone = false; pae = Pae.Authenticating; auth_fail = false; auth_start = true; eap_fail = true }) (B 3) ((4 ∷ 1 ∷ 0 ∷ 4 ∷ []) ∷ []) (record (record given_up { gone = false; pae = Pae.Authenticating; auth_fail = false; auth_start = true; eap_fail = true }) { backend = Backend.Fail; auth_fail = true })
fails_from_idle = refl

-- B5: EAP has passed before the backend asks
passes_from_idle : Steps (record given_up { gone = false; pae = Pae.Authenticating; auth_fail = false; auth_start = true; eap_req = false; eap_success = true }) (B 5) ((4 ∷ 1 ∷ 0 ∷ 4 ∷ []) ∷ []) (record (record given_up { gone = false; pae = Pae.Authenticating; auth_fail = false; auth_start = true; eap_req = false; eap_success = true }) { backend = Backend.Success; auth_success = true; key_run = true })
passes_from_idle = refl

-- B4 before B5
asks_before_it_passes : Steps (record given_up { gone = false; pae = Pae.Authenticating; auth_fail = false; auth_start = true; eap_success = true }) (B 4) ((1 ∷ 2 ∷ 0 ∷ 5 ∷ 1 ∷ []) ∷ []) (record (record given_up { gone = false; pae = Pae.Authenticating; auth_fail = false; auth_start = true; eap_success = true }) { backend = Backend.Request; eap_req = false })
asks_before_it_passes = refl

-- A1: the timer stops while it is run out
timer_is_stopped : Steps (record let_in { reauth = Reauth.Reauthenticate; re_auth_enabled = false }) (A 1) [] (record (record let_in { reauth = Reauth.Reauthenticate; re_auth_enabled = false }) { reauth = Reauth.Initialize })
timer_is_stopped = refl

-- P10: keys were exchanged, and the port is not valid
keys_without_cover : Steps (record let_in { pae = Pae.Authenticating; auth_success = false; key_done = true; port_valid = false }) (P 10) [] (record (record let_in { pae = Pae.Authenticating; auth_success = false; key_done = true; port_valid = false }) { pae = Pae.Held; auth_port_status = false; quiet_while = 2 })
keys_without_cover = refl

-- P13: the port is no longer valid
cover_is_lost : Steps (record let_in { port_valid = false }) (P 13) [] (record (record let_in { port_valid = false }) { pae = Pae.Disconnected; auth_port_status = false })
cover_is_lost = refl

-- B1: initialize holds
backend_is_initialized : Steps (record challenged { initialize = true; pae = Pae.Initialize }) (B 1) [] (record (record challenged { initialize = true; pae = Pae.Initialize }) { backend = Backend.Initialize; aaa_abort = true })
backend_is_initialized = refl

-- no row is enabled once the session is gone
nothing_once_gone : next (record asked { gone = true; eapol_start = true }) ≡ None
nothing_once_gone = refl

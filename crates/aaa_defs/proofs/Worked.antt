-- The definitions, computed at values whose meaning is known.
use Rattle.std.specs.Prelude.{◌||◌}
use Rattle.std.proofs.Common.{◌≡◌, ℕ, true, false, [], ◌∷◌, ◌++◌, codes, replicate, refl, Some, None}
use Rattle.wire_defs.specs.Eap.{eap_of}
use Rattle.radius_defs.specs.declared.Ma.TheVariants.{Absent, Wrong}
use Rattle.radius_defs.specs.Packet.{attributes_text}
use Rattle.radius_defs.specs.Digest.{zeros}
use Rattle.switch_event.specs.Config.{empty}
use Rattle.aaa_defs.specs.declared.Aged.TheVariants.{Quiet, Resend, GaveUp}
use Rattle.switch_event.specs.declared.drop.AaaDrop.TheVariants.{BadCode, BadAuthenticator}
use Rattle.rand_core.specs.Steps.{u32_at}
use Rattle.rand_chacha.specs.Block.{block_word, double_rounds, column_round, diagonal_round, quarter_round}
use Rattle.aaa_defs.specs.Request.{Ask, authenticator, pieces, request_attributes}
use Rattle.aaa_defs.specs.Waits.{Pending, Waits, name_of, nothing, pending_of, pending_under, next_name, with_request, forgotten}
use Rattle.aaa_defs.specs.Age.{aged_at, after_second}
use Rattle.aaa_defs.specs.Answer.{carried_in, first_failed, is_bad_message}
use Rattle.radius_defs.specs.Parsed.{packet_of}

-- ---- the request

no_pieces : pieces [] ≡ []
unfolding pieces
no_pieces = refl

one_piece : pieces (replicate 253 7) ≡ replicate 253 7 ∷ []
unfolding pieces
one_piece = refl

two_pieces : pieces (replicate 254 7) ≡ replicate 253 7 ∷ (7 ∷ []) ∷ []
unfolding pieces
two_pieces = refl

-- bob on port 1 of the switch sw1
abbrev bob : Ask
bob = record { port = 1; own = 2 ∷ 0 ∷ 0 ∷ 1 ∷ 1 ∷ 1 ∷ []; peer = 2 ∷ 0 ∷ 0 ∷ 0 ∷ 0 ∷ 170 ∷ []; identity = codes "bob"; state = None; eap = 2 ∷ 1 ∷ 0 ∷ 8 ∷ 1 ∷ codes "bob" }

attributes_of_bob : attributes_text (request_attributes empty bob 1)
    ≡ 1 ∷ 5 ∷ codes "bob"
    ++ 4 ∷ 6 ∷ 192 ∷ 0 ∷ 2 ∷ 10 ∷ []
    ++ 5 ∷ 6 ∷ 0 ∷ 0 ∷ 0 ∷ 1 ∷ []
    ++ 6 ∷ 6 ∷ 0 ∷ 0 ∷ 0 ∷ 2 ∷ []
    ++ 12 ∷ 6 ∷ 0 ∷ 0 ∷ 5 ∷ 216 ∷ []
    ++ 30 ∷ 19 ∷ codes "02-00-00-01-01-01"
    ++ 31 ∷ 19 ∷ codes "02-00-00-00-00-AA"
    ++ 32 ∷ 5 ∷ codes "sw1"
    ++ 61 ∷ 6 ∷ 0 ∷ 0 ∷ 0 ∷ 15 ∷ []
    ++ 44 ∷ 10 ∷ codes "00000001"
    ++ 79 ∷ 10 ∷ 2 ∷ 1 ∷ 0 ∷ 8 ∷ 1 ∷ codes "bob"
unfolding pieces
attributes_of_bob = refl

-- the State stands before the EAP
state_before_eap : attributes_text (request_attributes empty (record bob { identity = []; own = []; peer = []; state = Some (83 ∷ 84 ∷ []); eap = 9 ∷ [] }) 1)
    ≡ 1 ∷ 2 ∷ 4 ∷ 6 ∷ 192 ∷ 0 ∷ 2 ∷ 10 ∷ 5 ∷ 6 ∷ 0 ∷ 0 ∷ 0 ∷ 1 ∷ 6 ∷ 6 ∷ 0 ∷ 0 ∷ 0 ∷ 2 ∷ 12 ∷ 6 ∷ 0 ∷ 0 ∷ 5 ∷ 216 ∷ 30 ∷ 2 ∷ 31 ∷ 2 ∷ 32 ∷ 5 ∷ codes "sw1"
    ++ 61 ∷ 6 ∷ 0 ∷ 0 ∷ 0 ∷ 15 ∷ 44 ∷ 10 ∷ codes "00000001" ++ 24 ∷ 4 ∷ 83 ∷ 84 ∷ 79 ∷ 3 ∷ 9 ∷ []
unfolding pieces
state_before_eap = refl

-- ---- what waits

abbrev request : ℕ → ℕ → ℕ → Pending
request session name age = record { session = session; name = name; auth = []; age = age; octets = [] }

abbrev two : Waits
two = record { requests = request 4 0 3 ∷ request 7 1023 4 ∷ []; last = Some 1022 }

the_first_name_is_0 : next_name nothing ≡ 0
unfolding next_name
the_first_name_is_0 = refl

those_that_wait_are_skipped : next_name two ≡ 1
unfolding next_name
those_that_wait_are_skipped = refl

in_the_order_of_sessions : with_request (request 5 1 0) two ≡ record { requests = request 4 0 3 ∷ request 5 1 0 ∷ request 7 1023 4 ∷ []; last = Some 1 }
in_the_order_of_sessions = refl

one_is_forgotten : forgotten 4 two ≡ record { requests = request 7 1023 4 ∷ []; last = Some 1022 }
one_is_forgotten = refl

none_of_a_stranger : pending_of 5 two ≡ None
none_of_a_stranger = refl

-- ---- ages

at_5 : aged_at 5 ≡ Resend
at_5 = refl

at_6 : aged_at 6 ≡ Quiet
at_6 = refl

at_10 : aged_at 10 ≡ Resend
at_10 = refl

at_15 : aged_at 15 ≡ GaveUp
at_15 = refl

a_second_of_one : after_second 7 two ≡ record { requests = request 4 0 3 ∷ request 7 1023 5 ∷ []; last = Some 1022 }
a_second_of_one = refl

the_last_second : after_second 4 (record two { requests = request 4 0 14 ∷ request 7 1023 4 ∷ [] }) ≡ record { requests = request 7 1023 4 ∷ []; last = Some 1022 }
the_last_second = refl

-- ---- answers

the_first_that_fails : first_failed ((false, BadCode) ∷ (true, BadAuthenticator) ∷ (true, BadCode) ∷ []) ≡ Some BadAuthenticator
the_first_that_fails = refl

none_fails : first_failed ((false, BadCode) ∷ []) ≡ None
none_fails = refl

-- beside EAP a Message-Authenticator is wanted
none_beside_eap : is_bad_message true Absent ≡ true
none_beside_eap = refl

none_without_eap : is_bad_message false Absent ≡ false
none_without_eap = refl

wrong_without_eap : is_bad_message false Wrong ≡ true
wrong_without_eap = refl

a_success_in_an_accept : carried_in 2 (eap_of (3 ∷ 1 ∷ 0 ∷ 4 ∷ [])) ≡ Some (3 ∷ 1 ∷ 0 ∷ 4 ∷ [])
a_success_in_an_accept = refl

a_failure_in_an_accept : carried_in 2 (eap_of (4 ∷ 1 ∷ 0 ∷ 4 ∷ [])) ≡ Some (4 ∷ 1 ∷ 0 ∷ 4 ∷ [])
a_failure_in_an_accept = refl

no_success_in_a_challenge : carried_in 11 (eap_of (3 ∷ 1 ∷ 0 ∷ 4 ∷ [])) ≡ None
no_success_in_a_challenge = refl

-- a Request of five octets, and one of padding
a_request_in_a_challenge : carried_in 11 (eap_of (1 ∷ 9 ∷ 0 ∷ 5 ∷ 1 ∷ 0 ∷ [])) ≡ Some (1 ∷ 9 ∷ 0 ∷ 5 ∷ 1 ∷ [])
a_request_in_a_challenge = refl

no_response_in_a_challenge : carried_in 11 (eap_of (2 ∷ 9 ∷ 0 ∷ 5 ∷ 1 ∷ [])) ≡ None
no_response_in_a_challenge = refl

no_packet_in_19_octets : packet_of (2 ∷ 9 ∷ 0 ∷ 20 ∷ zeros 15) ≡ None
unfolding packet_of
no_packet_in_19_octets = refl

-- where the settings want one it is wanted everywhere
none_where_one_is_wanted : is_bad_message (false || true) Absent ≡ true
none_where_one_is_wanted = refl

-- names are a socket and an identifier
name_of_the_last : name_of 3 255 ≡ 1023
name_of_the_last = refl

none_of_socket_4 : pending_under (name_of 4 0) two ≡ None
none_of_socket_4 = refl

-- the first authenticator of a seed of zeros (the key stream of ChaCha20 under a key of zeros)
the_first_authenticator : authenticator (zeros 32) 0 ≡ 0x76 ∷ 0xb8 ∷ 0xe0 ∷ 0xad ∷ 0xa0 ∷ 0xf1 ∷ 0x3d ∷ 0x90 ∷ 0x40 ∷ 0x5d ∷ 0x6a ∷ 0xe5 ∷ 0x53 ∷ 0x86 ∷ 0xbd ∷ 0x28 ∷ []
unfolding authenticator u32_at block_word double_rounds column_round diagonal_round quarter_round
the_first_authenticator = refl

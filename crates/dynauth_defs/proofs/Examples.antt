-- The definitions, computed at requests whose answers are known. A request is taken as a packet that was read, and true by
-- its authenticator: digests are computed by tests alone.
use Rattle.std.proofs.Common.{◌≡◌, ℕ, true, false, List, [], ◌∷◌, ◌++◌, length, refl, codes, Option, Some, None}
use Rattle.std.specs.Str.{bytes_eq}
use Rattle.radius_defs.specs.declared.Timeout.TheVariants.{End}
use Rattle.radius_defs.specs.Packet.{Attribute, Packet, packet_text}
use Rattle.radius_defs.specs.Parsed.{packet_of}
use Rattle.radius_defs.specs.Digest.{zeros, request_auth}
use Rattle.radius_defs.specs.Message.{message_state_of, with_message}
use Rattle.radius_defs.specs.declared.Ma.TheVariants.{Right}
use Rattle.switch_event.specs.Config.{Config, empty}
use Rattle.wire_core.specs.declared.address.Addr.{Addr}
use Rattle.switch_event.specs.declared.drop.DynDrop.TheVariants.{Stranger, BadCode, BadMessageAuth, Stale}
use Rattle.dynauth_defs.specs.declared.Action.TheVariants.{Disconnect, Change}
use Rattle.dynauth_defs.specs.Session.{Row, fits}
use Rattle.dynauth_defs.specs.Judge.{Judged, Drop, Again, Nak, Ack, judged}
use Rattle.dynauth_defs.specs.Reply.{unsigned_reply}

abbrev attribute : ℕ → List ℕ → Attribute
attribute kind value = record { kind = kind; value = value }

-- the client 192.0.2.30, whose secret is dyn
abbrev config : Config
config = record empty { clients = record { ip = 192 ∷ 0 ∷ 2 ∷ 30 ∷ []; secret = codes "dyn" } ∷ []; require_ma = false }

abbrev client : Addr
client = record { ip = 192 ∷ 0 ∷ 2 ∷ 30 ∷ []; port = 4000 }

-- an authorised session of bob on port 1, with this number and last octet of the address
abbrev bob : ℕ → ℕ → Row
bob number last = record { number = number; port = 1; address = 2 ∷ 0 ∷ 0 ∷ 0 ∷ 0 ∷ last ∷ []; identity = Some (codes "bob"); authorised = true }

abbrev one : List Row
one = bob 1 170 ∷ []

abbrev two : List Row
two = bob 1 170 ∷ bob 2 187 ∷ []

abbrev request : ℕ → List Attribute → Packet
request code attributes = record { code = code; identifier = 7; authenticator = zeros 16; attributes = attributes }

-- octets that are this packet, and true, are judged so
abbrev IsJudged : Packet → ℕ → List Row → Judged → Type 0
IsJudged p now rows answer = (octets : List ℕ) → packet_of octets ≡ Some p → bytes_eq p.authenticator (request_auth (packet_text p) (codes "dyn")) ≡ true
    → judged config ([] ∷ []) now rows client octets ≡ answer

a_session_is_named_in_upper_case : fits (bob 0xabc01 170) (attribute 44 (codes "000ABC01")) ≡ true
a_session_is_named_in_upper_case = refl

lower_case_is_no_digit : fits (bob 0xabc01 170) (attribute 44 (codes "000abc01")) ≡ false
lower_case_is_no_digit = refl

an_address_of_either_case : fits (bob 1 170) (attribute 31 (codes "0200.0000.00aA")) ≡ true
an_address_of_either_case = refl

no_identity_is_no_name : fits (record (bob 1 170) { identity = None }) (attribute 1 []) ≡ false
no_identity_is_no_name = refl

-- a Disconnect-Request of session 1
of_session_1 : IsJudged (request 40 (attribute 44 (codes "00000001") ∷ [])) 0 one (Ack (Disconnect 1))
of_session_1 octets packet true_auth = rw (packet, true_auth) refl

of_no_session : IsJudged (request 40 (attribute 44 (codes "00000001") ∷ [])) 0 [] (Nak 503)
of_no_session octets packet true_auth = rw (packet, true_auth) refl

-- two hosts are authorised as bob
of_two_sessions : IsJudged (request 40 (attribute 1 (codes "bob") ∷ [])) 0 two (Nak 508)
of_two_sessions octets packet true_auth = rw (packet, true_auth) refl

of_another_port : IsJudged (request 40 (attribute 5 (0 ∷ 0 ∷ 0 ∷ 2 ∷ []) ∷ [])) 0 two (Nak 503)
of_another_port octets packet true_auth = rw (packet, true_auth) refl

of_nothing : IsJudged (request 40 (attribute 55 (0 ∷ 0 ∷ 0 ∷ 0 ∷ []) ∷ [])) 0 two (Nak 402)
of_nothing octets packet true_auth = rw (packet, true_auth) refl

-- the name of another access server counts before Service-Type, and that before an attribute that is not allowed
of_another_server : IsJudged (request 40 (attribute 1 (codes "bob") ∷ attribute 32 (codes "sw2") ∷ attribute 26 [] ∷ attribute 6 (0 ∷ 0 ∷ 0 ∷ 2 ∷ []) ∷ [])) 0 two (Nak 403)
of_another_server octets packet true_auth = rw (packet, true_auth) refl

with_a_service : IsJudged (request 40 (attribute 1 (codes "bob") ∷ attribute 26 [] ∷ attribute 6 (0 ∷ 0 ∷ 0 ∷ 2 ∷ []) ∷ [])) 0 two (Nak 405)
with_a_service octets packet true_auth = rw (packet, true_auth) refl

with_a_vendor : IsJudged (request 40 (attribute 1 (codes "bob") ∷ attribute 26 [] ∷ [])) 0 two (Nak 401)
with_a_vendor octets packet true_auth = rw (packet, true_auth) refl

-- a CoA-Request with VLAN 43 and a Session-Timeout
abbrev to_vlan_43 : List ℕ → Packet
to_vlan_43 time = request 43 (attribute 44 (codes "00000001") ∷ attribute 64 (0 ∷ 0 ∷ 0 ∷ 13 ∷ []) ∷ attribute 65 (0 ∷ 0 ∷ 0 ∷ 6 ∷ []) ∷ attribute 81 (codes "43") ∷ attribute 27 time ∷ [])

a_time_of_3_octets : IsJudged (to_vlan_43 (0 ∷ 2 ∷ 88 ∷ [])) 0 one (Nak 407)
a_time_of_3_octets octets packet true_auth = rw (packet, true_auth) refl

a_time_of_600_seconds : IsJudged (to_vlan_43 (0 ∷ 0 ∷ 2 ∷ 88 ∷ [])) 0 one (Ack (Change 1 (Some 43) (End 600)))
a_time_of_600_seconds octets packet true_auth = rw (packet, true_auth) refl

-- Termination-Action alone asks for no change, and what it says does not count then
an_action_alone : IsJudged (request 43 (attribute 44 (codes "00000001") ∷ attribute 29 (0 ∷ 0 ∷ 0 ∷ 9 ∷ []) ∷ [])) 0 one (Nak 402)
an_action_alone octets packet true_auth = rw (packet, true_auth) refl

half_a_tunnel : IsJudged (request 43 (attribute 44 (codes "00000001") ∷ attribute 81 (codes "43") ∷ [])) 0 one (Nak 402)
half_a_tunnel octets packet true_auth = rw (packet, true_auth) refl

of_a_session_that_is_not_authorised : IsJudged (to_vlan_43 (0 ∷ 0 ∷ 2 ∷ 88 ∷ [])) 0 (record (bob 1 170) { authorised = false } ∷ []) (Nak 503)
of_a_session_that_is_not_authorised octets packet true_auth = rw (packet, true_auth) refl

-- a packet of another code
of_another_code : IsJudged (request 41 (attribute 44 (codes "00000001") ∷ [])) 0 one (Drop BadCode)
of_another_code octets packet true_auth = rw packet refl

-- the window is 300 seconds
abbrev at : ℕ → ℕ → Packet
at high low = request 40 (attribute 44 (codes "00000001") ∷ attribute 55 (0 ∷ 0 ∷ high ∷ low ∷ []) ∷ [])

at_700 : IsJudged (at 0x02 0xbc) 1000 one (Ack (Disconnect 1))
at_700 octets packet true_auth = rw (packet, true_auth) refl

at_1300 : IsJudged (at 0x05 0x14) 1000 one (Ack (Disconnect 1))
at_1300 octets packet true_auth = rw (packet, true_auth) refl

at_699 : IsJudged (at 0x02 0xbb) 1000 one (Drop Stale)
at_699 octets packet true_auth = rw (packet, true_auth) refl

at_1301 : IsJudged (at 0x05 0x15) 1000 one (Drop Stale)
at_1301 octets packet true_auth = rw (packet, true_auth) refl

of_a_stranger : (octets : List ℕ) → judged config ([] ∷ []) 0 one (record client { ip = 192 ∷ 0 ∷ 2 ∷ 31 ∷ [] }) octets ≡ Drop Stranger
of_a_stranger octets = refl

-- a NAK to a CoA-Request with two Proxy-States
two_proxy_states : unsigned_reply (request 43 (attribute 33 (1 ∷ []) ∷ attribute 44 (codes "00000001") ∷ attribute 33 (2 ∷ []) ∷ [])) (Some 503)
    ≡ record { code = 45; identifier = 7; authenticator = zeros 16; attributes = attribute 101 (0 ∷ 0 ∷ 1 ∷ 247 ∷ []) ∷ attribute 33 (1 ∷ []) ∷ attribute 33 (2 ∷ []) ∷ [] }
two_proxy_states = refl

-- ---- where the settings want a Message-Authenticator

none_is_there : (octets : List ℕ) → packet_of octets ≡ Some (request 40 (attribute 44 (codes "00000001") ∷ []))
    → bytes_eq (zeros 16) (request_auth (packet_text (request 40 (attribute 44 (codes "00000001") ∷ []))) (codes "dyn")) ≡ true
    → judged (record config { require_ma = true }) ([] ∷ []) 0 one client octets ≡ Drop BadMessageAuth
none_is_there octets packet true_auth = rw (packet, true_auth) refl

-- one that is right is taken, and comes again within 30 seconds
abbrev with_80 : Packet
with_80 = request 40 (attribute 80 (zeros 16) ∷ attribute 44 (codes "00000001") ∷ [])

a_right_one : (octets : List ℕ) → packet_of octets ≡ Some with_80 → bytes_eq (zeros 16) (request_auth (packet_text with_80) (codes "dyn")) ≡ true
    → message_state_of with_80 (zeros 16) (codes "dyn") ≡ Right → judged (record config { require_ma = true }) ([] ∷ []) 0 one client octets ≡ Ack (Disconnect 1)
a_right_one octets packet true_auth right = rw (packet, true_auth, right) refl

it_comes_again : (octets : List ℕ) → packet_of octets ≡ Some with_80 → bytes_eq (zeros 16) (request_auth (packet_text with_80) (codes "dyn")) ≡ true
    → message_state_of with_80 (zeros 16) (codes "dyn") ≡ Right
    → judged (record config { require_ma = true }) ((record { moment = 9; sport = 4000; request = packet_text with_80; reply = 41 ∷ [] } ∷ []) ∷ []) 39 [] client octets ≡ Again (41 ∷ [])
it_comes_again octets packet true_auth right = rw (packet, true_auth, right) refl

-- replies with a Message-Authenticator first, here of zeros: an ACK of 38 octets, a NAK of 44
abbrev reply_text : Option ℕ → List ℕ
reply_text cause = packet_text (with_message (unsigned_reply with_80 cause) (zeros 16))

an_ack : reply_text None ≡ 0x29 ∷ 7 ∷ 0 ∷ 0x26 ∷ zeros 16 ++ 80 ∷ 18 ∷ zeros 16
an_ack = refl

a_nak : reply_text (Some 503) ≡ 0x2a ∷ 7 ∷ 0 ∷ 0x2c ∷ zeros 16 ++ 80 ∷ 18 ∷ zeros 16 ++ 0x65 ∷ 6 ∷ 0 ∷ 0 ∷ 1 ∷ 0xf7 ∷ []
a_nak = refl

the_request_has_48_octets : length (packet_text with_80) ≡ 48
the_request_has_48_octets = refl

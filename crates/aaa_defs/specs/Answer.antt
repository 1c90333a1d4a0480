-- An answer of the server: the first check that it fails, or what it says (RFC 2865, sections 3 and 4; RFC 3579, sections 2
-- and 3).
use Rattle.std.specs.Prelude.{ℕ, ◌==◌, ◌||◌, ◌&&◌, not, nat_lt, Bool, true, false, if◌then◌else◌, List, [], ◌∷◌, length, Option, Some, None, is_some, is_none, Result, Ok, Err}
use Rattle.std.specs.Str.{bytes_eq}
use Rattle.wire_defs.specs.declared.EapDrop.{EapDrop}
use Rattle.wire_defs.specs.Eap.{Eap, eap_of as eap_packet_of}
use Rattle.radius_defs.specs.declared.Ma.{Ma}
use Rattle.radius_defs.specs.declared.Ma.TheVariants.{Absent, Right, Wrong}
use Rattle.radius_defs.specs.declared.attribute.TheConstants.{EAP_MESSAGE}
use Rattle.radius_defs.specs.declared.code.TheConstants.{ACCESS_ACCEPT, ACCESS_REJECT, ACCESS_CHALLENGE}
use Rattle.radius_defs.specs.Packet.{Packet, packet_text, first_value, eap_of}
use Rattle.radius_defs.specs.Parsed.{packet_of}
use Rattle.radius_defs.specs.Digest.{response_auth}
use Rattle.radius_defs.specs.Message.{message_state_of}
use Rattle.switch_event.specs.declared.drop.AaaDrop.{AaaDrop}
use Rattle.switch_event.specs.declared.drop.AaaDrop.TheVariants.{Malformed, NoRequest, BadCode, BadAuthenticator, BadMessageAuth, Oversize, BadEap}
use Rattle.aaa_defs.specs.declared.TheConstants.{MOST_EAP}
use Rattle.aaa_defs.specs.Waits.{Pending, Waits, name_of, pending_under}

-- an answer that was taken: the session that asked, the packet, and the EAP packet that it carries, without padding
pub record Taking : Type 0 where
  pub session : ℕ
  pub packet : Packet
  pub eap : Option (List ℕ)

-- Access-Accept, Access-Reject, Access-Challenge (RFC 2865, sections 4.2 to 4.4)
abbrev pub is_answer : ℕ → Bool
is_answer code = code == ACCESS_ACCEPT || code == ACCESS_REJECT || code == ACCESS_CHALLENGE

-- EAP-Message is there (RFC 3579, section 3.1)
abbrev pub has_eap : Packet → Bool
has_eap p = is_some (first_value EAP_MESSAGE p.attributes)

-- a Message-Authenticator that is wrong, or is wanted and not there (RFC 3579, section 3.2)
abbrev pub is_bad_message : (is_wanted : Bool) → Ma → Bool
is_bad_message is_wanted Wrong = true
is_bad_message is_wanted Absent = is_wanted
is_bad_message is_wanted Right = false

-- an EAP packet that an answer of this code may carry: a Request in a Challenge, a Success or a Failure in the others (RFC 3579,
-- section 2.1)
abbrev pub may_carry : (code eap_code : ℕ) → Bool
may_carry code eap_code = if code == ACCESS_CHALLENGE then eap_code == 1 else eap_code == 3 || eap_code == 4

-- the packet, without padding, where such an answer may carry it (RFC 3748, section 4)
abbrev pub carried_in : ℕ → Result Eap EapDrop → Option (List ℕ)
carried_in code (Ok eap) = if may_carry code eap.code then Some eap.whole else None
carried_in code (Err drop) = None

-- the EAP packet that a packet carries (RFC 3579, section 3.1)
abbrev pub eap_carried : Packet → Option (List ℕ)
eap_carried p = if has_eap p then carried_in p.code (eap_packet_of (eap_of p.attributes)) else None

-- the checks of a packet against the authenticator of the request that it answers, in order; true where the check fails. A
-- Message-Authenticator is wanted beside EAP, and everywhere where the settings say so
abbrev pub checks : Packet → List ℕ → List ℕ → (require : Bool) → List (Bool × AaaDrop)
checks p auth secret require =
    (not (is_answer p.code), BadCode)  -- 3. RFC 2865, section 4
    ∷ (not (bytes_eq (response_auth (packet_text p) auth secret) p.authenticator), BadAuthenticator)  -- 4. RFC 2865, section 3
    ∷ (is_bad_message (has_eap p || require) (message_state_of p auth secret), BadMessageAuth)  -- 5. RFC 3579, section 3.2
    ∷ (nat_lt MOST_EAP (length (eap_of p.attributes)), Oversize)  -- 6. IEEE Std 802.3, 3.2.7
    ∷ (has_eap p && is_none (eap_carried p), BadEap)  -- 7. RFC 3579, section 2.1
    ∷ []

-- the first check that fails
abbrev pub first_failed : List (Bool × AaaDrop) → Option AaaDrop
first_failed [] = None
first_failed (check ∷ rest) = if check.0 then Some check.1 else first_failed rest

abbrev pub taken_from : Packet → Pending → Option AaaDrop → Result Taking AaaDrop
taken_from p request None = Ok (record { session = request.session; packet = p; eap = eap_carried p })
taken_from p request (Some drop) = Err drop

-- 2. nothing is pending under the socket and the identifier (RFC 2865, section 3)
abbrev pub answered_by : Packet → Option Pending → List ℕ → (require : Bool) → Result Taking AaaDrop
answered_by p None secret require = Err NoRequest
answered_by p (Some request) secret require = taken_from p request (first_failed (checks p request.auth secret require))

-- 1. the octets are no packet (RFC 2865, section 3)
abbrev pub answered_in : Option Packet → Waits → (socket : ℕ) → List ℕ → (require : Bool) → Result Taking AaaDrop
answered_in None w socket secret require = Err Malformed
answered_in (Some p) w socket secret require = answered_by p (pending_under (name_of socket p.identifier) w) secret require

-- the first check that the octets fail that came to a socket, or what they say
abbrev pub answered : Waits → (socket : ℕ) → List ℕ → List ℕ → (require : Bool) → Result Taking AaaDrop
answered w socket octets secret require = answered_in (packet_of octets) w socket secret require

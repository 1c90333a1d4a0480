-- Message-Authenticator (RFC 3579, section 3.2).
use Rattle.std.specs.Prelude.{ℕ, ◌≡◌, ◌+◌, ◌==◌, ◌&&◌, not, if◌then◌else◌, List, [], ◌∷◌, length, drop, take_while, None}
use Rattle.std.specs.Str.{bytes_eq}
use Rattle.radius_defs.specs.declared.Ma.{Ma}
use Rattle.radius_defs.specs.declared.Ma.TheVariants.{Absent, Right, Wrong}
use Rattle.radius_defs.specs.declared.attribute.TheConstants.{MESSAGE_AUTHENTICATOR}
use Rattle.radius_defs.specs.declared.limit.TheConstants.{HEADER_OCTETS}
use Rattle.radius_defs.specs.Packet.{Attribute, Packet, attributes_text, packet_text, first_value, those_of}
use Rattle.radius_defs.specs.Digest.{message_auth, zeros}

-- the attributes before the first of this type
abbrev pub before_first : ℕ → List Attribute → List Attribute
before_first kind attributes = take_while (λ a. not (a.kind == kind)) attributes

-- where the value of the first attribute stands in a packet: behind the header, its type and its length
abbrev pub first_place : ℕ
first_place = HEADER_OCTETS + 2

-- where the value of the first attribute of this type stands
abbrev pub value_place : ℕ → List Attribute → ℕ
value_place kind attributes = first_place + length (attributes_text (before_first kind attributes))

-- exactly one attribute, of the 16 octets that are right
abbrev pub message_from : List Attribute → List ℕ → Ma
message_from [] right = Absent
message_from (a ∷ []) right = if length a.value == 16 && bytes_eq a.value right then Right else Wrong
message_from (a ∷ b ∷ rest) right = Wrong

-- what the packet's Message-Authenticator is under this authenticator of the packet
abbrev pub message_state_of : Packet → List ℕ → List ℕ → Ma
message_state_of p auth secret =
    let at = value_place MESSAGE_AUTHENTICATOR p.attributes in
    message_from (those_of MESSAGE_AUTHENTICATOR p.attributes) (message_auth (packet_text p) auth at secret)

-- the packet with a Message-Authenticator of this value before its other attributes
abbrev pub with_message : Packet → List ℕ → Packet
with_message p value = record p { attributes = record { kind = MESSAGE_AUTHENTICATOR; value = value } ∷ p.attributes }

-- the value that it must have there, from the packet with zeros in its place
abbrev pub message_value : Packet → List ℕ → List ℕ → List ℕ
message_value p auth secret = message_auth (packet_text (with_message p (zeros 16))) auth first_place secret

-- the packet, signed under this authenticator: its Message-Authenticator stands before all other attributes (CVE-2024-3596)
abbrev pub signed : Packet → List ℕ → List ℕ → Packet
signed p auth secret = with_message p (message_value p auth secret)

-- the packet without its first attribute
abbrev pub behind_first : Packet → Packet
behind_first p = record p { attributes = drop 1 p.attributes }

-- a packet that is to be signed: zeros stand in the place of its Message-Authenticator, and it has no other
pub record AwaitsSigning (p : Packet) : Type 0 where
  pub first : p ≡ with_message (behind_first p) (zeros 16)
  pub only : first_value MESSAGE_AUTHENTICATOR (behind_first p).attributes ≡ None

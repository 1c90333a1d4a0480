-- RADIUS packets (RFC 2865, section 3): code, identifier, length, authenticator, attributes, padding.
use Rattle.std.specs.Prelude.{ℕ, ◌+◌, ◌<◌, ◌≤◌, ◌≡◌, ◌⊎◌, List, [], ◌∷◌, ◌++◌, length, take, drop, filter, find, ◌==◌, Option, Result, Ok, Err}
use Rattle.std.specs.List.{flat_map}
use Rattle.std.specs.Option.{option_map}
use Rattle.wire_defs.specs.Number.{two_octets, pair}
use Rattle.radius_defs.specs.declared.RadDrop.{RadDrop}
use Rattle.radius_defs.specs.declared.RadDrop.TheVariants.{Short, BadLength, BadAttribute}
use Rattle.radius_defs.specs.declared.attribute.TheConstants.{EAP_MESSAGE}
use Rattle.radius_defs.specs.declared.limit.TheConstants.{HEADER_OCTETS, MOST_OCTETS}

-- an attribute: its type and its value (RFC 2865, section 5)
pub record Attribute : Type 0 where
  pub kind : ℕ
  pub value : List ℕ

pub record Packet : Type 0 where
  pub code : ℕ
  pub identifier : ℕ
  pub authenticator : List ℕ
  pub attributes : List Attribute

-- type, length of the whole attribute, value
abbrev pub attribute_text : Attribute → List ℕ
attribute_text a = a.kind ∷ (length a.value + 2) ∷ a.value

-- the attributes one after another
abbrev pub attributes_text : List Attribute → List ℕ
attributes_text attributes = flat_map attribute_text attributes

-- the octets of a packet with these attribute octets
abbrev pub text_of : ℕ → ℕ → List ℕ → List ℕ → List ℕ
text_of code identifier authenticator body =
    code ∷ identifier ∷ two_octets (HEADER_OCTETS + length body) ++ authenticator ++ body

-- code, identifier, length, authenticator, and the attributes one after another
abbrev pub packet_text : Packet → List ℕ
packet_text p = text_of p.code p.identifier p.authenticator (attributes_text p.attributes)

-- how many octets a packet has
unfoldable pub size_of : Packet → ℕ
size_of p = length (packet_text p)

-- what has a text: an authenticator of 16 octets, and no more octets in all than a packet can have
pub record Fits (p : Packet) : Type 0 where
  pub authenticator : length p.authenticator ≡ 16
  pub body : HEADER_OCTETS + length (attributes_text p.attributes) ≤ MOST_OCTETS

-- the octets are a packet, and padding behind it
pub record IsPacket (octets : List ℕ) (p : Packet) : Type 0 where
  pub fits : Fits p
  pub padding : List ℕ
  pub split : octets ≡ packet_text p ++ padding

-- what the length field says
abbrev pub stated_length : List ℕ → ℕ
stated_length octets = pair octets 2

-- the octets of the attributes: those behind the header, up to the stated length
abbrev pub body_of : List ℕ → List ℕ
body_of octets = drop HEADER_OCTETS (take (stated_length octets) octets)

-- no attribute stands at the front: there is no length octet, a length below 2, or one past the end
abbrev pub IsBroken : List ℕ → Type 0
IsBroken [] = ⊥
IsBroken (kind ∷ []) = Unit {0}
IsBroken (kind ∷ size ∷ after) = (size < 2) ⊎ (length after + 2 < size)

-- behind the header: whole attributes up to `at`, and none there
pub record BreaksAt (body : List ℕ) (at : ℕ) : Type 0 where
  pub attributes : List Attribute
  pub rest : List ℕ
  pub split : body ≡ attributes_text attributes ++ rest
  pub place : at ≡ HEADER_OCTETS + length (attributes_text attributes)
  pub broken : IsBroken rest

-- the stated length is one that a packet can have, and so many octets are there
pub record HasLength (octets : List ℕ) : Type 0 where
  pub least : HEADER_OCTETS ≤ stated_length octets
  pub most : stated_length octets ≤ MOST_OCTETS
  pub there : stated_length octets ≤ length octets

-- the packet, or the first line that applies
abbrev pub PacketOf : List ℕ → Result Packet RadDrop → Type 0
PacketOf octets (Ok p) = IsPacket octets p
PacketOf octets (Err Short) = length octets < HEADER_OCTETS
PacketOf octets (Err BadLength) =
    (HEADER_OCTETS ≤ length octets)
    × ((stated_length octets < HEADER_OCTETS) ⊎ (MOST_OCTETS < stated_length octets) ⊎ (length octets < stated_length octets))
PacketOf octets (Err (BadAttribute at)) = (HEADER_OCTETS ≤ length octets) × HasLength octets × BreaksAt (body_of octets) at

-- the value of the first attribute of this type
abbrev pub first_value : ℕ → List Attribute → Option (List ℕ)
first_value kind attributes = option_map (λ a. a.value) (find (λ a. a.kind == kind) attributes)

-- the attributes of this type
abbrev pub those_of : ℕ → List Attribute → List Attribute
those_of kind attributes = filter (λ a. a.kind == kind) attributes

-- their values, one after another
abbrev pub joined_values : ℕ → List Attribute → List ℕ
joined_values kind attributes = flat_map (λ a. a.value) (those_of kind attributes)

-- the EAP packet, in attributes EAP-Message (RFC 3579, section 3.1)
abbrev pub eap_of : List Attribute → List ℕ
eap_of attributes = joined_values EAP_MESSAGE attributes

-- the octets with a piece written over those from `at` on
abbrev pub written_over : List ℕ → ℕ → List ℕ → List ℕ
written_over octets at piece = take at octets ++ piece ++ drop (at + length piece) octets

-- the value of an attribute stands at this place of a packet, and has 16 octets
pub record HasValueAt (attributes : List Attribute) (at : ℕ) : Type 0 where
  pub front : List Attribute
  pub attribute : Attribute
  pub rest : List Attribute
  pub split : attributes ≡ front ++ attribute ∷ rest
  pub place : at ≡ 22 + length (attributes_text front)
  pub sixteen : length attribute.value ≡ 16

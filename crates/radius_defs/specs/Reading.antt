-- The attributes that octets begin with (RFC 2865, section 5), as a function; what it says is the relation of Packet.
use Rattle.std.specs.Prelude.{ℕ, zero, suc, ◌+◌, ◌-◌, ◌≡◌, nat_lt, ◌||◌, if◌then◌else◌, List, [], ◌∷◌, length, take, drop, slice_index, Option, Some, None}
use Rattle.std.specs.Option.{option_map_or}
use Rattle.radius_defs.specs.Packet.{Attribute, Packet, attributes_text, packet_text, Fits}

-- the attribute at the front, and the octets after it
unfoldable pub first_attribute : List ℕ → Option (Attribute × List ℕ)
first_attribute [] = None
first_attribute (kind ∷ []) = None
first_attribute (kind ∷ size ∷ after) =
    if nat_lt size 2 || nat_lt (length after + 2) size then None
    else Some (record { kind = kind; value = take (size - 2) after }, drop (size - 2) after)

-- at most `most` attributes, as long as whole ones stand there
unfoldable pub run_within : ℕ → List ℕ → List Attribute
run_within zero octets = []
run_within (suc most) octets = option_map_or (λ found. found.0 ∷ run_within most found.1) (first_attribute octets) []

-- the longest run of whole attributes
unfoldable pub attributes_of : List ℕ → List Attribute
attributes_of octets = run_within (length octets) octets

-- the octets are whole attributes
pub record IsWhole (octets : List ℕ) : Type 0 where
  pub whole : octets ≡ attributes_text (attributes_of octets)

-- the packet that octets without padding are
abbrev pub packet_in : List ℕ → Packet
packet_in octets = record { code = slice_index octets 0; identifier = slice_index octets 1; authenticator = take 16 (drop 4 octets); attributes = attributes_of (drop 20 octets) }

-- the octets are a whole packet, without padding
pub record IsText (octets : List ℕ) : Type 0 where
  pub text : octets ≡ packet_text (packet_in octets)
  pub fits : Fits (packet_in octets)

-- Where a value stands in a packet.
use Rattle.std.specs.Prelude.{ℕ, ◌≡◌, ◌+◌, ◌≤◌, List, ◌∷◌, length}
use Rattle.radius_defs.specs.Packet.{Attribute, Packet, packet_text, those_of}
use Rattle.radius_defs.specs.Message.{value_place}

-- the first attribute of this type: the place of its value, the value, and the attributes after it
pub record StandsAt (p : Packet) (kind at : ℕ) (value : List ℕ) (after : List Attribute) : Type 0 where
  pub those : those_of kind p.attributes ≡ record { kind = kind; value = value } ∷ those_of kind after
  pub place : at ≡ value_place kind p.attributes
  pub within : at + length value ≤ length (packet_text p)

-- The packet that octets are, as a function; what it says is the relation of Packet.
use Rattle.std.specs.Prelude.{ℕ, ◌+◌, ◌==◌, ◌&&◌, nat_le, Bool, if◌then◌else◌, List, ◌++◌, length, take, drop, Option, Some, None}
use Rattle.std.specs.Str.{bytes_eq}
use Rattle.radius_defs.specs.Packet.{Packet, attributes_text, packet_text, stated_length}
use Rattle.radius_defs.specs.Reading.{packet_in}
use Rattle.radius_defs.specs.declared.limit.TheConstants.{HEADER_OCTETS, MOST_OCTETS}

-- the octets are the text of this packet, and padding behind the stated length (RFC 2865, section 3)
abbrev pub is_text_of : Packet → List ℕ → Bool
is_text_of p octets =
    length p.authenticator == 16
    && nat_le (HEADER_OCTETS + length (attributes_text p.attributes)) MOST_OCTETS
    && bytes_eq (packet_text p ++ drop (stated_length octets) octets) octets

-- the packet that octets are; none where they are no packet
unfoldable pub packet_of : List ℕ → Option Packet
packet_of octets =
    let p = packet_in (take (stated_length octets) octets) in
    if is_text_of p octets then Some p else None

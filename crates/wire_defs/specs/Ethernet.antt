-- Ethernet frames (IEEE Std 802.3, 3.1.1): destination, source, type and body, without a frame check sequence.
use Rattle.std.specs.Prelude.{ℕ, ◌%◌, ◌<◌, ◌≤◌, ◌==◌, ◌≡◌, ◌&&◌, nat_lt, nat_le, Bool, if◌then◌else◌, List, [], ◌∷◌, ◌++◌, length, take, drop, slice_index, Result, Ok, Err}
use Rattle.std.specs.Str.{bytes_eq}
use Rattle.wire_defs.specs.declared.EthDrop.{EthDrop}
use Rattle.wire_defs.specs.declared.EthDrop.TheVariants.{Runt, Giant}
use Rattle.wire_defs.specs.Number.{two_octets, pair}

pub record Frame : Type 0 where
  pub to : List ℕ
  pub source : List ℕ
  pub kind : ℕ
  pub body : List ℕ

-- the octets are the fields, one after another
pub record IsFrame (octets : List ℕ) (frame : Frame) : Type 0 where
  pub split : octets ≡ frame.to ++ frame.source ++ two_octets frame.kind ++ frame.body
  pub to_six : length frame.to ≡ 6
  pub source_six : length frame.source ≡ 6

-- the first line that applies, or the fields
abbrev pub EthOf : List ℕ → Result Frame EthDrop → Type 0
EthOf octets (Err Runt) = length octets < 14
EthOf octets (Err Giant) = 1518 < length octets
EthOf octets (Ok frame) = (14 ≤ length octets) × (length octets ≤ 1518) × IsFrame octets frame

-- the fields of octets that are a frame, by their places
abbrev pub destination : List ℕ → List ℕ
destination octets = take 6 octets

abbrev pub source : List ℕ → List ℕ
source octets = take 6 (drop 6 octets)

abbrev pub kind : List ℕ → ℕ
kind octets = pair octets 12

abbrev pub frame_of : List ℕ → Frame
frame_of octets = record { to = destination octets; source = source octets; kind = kind octets; body = drop 14 octets }

-- the first line that applies, or the fields, as a function
abbrev pub eth_of : List ℕ → Result Frame EthDrop
eth_of octets = if nat_lt (length octets) 14 then Err Runt else if nat_lt 1518 (length octets) then Err Giant else Ok (frame_of octets)

-- the type of EAPOL (IEEE Std 802.1X-2004, 7.2): 88-8E
abbrev pub eapol_kind : ℕ
eapol_kind = 34958

-- the type of a VLAN tag (IEEE Std 802.1Q, 9.6): 81-00
abbrev pub tag_kind : ℕ
tag_kind = 33024

-- octets that are a frame with the type of EAPOL
abbrev pub is_control : List ℕ → Bool
is_control octets = nat_le 14 (length octets) && nat_le (length octets) 1518 && kind octets == eapol_kind

-- the address that a port access entity listens to (IEEE Std 802.1X-2004, 7.8): 01-80-C2-00-00-03
abbrev pub pae_group : List ℕ
pae_group = 1 ∷ 128 ∷ 194 ∷ 0 ∷ 0 ∷ 3 ∷ []

-- a group address has the lowest bit of its first octet set (IEEE Std 802.3, 3.2.3)
abbrev pub is_group : List ℕ → Bool
is_group address = slice_index address 0 % 2 == 1

-- the sixteen addresses that no bridge forwards (IEEE Std 802.1D, 7.12.6): 01-80-C2-00-00-00 to 01-80-C2-00-00-0F
abbrev pub is_reserved : List ℕ → Bool
is_reserved address = bytes_eq (take 5 address) (take 5 pae_group) && nat_lt (slice_index address 5) 16

-- the octets of a frame
abbrev pub plain_text : Frame → List ℕ
plain_text frame = frame.to ++ frame.source ++ two_octets frame.kind ++ frame.body

-- the octets of a frame with a tag of priority 0 before its type (IEEE Std 802.1Q, 9.3)
abbrev pub tagged_text : ℕ → Frame → List ℕ
tagged_text vlan frame = frame.to ++ frame.source ++ two_octets tag_kind ++ two_octets vlan ++ two_octets frame.kind ++ frame.body

-- the octets of a frame with that tag behind its two addresses
abbrev pub tagged : ℕ → List ℕ → List ℕ
tagged vlan octets = take 12 octets ++ two_octets tag_kind ++ two_octets vlan ++ drop 12 octets

-- Packets of EAP over LAN (IEEE Std 802.1X-2004, 7.5): version, type, length of the body, body, and padding.
use Rattle.std.specs.Prelude.{ℕ, ◌+◌, ◌==◌, ◌<◌, ◌≤◌, ◌≡◌, nat_lt, if◌then◌else◌, List, [], ◌∷◌, ◌++◌, length, take, drop, slice_index, Result, Ok, Err}
use Rattle.wire_defs.specs.declared.EapolDrop.{EapolDrop}
use Rattle.wire_defs.specs.declared.EapolDrop.TheVariants.{Short, Key, UnknownType, BodyShort}
use Rattle.wire_defs.specs.declared.Kind.{Kind}
use Rattle.wire_defs.specs.declared.Kind.TheVariants.{EapPacket, Start, Logoff}
use Rattle.wire_defs.specs.Number.{two_octets, pair}

pub record Eapol : Type 0 where
  pub version : ℕ
  pub kind : Kind
  pub body : List ℕ

-- the number of a type (IEEE Std 802.1X-2004, 7.5.4)
abbrev pub type_number : Kind → ℕ
type_number EapPacket = 0
type_number Start = 1
type_number Logoff = 2

-- what follows the four octets of the header: the body and padding; what a Start or a Logoff carries is ignored
abbrev pub IsBody : Kind → (size : ℕ) → (after body : List ℕ) → Type 0
IsBody EapPacket size after body = (padding : List ℕ) × (after ≡ body ++ padding) × (size ≡ length body)
IsBody Start size after body = body ≡ []
IsBody Logoff size after body = body ≡ []

-- the octets are the fields, one after another
pub record IsEapol (octets : List ℕ) (eapol : Eapol) : Type 0 where
  pub size : ℕ
  pub after : List ℕ
  pub split : octets ≡ (eapol.version ∷ type_number eapol.kind ∷ two_octets size) ++ after
  pub carried : IsBody eapol.kind size after eapol.body

-- the first line that applies, or the fields
abbrev pub EapolOf : List ℕ → Result Eapol EapolDrop → Type 0
EapolOf octets (Err Short) = length octets < 4
EapolOf octets (Err Key) = (4 ≤ length octets) × (slice_index octets 1 ≡ 3)
EapolOf octets (Err UnknownType) = (4 ≤ length octets) × (4 ≤ slice_index octets 1)
EapolOf octets (Err BodyShort) = (4 ≤ length octets) × (slice_index octets 1 ≡ 0) × (length octets < 4 + pair octets 2)
EapolOf octets (Ok eapol) = IsEapol octets eapol

-- the same as a function
abbrev pub eapol_of : List ℕ → Result Eapol EapolDrop
eapol_of octets =
    let kind = slice_index octets 1 in
    let size = pair octets 2 in
    let after = drop 4 octets in
    if nat_lt (length octets) 4 then Err Short
    else if kind == 3 then Err Key
    else if nat_lt 3 kind then Err UnknownType
    else if kind == 1 then Ok (record { version = slice_index octets 0; kind = Start; body = [] })
    else if kind == 2 then Ok (record { version = slice_index octets 0; kind = Logoff; body = [] })
    else if nat_lt (length after) size then Err BodyShort
    else Ok (record { version = slice_index octets 0; kind = EapPacket; body = take size after })

-- the EAPOL packet of version 2 that carries an EAP packet
abbrev pub eapol_text : List ℕ → List ℕ
eapol_text eap = (2 ∷ 0 ∷ two_octets (length eap)) ++ eap

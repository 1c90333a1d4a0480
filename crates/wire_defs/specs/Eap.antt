-- EAP packets (RFC 3748, 4): code, identifier, length, data, and padding.
use Rattle.std.specs.Prelude.{ℕ, ◌==◌, ◌||◌, ◌&&◌, not, ◌<◌, ◌≤◌, ◌≡◌, ◌≢◌, ◌⊎◌, nat_lt, nat_le, Bool, if◌then◌else◌, List, [], ◌∷◌, ◌++◌, length, take, drop, slice_index, Result, Ok, Err}
use Rattle.wire_defs.specs.declared.EapDrop.{EapDrop}
use Rattle.wire_defs.specs.declared.EapDrop.TheVariants.{Short, BadCode, BadLength}
use Rattle.wire_defs.specs.Number.{two_octets, pair}

-- kind is the type of a Request or a Response and rest what follows it; whole is the packet without padding
pub record Eap : Type 0 where
  pub code : ℕ
  pub id : ℕ
  pub kind : ℕ
  pub rest : List ℕ
  pub whole : List ℕ

-- the data of a packet: a Request (1) or a Response (2) has a type (RFC 3748, 4.1), a Success (3) or a Failure (4) has nothing (4.2)
pub record IsData (carried : List ℕ) (eap : Eap) : Type 0 where
  pub typed : eap.code ≤ 2 → carried ≡ eap.kind ∷ eap.rest
  pub bare : 3 ≤ eap.code → (carried ≡ []) × (eap.kind ≡ 0) × (eap.rest ≡ [])

-- the octets are the fields, one after another; the length counts the header and the data
pub record IsEap (octets : List ℕ) (eap : Eap) : Type 0 where
  pub carried : List ℕ
  pub padding : List ℕ
  pub split : octets ≡ eap.whole ++ padding
  pub packet : eap.whole ≡ (eap.code ∷ eap.id ∷ two_octets (length eap.whole)) ++ carried
  pub meant : IsData carried eap
  pub known : (1 ≤ eap.code) × (eap.code ≤ 4)

-- the length of a packet that no fields of this code have, where this many octets are there
abbrev pub IsBadLength : (code size there : ℕ) → Type 0
IsBadLength code size there = (there < size) ⊎ ((code ≤ 2) × (size < 5)) ⊎ ((3 ≤ code) × (size ≢ 4))

-- the first line that applies, or the fields
abbrev pub EapOf : List ℕ → Result Eap EapDrop → Type 0
EapOf octets (Err Short) = length octets < 4
EapOf octets (Err BadCode) = (4 ≤ length octets) × ((slice_index octets 0 ≡ 0) ⊎ (5 ≤ slice_index octets 0))
EapOf octets (Err BadLength) = (4 ≤ length octets) × (1 ≤ slice_index octets 0) × (slice_index octets 0 ≤ 4) × IsBadLength (slice_index octets 0) (pair octets 2) (length octets)
EapOf octets (Ok eap) = IsEap octets eap

-- the same as a function
abbrev pub is_code : ℕ → Bool
is_code code = nat_le 1 code && nat_le code 4

abbrev pub is_bad_length : (code size there : ℕ) → Bool
is_bad_length code size there = nat_lt there size || (if nat_le code 2 then nat_lt size 5 else not (size == 4))

abbrev pub fields_of : List ℕ → Eap
fields_of whole =
    if nat_le (slice_index whole 0) 2
    then record { code = slice_index whole 0; id = slice_index whole 1; kind = slice_index whole 4; rest = drop 5 whole; whole = whole }
    else record { code = slice_index whole 0; id = slice_index whole 1; kind = 0; rest = []; whole = whole }

abbrev pub eap_of : List ℕ → Result Eap EapDrop
eap_of octets =
    if nat_lt (length octets) 4 then Err Short
    else if not (is_code (slice_index octets 0)) then Err BadCode
    else if is_bad_length (slice_index octets 0) (pair octets 2) (length octets) then Err BadLength
    else Ok (fields_of (take (pair octets 2) octets))

-- the Request for an identity (RFC 3748, 5.1)
abbrev pub identity_request : (id : ℕ) → List ℕ
identity_request id = 1 ∷ id ∷ 0 ∷ 5 ∷ 1 ∷ []

-- the Success or the Failure (RFC 3748, 4.2)
abbrev pub canned : (success : Bool) → (id : ℕ) → List ℕ
canned success id = (if success then 3 else 4) ∷ id ∷ 0 ∷ 4 ∷ []

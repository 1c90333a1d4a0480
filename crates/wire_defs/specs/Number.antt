-- Numbers in octets and in decimal digits.
use Rattle.std.specs.Prelude.{ℕ, ◌+◌, ◌*◌, ◌/◌, ◌%◌, ◌<◌, ◌==◌, ◌&&◌, ◌||◌, not, nat_lt, nat_le, Bool, if◌then◌else◌, List, [], ◌∷◌, length, slice_index, Option, Some, None}
use Rattle.std.specs.List.{list_all}
use Rattle.std.specs.Char.{is_ascii_digit}
use Rattle.std.specs.Str.Parse.{digits_value}

-- each is an octet
abbrev pub IsOctets : List ℕ → Type 0
IsOctets octets = (k : ℕ) → slice_index octets k < 256

-- a number below 65,536 as two octets, the most significant first
abbrev pub two_octets : ℕ → List ℕ
two_octets n = n / 256 ∷ n % 256 ∷ []

-- the number in two octets from a place, the most significant first
abbrev pub pair : List ℕ → ℕ → ℕ
pair octets at = 256 * slice_index octets at + slice_index octets (at + 1)

-- a number below 4,294,967,296 as four octets, the most significant first
abbrev pub four_octets : ℕ → List ℕ
four_octets n = n / 16777216 ∷ n / 65536 % 256 ∷ n / 256 % 256 ∷ n % 256 ∷ []

-- the number in four octets from a place, the most significant first
abbrev pub quad : List ℕ → ℕ → ℕ
quad octets at = 65536 * pair octets at + pair octets (at + 2)

-- the number in two octets from a place, where two stand there
abbrev pub pair_at : List ℕ → ℕ → Option ℕ
pair_at octets at = if nat_le (at + 2) (length octets) then Some (pair octets at) else None

-- the number in four octets from a place, where four stand there
abbrev pub quad_at : List ℕ → ℕ → Option ℕ
quad_at octets at = if nat_le (at + 4) (length octets) then Some (quad octets at) else None

-- decimal digits without a leading zero
abbrev pub is_number : List ℕ → Bool
is_number text = nat_lt 0 (length text) && list_all is_ascii_digit text && (nat_le (length text) 1 || not (slice_index text 0 == 48))

-- the number that a text spells, where it is in the range
abbrev pub number_in : ℕ → ℕ → List ℕ → Option ℕ
number_in least most text =
    let n = digits_value 10 text in
    if is_number text && (nat_le least n && nat_le n most) then Some n else None

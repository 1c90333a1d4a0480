-- The address of a station as text (RFC 3580, 3.20 and 3.21): 00-10-A4-23-19-C0.
use Rattle.std.specs.Prelude.{ℕ, ◌+◌, ◌*◌, ◌/◌, ◌%◌, ◌==◌, ◌&&◌, ◌||◌, not, nat_lt, Bool, if◌then◌else◌, List, [], ◌∷◌, length, map, filter, Option, Some, None}
use Rattle.std.specs.List.{list_all, join_with_byte}
use Rattle.std.specs.Char.{is_ascii_hexdigit, digit_value}

-- the hexadecimal digit of a number below 16, A to F in upper case
abbrev pub upper_digit : ℕ → ℕ
upper_digit n = if nat_lt n 10 then 48 + n else 55 + n

-- an octet as two digits, the most significant first
abbrev pub octet_text : ℕ → List ℕ
octet_text octet = upper_digit (octet / 16) ∷ upper_digit (octet % 16) ∷ []

-- the octets of an address with a hyphen between each two
abbrev pub station_text : List ℕ → List ℕ
station_text address = join_with_byte 45 (map octet_text address)

-- a hyphen, a colon or a full stop
abbrev pub is_separator : ℕ → Bool
is_separator octet = octet == 45 || octet == 58 || octet == 46

-- a text without its separators
abbrev pub without_separators : List ℕ → List ℕ
without_separators text = filter (λ octet. not (is_separator octet)) text

-- the octets that hexadecimal digits of either case write, two digits an octet
abbrev pub octets_of_digits : List ℕ → List ℕ
octets_of_digits [] = []
octets_of_digits (digit ∷ []) = []
octets_of_digits (high ∷ low ∷ rest) = (16 * digit_value high + digit_value low) ∷ octets_of_digits rest

-- the address that a text writes: twelve hexadecimal digits, wherever separators stand
abbrev pub station_of : List ℕ → Option (List ℕ)
station_of text =
    let digits = without_separators text in
    if length digits == 12 && list_all is_ascii_hexdigit digits then Some (octets_of_digits digits) else None

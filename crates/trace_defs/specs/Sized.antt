-- Numbers, addresses and octets in their ranges.
use Rattle.std.proofs.Common.{◌≡◌, ℕ, ◌-◌, ◌<◌, ◌≤◌, Bool, ◌&&◌, true, leb, List, [], ◌∷◌, length}
use Rattle.std.specs.List.{list_all}
use Rattle.wire_defs.specs.Text.{words}
use Rattle.hex.specs.Hex.{IsBytes}

-- the octets of a word: a printable one other than the space
abbrev pub is_glyph : ℕ → Bool
is_glyph octet = leb 33 octet && leb octet 126

abbrev pub IsAddress : List ℕ → Type 0
IsAddress (a ∷ b ∷ c ∷ d ∷ []) = (a ≤ 255) × (b ≤ 255) × (c ≤ 255) × (d ≤ 255)
IsAddress other = ⊥

-- octets, so many of them
pub record IsSized (least most : ℕ) (text : List ℕ) : Type 0 where
  pub low : least ≤ length text
  pub high : length text ≤ most
  pub octets : IsBytes text

-- words of glyphs
pub record IsPlain (word : List ℕ) : Type 0 where
  pub some : 0 < length word
  pub plain : list_all is_glyph word ≡ true

pub record IsWithin (least most n : ℕ) : Type 0 where
  pub low : least ≤ n
  pub high : n ≤ most

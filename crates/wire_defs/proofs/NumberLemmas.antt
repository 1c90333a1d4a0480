-- Octets at their places.
use Rattle.std.proofs.Common.{◌≡◌, ℕ, ◌+◌, ◌*◌, ◌/◌, ◌%◌, ◌<◌, ◌≤◌, Bool, true, false, if◌then◌else◌, List, [], ◌∷◌, ◌++◌, length, slice_index, drop, refl, sym, ap, ap₂, ◌∙◌, arith}
use Rattle.std.proofs.lemmas.List.{drop_more}
use Rattle.wire_defs.specs.Number.{IsOctets, two_octets, pair}

-- what a choice is, from the two answers of its test
pub if_cases : {A : Type 0} (P : A → Type 0) (b : Bool) (x y : A) → (b ≡ true → P x) → (b ≡ false → P y) → P (if b then x else y)
if_cases P true x y h k = h refl
if_cases P false x y h k = k refl

-- two octets make a number, which has them again
pub high_octet : (high low : ℕ) → low < 256 → (256 * high + low) / 256 ≡ high
high_octet high low h = omega arith

pub low_octet : (high low : ℕ) → low < 256 → (256 * high + low) % 256 ≡ low
low_octet high low h = omega arith

pub two_octets-pair : (octets : List ℕ) (at : ℕ) → IsOctets octets → two_octets (pair octets at) ≡ slice_index octets at ∷ slice_index octets (at + 1) ∷ []
two_octets-pair octets at fits =
    ap₂ (λ high low. high ∷ low ∷ []) (high_octet _ _ (fits (at + 1))) (low_octet _ _ (fits (at + 1)))

-- a number is that of its two octets
pub pair_of_two : (n : ℕ) → 256 * (n / 256) + n % 256 ≡ n
pair_of_two n = omega arith

-- octets from a place, where two stand there
pub drop_pair : (octets : List ℕ) (at : ℕ) → IsOctets octets → at + 2 ≤ length octets → drop at octets ≡ two_octets (pair octets at) ++ drop (at + 2) octets
drop_pair octets at fits h =
    let next : at + 1 + 1 ≡ at + 2 = omega arith in
    drop_more octets at 0 (omega arith)
    ∙ ap (λ rest. slice_index octets at ∷ rest) (drop_more octets (at + 1) 0 (omega arith))
    ∙ ap (λ n. slice_index octets at ∷ slice_index octets (at + 1) ∷ drop n octets) next
    ∙ ap (λ two. two ++ drop (at + 2) octets) (sym (two_octets-pair octets at fits))

-- four octets and what follows them
pub first_four : (octets : List ℕ) → IsOctets octets → 4 ≤ length octets → octets ≡ (slice_index octets 0 ∷ slice_index octets 1 ∷ two_octets (pair octets 2)) ++ drop 4 octets
first_four octets fits h =
    drop_more octets 0 0 (omega arith)
    ∙ ap (λ rest. slice_index octets 0 ∷ rest) (drop_more octets 1 0 (omega arith))
    ∙ ap (λ rest. slice_index octets 0 ∷ slice_index octets 1 ∷ rest) (drop_pair octets 2 fits (omega arith))

-- The pieces of octets: the first one, and those of the rest.
use Rattle.std.proofs.Common.{◌≡◌, ℕ, zero, suc, ◌≤◌, ◌<◌, List, [], ◌∷◌, length, take, drop, refl, ap, arith, length-drop}
use Rattle.aaa_defs.specs.Request.{pieces, pieces_within}

rest-fits : (n : ℕ) (octet : ℕ) (rest : List ℕ) → length (octet ∷ rest) ≤ suc n → length (drop 253 (octet ∷ rest)) ≤ n
rest-fits n octet rest fits = omega (arith, fits, length-drop 253 (octet ∷ rest))

enough : (n m : ℕ) (octets : List ℕ) → length octets ≤ n → length octets ≤ m → pieces_within n octets ≡ pieces_within m octets
enough n m [] first second = refl
enough zero m (octet ∷ rest) first second = absurd (omega (arith, first))
enough (suc n) zero (octet ∷ rest) first second = absurd (omega (arith, second))
enough (suc n) (suc m) (octet ∷ rest) first second =
    ap (λ (ps : List (List ℕ)). take 253 (octet ∷ rest) ∷ ps) (enough n m (drop 253 (octet ∷ rest)) (rest-fits n octet rest first) (rest-fits m octet rest second))

pub pieces-none : pieces [] ≡ []
unfolding pieces
pieces-none = refl

pub pieces-more : (octets : List ℕ) → 0 < length octets → pieces octets ≡ take 253 octets ∷ pieces (drop 253 octets)
unfolding pieces
pieces-more [] some = absurd (omega (arith, some))
pieces-more (octet ∷ rest) some =
    ap (λ (ps : List (List ℕ)). take 253 (octet ∷ rest) ∷ ps)
    (enough (length rest) (length (drop 253 (octet ∷ rest))) (drop 253 (octet ∷ rest)) (rest-fits (length rest) octet rest (omega arith)) (omega arith))

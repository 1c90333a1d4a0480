-- What a clock tells: the moments that it has yet to answer.
use Rattle.std.specs.Prelude.{◌≡◌, ⊤, ℕ, List, [], ◌∷◌, Option, Some, None}

-- what it answers: the first of its moments, or 0 without one
abbrev pub moment_of : List ℕ → ℕ
moment_of [] = 0
moment_of (m ∷ rest) = m

-- the moments that it has then: the last one is repeated
abbrev pub moments_after : List ℕ → List ℕ
moments_after [] = []
moments_after (m ∷ []) = m ∷ []
moments_after (m ∷ n ∷ rest) = n ∷ rest

abbrev pub Tells : Option (List ℕ) → Option (List ℕ) → (answer : ℕ) → Type 0
Tells None new answer = ⊤
Tells (Some old) None answer = ⊥
Tells (Some old) (Some new) answer = (answer ≡ moment_of old) × (new ≡ moments_after old)

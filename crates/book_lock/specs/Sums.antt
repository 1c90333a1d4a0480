-- What is said of each element of a list, and sums over all.
use Rattle.std.specs.Prelude.{ℕ, zero, suc, ◌+◌, List, [], ◌∷◌, ◌++◌, max}

-- f of each, added up
abbrev pub total : {A : Type 0} → (A → ℕ) → List A → ℕ
total f [] = 0
total f (x ∷ xs) = f x + total f xs

-- the lists of all, one after another
abbrev pub gathered : {A C : Type 0} → (A → List C) → List A → List C
gathered f [] = []
gathered f (x ∷ xs) = f x ++ gathered f xs

-- the greatest of all, or 0
abbrev pub top : {A : Type 0} → (A → ℕ) → List A → ℕ
top f [] = 0
top f (x ∷ xs) = max (f x) (top f xs)

abbrev pub Each : {A : Type 0} → (A → Type 0) → List A → Type 0
Each P [] = Unit {0}
Each P (x ∷ xs) = P x × Each P xs

-- the numbers of so many lanes, in order
abbrev pub lanes_up : ℕ → List ℕ
lanes_up zero = []
lanes_up (suc n) = lanes_up n ++ (suc n) ∷ []

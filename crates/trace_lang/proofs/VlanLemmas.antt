-- One more port is written over.
use Rattle.std.proofs.Common.{◌≡◌, ℕ, ◌+◌, ◌<◌, ◌≤◌, zero, suc, List, [], ◌∷◌, ◌++◌, map, length, take, drop, get_or, set, refl, ap, ◌∙◌, arith, append-nil, take_all}
use Rattle.std.specs.List.{refill}
use Rattle.std.proofs.lemmas.List.Edits.{map_over_more}

-- an element does not rest on what is read past the end
same_element : {X : Type 0} (ys : List X) (i : ℕ) (d e : X) → i < length ys → get_or ys i d ≡ get_or ys i e
same_element [] i d e short = absurd (omega arith)
same_element (y ∷ ys) zero d e short = refl
same_element (y ∷ ys) (suc i) d e short = same_element ys i d e (omega arith)

pub written_over : {X : Type 0} (f : X → X) (xs ys : List X) (i : ℕ) (d y : X) → i < length xs → ys ≡ map f (take i xs) ++ drop i xs → length ys ≡ length xs
    → y ≡ f (get_or ys i d) → set ys i y ≡ map f (take (i + 1) xs) ++ drop (i + 1) xs
written_over f xs ys i d y short before long e =
    ap (set ys i) e ∙ map_over_more f xs ys i (get_or ys i d) short before (same_element ys i d (get_or ys i d) (omega arith))

drop-none : {X : Type 0} (n : ℕ) → drop {A = X} n [] ≡ []
drop-none zero = refl
drop-none (suc n) = refl

-- a list that is filled up from one of its own length is that list
pub refilled : {X : Type 0} (xs ws : List X) → length ws ≡ length xs → refill (length xs) xs ws ≡ ws
refilled {X = X} xs ws same =
    ap (λ l. take (length xs) (ws ++ l)) (drop-length xs (length ws) (omega arith)) ∙ ap (take (length xs)) (append-nil ws) ∙ take_all (length xs) ws (omega arith)
  where
    drop-length : (xs : List X) (n : ℕ) → length xs ≤ n → drop n xs ≡ []
    drop-length [] n h = drop-none n
    drop-length (x ∷ xs) zero h = absurd (omega arith)
    drop-length (x ∷ xs) (suc n) h = drop-length xs n (omega arith)

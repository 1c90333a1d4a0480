-- Sums over lists that are alike.
use Rattle.std.proofs.Common.{◌≡◌, ℕ, zero, suc, ◌<◌, List, [], ◌∷◌, length, slice_index_or, refl, arith}
use Rattle.book_lock.specs.Sums.{total}

pub same_total : {A : Type 0} (f : A → ℕ) (xs ys : List A) → length ys ≡ length xs → ((i : ℕ) (d : A) → i < length xs → f (slice_index_or ys i d) ≡ f (slice_index_or xs i d)) → total f ys ≡ total f xs
same_total f [] [] e h = refl
same_total f [] (y ∷ ys) e h = absurd (omega arith)
same_total f (x ∷ xs) [] e h = absurd (omega arith)
same_total f (x ∷ xs) (y ∷ ys) e h =
    let first = h zero x (omega arith) in
    let rest = same_total f xs ys (omega arith) (λ i d l. h (suc i) d (omega arith)) in
    omega arith

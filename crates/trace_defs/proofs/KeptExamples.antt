-- What is kept of a line, by computation with less room: it tests the definition.
use Rattle.std.proofs.Common.{◌≡◌, ℕ, refl, List, [], ◌∷◌, ◌++◌, codes}
use Rattle.trace_defs.proofs.Kept.{kept_in, kept_of}

-- lines, with room for three octets and one that stands for the rest
abbrev kept : List (List ℕ)
kept =
    kept_in 3 [] ∷ kept_in 3 (codes "tic") ∷ kept_in 3 (codes "tick") ∷ kept_in 3 (codes "ticks") ∷ kept_in 3 (codes "tic  s") ∷
    kept_in 3 (codes "tic ") ∷ kept_in 3 (codes "tic   ") ∷
    kept_in 3 (codes "tic" ++ 13 ∷ []) ∷ kept_in 3 (codes "tic " ++ 13 ∷ []) ∷ kept_in 3 (codes "tic  " ++ 13 ∷ 13 ∷ []) ∷ kept_in 3 (codes "tic" ++ 13 ∷ codes " ") ∷ []

abbrev wanted : List (List ℕ)
wanted =
    [] ∷ codes "tic" ∷ codes "tick" ∷ codes "tick" ∷ codes "tics" ∷
    codes "tic " ∷ codes "tic " ∷
    (codes "tic" ++ 13 ∷ []) ∷ (codes "tic" ++ 13 ∷ []) ∷ codes "ticx" ∷ codes "ticx" ∷ []

kept_lines : kept ≡ wanted
unfolding kept_in
kept_lines = refl

-- a line that fits is kept whole
short_line : kept_of (codes "sync") ≡ codes "sync"
unfolding kept_of kept_in
short_line = refl

-- The lines of a text that is read octet by octet.
use Rattle.std.proofs.Common.{◌≡◌, ◌≢◌, ℕ, true, false, cond, eqb, List, [], ◌∷◌, ◌++◌, refl, ap, ◌∙◌, arith}
use Rattle.std.proofs.lemmas.Grind.{common_steps}
use Rattle.wire_defs.specs.Text.{ended_after, open_after, ended_lines, open_line}

pub open_after-append : (part xs ys : List ℕ) → open_after part (xs ++ ys) ≡ open_after (open_after part xs) ys
open_after-append part [] ys = refl
open_after-append part (octet ∷ xs) ys =
    elim (eqb octet 10) as (λ b. cond b (open_after [] (xs ++ ys)) (open_after (part ++ octet ∷ []) (xs ++ ys)) ≡ open_after (cond b (open_after [] xs) (open_after (part ++ octet ∷ []) xs)) ys) [
      | true ↦ open_after-append [] xs ys
      | false ↦ open_after-append (part ++ octet ∷ []) xs ys
    ]

pub ended_after-append : (part xs ys : List ℕ) → ended_after part (xs ++ ys) ≡ ended_after part xs ++ ended_after (open_after part xs) ys
ended_after-append part [] ys = refl
ended_after-append part (octet ∷ xs) ys =
    elim (eqb octet 10) as (λ b. cond b (part ∷ ended_after [] (xs ++ ys)) (ended_after (part ++ octet ∷ []) (xs ++ ys))
    ≡ cond b (part ∷ ended_after [] xs) (ended_after (part ++ octet ∷ []) xs) ++ ended_after (cond b (open_after [] xs) (open_after (part ++ octet ∷ []) xs)) ys) [
      | true ↦ ap (λ lines. part ∷ lines) (ended_after-append [] xs ys)
      | false ↦ ended_after-append (part ++ octet ∷ []) xs ys
    ]

-- a text goes on
pub ended_lines-append : (xs ys : List ℕ) → ended_lines (xs ++ ys) ≡ ended_lines xs ++ ended_after (open_line xs) ys
ended_lines-append xs ys = ended_after-append [] xs ys

pub open_line-append : (xs ys : List ℕ) → open_line (xs ++ ys) ≡ open_after (open_line xs) ys
open_line-append xs ys = open_after-append [] xs ys

-- a line feed ends the open line
pub ended_lines-feed : (xs ys : List ℕ) → ended_lines (xs ++ 10 ∷ ys) ≡ ended_lines xs ++ open_line xs ∷ ended_lines ys
ended_lines-feed xs ys = ended_lines-append xs (10 ∷ ys)

-- another octet joins it
pub ended_lines-other : (xs : List ℕ) (octet : ℕ) → octet ≢ 10 → ended_lines (xs ++ octet ∷ []) ≡ ended_lines xs
ended_lines-other xs octet other = ended_lines-append xs (octet ∷ []) ∙ grind (arith, common_steps)

pub open_line-other : (xs : List ℕ) (octet : ℕ) → octet ≢ 10 → open_line (xs ++ octet ∷ []) ≡ open_line xs ++ octet ∷ []
open_line-other xs octet other = open_line-append xs (octet ∷ []) ∙ grind (arith, common_steps)

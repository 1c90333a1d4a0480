-- A record at its place among the numbered records of a phase.
use Rattle.std.proofs.Common.{◌≡◌, ℕ, zero, suc, ◌+◌, List, [], ◌∷◌, length, slice_get, Some, All, subst, refl, ap, ◌∙◌, arith}
use Rattle.legal_defs.specs.Runs.{with_number, numbered}
use Rattle.event_record.specs.declared.trace_record.TraceRecord.{TraceRecord}
use Rattle.trace_defs.specs.Entered.{entered, entered_all}

pub placed_at : (rs : List TraceRecord) (n i : ℕ) (r : TraceRecord) → slice_get rs i ≡ Some r → slice_get (numbered n (entered_all rs)) i ≡ Some (with_number (n + i) (entered r))
placed_at [] n i r e = absurd cc
placed_at (x ∷ rs) n zero r e =
    let same : x ≡ r = cc in let is : n ≡ n + 0 = omega arith in (λ j. Some (with_number (is j) (entered (same j))))
placed_at (x ∷ rs) n (suc i) r e =
    let is : suc n + i ≡ n + suc i = omega arith in placed_at rs (suc n) i r e ∙ ap (λ m. Some (with_number m (entered r))) is

pub as_many : (n : ℕ) (rs : List TraceRecord) → length (numbered n (entered_all rs)) ≡ length rs
as_many n [] = refl
as_many n (r ∷ rs) = ap suc (as_many (suc n) rs)

pub all_at : {A : Type 0} (P : A → Type 0) (xs : List A) (i : ℕ) (a : A) → All P xs → slice_get xs i ≡ Some a → P a
all_at P [] i a all e = absurd cc
all_at P (x ∷ xs) zero a all e = let same : x ≡ a = cc in subst P same (all zero x (omega arith))
all_at P (x ∷ xs) (suc i) a all e = all_at P xs i a (λ k d l. all (suc k) d (omega arith)) e

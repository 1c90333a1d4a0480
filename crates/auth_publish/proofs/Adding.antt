-- The exchange that adds a change keeps the rule of the history.
use Rattle.std.proofs.Common.{◌≡◌, ℕ, ◌+◌, ◌<◌, ◌==◌, Bool, true, false, List, [], ◌∷◌, ◌++◌, length, refl, ap, sym, subst, arith, inl, length-append, None, MatchBool}
use Rattle.std.proofs.lemmas.List.{append-nil}
use Rattle.std.proofs.lemmas.Bool.Decides.{nat_tests}
use mathlib.Core.List.{IsPrefix}
use prog.Atomic.{either}
use Rattle.logbook.specs.Pages.{Cell, cell, keeps, no_nib, step, Moves, Goes}
use Rattle.table_defs.specs.Table.{Change}
use Rattle.auth_publish.specs.Changes.{is_open, finish_is_last}
use Rattle.auth_publish.specs.History.{IsKept, Adds}
use Rattle.auth_publish.proofs.Lists.{prefix_whole, last_more}

abbrev pub shown : List Change → List Change
shown log = []

abbrev pub moved : List Change → List Change → ℕ → Type 0
moved xs ys n = Unit {0}

pub adds_goes : (log v : List Change) (e : Change) (old : ℕ) → length v ≡ old → is_open v ≡ true → finish_is_last log ≡ true → IsPrefix v log
    → (b : Bool) → (length log == old) ≡ b
    → Goes IsKept shown moved 0 (v, (no_nib, None)) (λ n. either (n == old) (old + 1) n) (Adds (step 0 old (old + 1) e) (v, (no_nib, None))) ((length log, true) ∷ (0, true) ∷ []) log
adds_goes log v e old len unfinished last pre true is =
    let here : length log ≡ old = grind (arith, nat_tests) in
    let same : v ≡ log = prefix_whole v log pre (omega arith) in
    let last' : finish_is_last (log ++ e ∷ []) ≡ true = last_more log e (subst (λ l. is_open l ≡ true) same unfinished) in
    let n : either (length log == old) (old + 1) (length log) ≡ length (log ++ e ∷ []) = rw is (omega (arith, length-append log (e ∷ []))) in (
      keeps,
      e ∷ [],
      None,
      tt,
      record { words = ap (λ (k : ℕ). (k, true) ∷ (0, true) ∷ []) n; last = last' },
      inl (refl, refl),
      rw is (ap (λ w. w ++ e ∷ []) (sym same)),
    )
adds_goes log v e old len unfinished last pre false is =
    let all : log ++ [] ≡ log = append-nil log in
    let last' : finish_is_last (log ++ []) ≡ true = subst (λ l. finish_is_last l ≡ true) (sym all) last in
    let n : either (length log == old) (old + 1) (length log) ≡ length (log ++ []) = rw is (sym (ap length all)) in (
      keeps,
      [],
      None,
      tt,
      record { words = ap (λ (k : ℕ). (k, true) ∷ (0, true) ∷ []) n; last = last' },
      inl (refl, refl),
      rw is tt,
    )

-- whatever the history is, the exchange adds the change to all that was seen, or finds that the history is longer
pub adds_moves : (v : List Change) (e : Change) (old : ℕ) → length v ≡ old → is_open v ≡ true
    → Moves IsKept shown moved 0 (v, (no_nib, None)) (λ n. either (n == old) (old + 1) n) (Adds (step 0 old (old + 1) e) (v, (no_nib, None)))
adds_moves v e old len unfinished cs log kept pre away =
    let P : List Cell → Type 0 = λ c. (0 < length c) × ((cell c 0).1 ≡ true) × Goes IsKept shown moved 0 (v, (no_nib, None)) (λ n. either (n == old) (old + 1) n) (Adds (step 0 old (old + 1) e) (v, (no_nib, None))) c log in
    subst P (sym kept.words) (omega arith, refl, adds_goes log v e old len unfinished kept.last pre (length log == old) refl)

-- where the exchange found the number that it expects, it added the change
pub added : (found old : ℕ) (v w : List Change) (e : Change) → found ≡ old → (b : Bool) → (found == old) ≡ b → MatchBool b (w ≡ v ++ e ∷ []) (Unit {0}) → w ≡ v ++ e ∷ []
added found old v w e same true is h = h
added found old v w e same false is h = absurd (grind (arith, nat_tests))

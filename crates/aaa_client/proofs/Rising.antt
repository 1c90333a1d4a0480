-- Lists in rising order: what stands at the place of a number, and the list with one more and with one less.
use Rattle.std.proofs.Common.{◌≡◌, ℕ, zero, suc, ◌<◌, ◌≤◌, true, false, eqb, not, Bool, cond, List, [], ◌∷◌, length, get_or, Some, None, refl, sym, ap, ◌∙◌, arith, inl, inr}
use Rattle.std.proofs.lemmas.Bool.{cases_lt, eq-eqb, ne_eqb, lt-ltb, le-ltb, ltb-true, ltb-false}
use Rattle.std.specs.Prelude.{nat_lt, find, filter}
use Rattle.std.proofs.lemmas.List.Sorted.{IsPartitionedBy-ltb}
use Rattle.std.specs.List.{AllByRecursion, AllWithin, insert, remove}
use Rattle.std.specs.List.Sorted.{IsPartitionedBy, IsNonDecreasingBy}
use Rattle.aaa_defs.specs.Waits.{RisesBy, placed}
use Rattle.aaa_client.specs.Order.{below}

module _ {X : Type 0} (number : X → ℕ) where
  -- ---- the tests of one element

  found-same : (n : ℕ) (x : X) (rest : List X) → number x ≡ n → find (λ y. eqb (number y) n) (x ∷ rest) ≡ Some x
  found-same n x rest same = rw (eq-eqb (number x) n same) refl

  found-other : (n : ℕ) (x : X) (rest : List X) → (number x ≡ n → ⊥) → find (λ y. eqb (number y) n) (x ∷ rest) ≡ find (λ y. eqb (number y) n) rest
  found-other n x rest other = rw (ne_eqb (number x) n other) refl

  some-none : (x : X) → Some x ≡ None → ⊥
  some-none x e = cc

  -- where nothing is found, no element has the number
  none-first : (n : ℕ) (x : X) (rest : List X) → find (λ y. eqb (number y) n) (x ∷ rest) ≡ None → number x ≡ n → ⊥
  none-first n x rest none same = some-none x (sym (found-same n x rest same) ∙ none)

  none-rest : (n : ℕ) (x : X) (rest : List X) → find (λ y. eqb (number y) n) (x ∷ rest) ≡ None → find (λ y. eqb (number y) n) rest ≡ None
  none-rest n x rest none = sym (found-other n x rest (none-first n x rest none)) ∙ none

  below-less : (n : ℕ) (x : X) (rest : List X) → number x < n → below number n (x ∷ rest) ≡ suc (below number n rest)
  below-less n x rest less = rw (lt-ltb (number x) n less) refl

  below-here : (n : ℕ) (x : X) (rest : List X) → n ≤ number x → below number n (x ∷ rest) ≡ 0
  below-here n x rest least = rw (le-ltb (number x) n least) refl

  -- all that follow are above
  none-above : (n m : ℕ) (xs : List X) → n ≤ m → AllByRecursion (λ y. m < number y) xs → find (λ y. eqb (number y) n) xs ≡ None
  none-above n m [] least above = refl
  none-above n m (x ∷ rest) least above = found-other n x rest (λ same. omega (arith, above.0)) ∙ none-above n m rest least above.1

  pub kept-none : (n : ℕ) (xs : List X) → find (λ y. eqb (number y) n) xs ≡ None → filter (λ y. not (eqb (number y) n)) xs ≡ xs
  kept-none n [] none = refl
  kept-none n (x ∷ rest) none = rw (ne_eqb (number x) n (none-first n x rest none)) (ap (λ (ys : List X). x ∷ ys) (kept-none n rest (none-rest n x rest none)))

  -- ---- the place of a number

  pub found-at : (n : ℕ) (xs : List X) (at : ℕ) (x : X) → at ≡ below number n xs → at < length xs → x ≡ get_or xs at x → number x ≡ n → find (λ y. eqb (number y) n) xs ≡ Some x
  found-at n [] at x place within is same = absurd (omega (arith, within))
  found-at n (y ∷ rest) at x place within is same =
      elim (cases_lt (number y) n) [
        | inl less ↦
            let e : at ≡ suc (below number n rest) = place ∙ below-less n y rest less in
            let there : x ≡ get_or rest (below number n rest) x = is ∙ ap (λ (k : ℕ). get_or (y ∷ rest) k x) e in
            found-other n y rest (λ other. omega arith) ∙ found-at n rest (below number n rest) x refl (omega arith) there same
        | inr least ↦
            let here : x ≡ y = is ∙ ap (λ (k : ℕ). get_or (y ∷ rest) k x) (place ∙ below-here n y rest least) in
            found-same n y rest (ap number (sym here) ∙ same) ∙ ap (λ (z : X). Some z) (sym here)
      ]

  pub other-at : (n : ℕ) (xs : List X) (at : ℕ) (x : X) → RisesBy number xs → at ≡ below number n xs → at < length xs → x ≡ get_or xs at x → (number x ≡ n → ⊥) → find (λ y. eqb (number y) n) xs ≡ None
  other-at n [] at x rises place within is other = absurd (omega (arith, within))
  other-at n (y ∷ rest) at x rises place within is other =
      elim (cases_lt (number y) n) [
        | inl less ↦
            let e : at ≡ suc (below number n rest) = place ∙ below-less n y rest less in
            let there : x ≡ get_or rest (below number n rest) x = is ∙ ap (λ (k : ℕ). get_or (y ∷ rest) k x) e in
            found-other n y rest (λ same. omega arith) ∙ other-at n rest (below number n rest) x rises.1 refl (omega arith) there other
        | inr least ↦
            let here : x ≡ y = is ∙ ap (λ (k : ℕ). get_or (y ∷ rest) k x) (place ∙ below-here n y rest least) in
            found-other n y rest (λ same. other (ap number here ∙ same)) ∙ none-above n (number y) rest least rises.0
      ]

  pub past-at : (n : ℕ) (xs : List X) → length xs ≤ below number n xs → find (λ y. eqb (number y) n) xs ≡ None
  past-at n [] past = refl
  past-at n (y ∷ rest) past =
      elim (cases_lt (number y) n) [
        | inl less ↦
            let e = below-less n y rest less in
            found-other n y rest (λ same. omega arith) ∙ past-at n rest (omega (arith, past, e))
        | inr least ↦ let e = below-here n y rest least in absurd (omega (arith, past, e))
      ]

  -- ---- one more

  pub placed-at : (n : ℕ) (xs : List X) (x : X) → number x ≡ n → find (λ y. eqb (number y) n) xs ≡ None → insert xs (below number n xs) x ≡ placed number x xs
  placed-at n [] x same none = refl
  placed-at n (y ∷ rest) x same none =
      elim (cases_lt (number y) n) [
        | inl less ↦ rw (lt-ltb (number y) n less, le-ltb (number x) (number y) (omega arith)) (ap (λ (ys : List X). y ∷ ys) (placed-at n rest x same (none-rest n y rest none)))
        | inr least ↦
            let other = none-first n y rest none in
            rw (le-ltb (number y) n least, lt-ltb (number x) (number y) (omega (arith, other))) refl
      ]

  pub all-placed : (P : X → Type 0) (x : X) (xs : List X) → P x → AllByRecursion P xs → AllByRecursion P (placed number x xs)
  all-placed P x [] one all = (one, tt)
  all-placed P x (y ∷ rest) one all =
      elim (cases_lt (number x) (number y)) [
        | inl less ↦ rw (lt-ltb (number x) (number y) less) (one, (all.0, all.1))
        | inr least ↦ rw (le-ltb (number x) (number y) least) (all.0, all-placed P x rest one all.1)
      ]

  all-more : (P Q : X → Type 0) → ((x : X) → P x → Q x) → (xs : List X) → AllByRecursion P xs → AllByRecursion Q xs
  all-more P Q more [] all = tt
  all-more P Q more (x ∷ rest) all = (more x all.0, all-more P Q more rest all.1)

  pub rises-placed : (n : ℕ) (xs : List X) (x : X) → number x ≡ n → find (λ y. eqb (number y) n) xs ≡ None → RisesBy number xs → RisesBy number (placed number x xs)
  rises-placed n [] x same none rises = (tt, tt)
  rises-placed n (y ∷ rest) x same none rises =
      elim (cases_lt (number x) (number y)) [
        | inl less ↦ rw (lt-ltb (number x) (number y) less) ((less, all-more (λ z. number y < number z) (λ z. number x < number z) (λ z h. omega arith) rest rises.0), (rises.0, rises.1))
        | inr least ↦
            let other = none-first n y rest none in
            let less : number y < number x = omega (arith, other) in
            rw (le-ltb (number x) (number y) least) (all-placed (λ z. number y < number z) x rest less rises.0, rises-placed n rest x same (none-rest n y rest none) rises.1)
      ]

  -- ---- one less

  pub all-filter : (P : X → Type 0) (p : X → Bool) (xs : List X) → AllByRecursion P xs → AllByRecursion P (filter p xs)
  all-filter P p [] all = tt
  all-filter P p (x ∷ rest) all =
      elim (p x) as (λ b. AllByRecursion P (cond b (x ∷ filter p rest) (filter p rest))) [ true ↦ (all.0, all-filter P p rest all.1) | false ↦ all-filter P p rest all.1 ]

  pub rises-filter : (p : X → Bool) (xs : List X) → RisesBy number xs → RisesBy number (filter p xs)
  rises-filter p [] rises = tt
  rises-filter p (x ∷ rest) rises =
      elim (p x) as (λ b. RisesBy number (cond b (x ∷ filter p rest) (filter p rest))) [
        | true ↦ (all-filter (λ y. number x < number y) p rest rises.0, rises-filter p rest rises.1)
        | false ↦ rises-filter p rest rises.1
      ]

  pub removed-at : (n : ℕ) (xs : List X) (at : ℕ) (x : X) → RisesBy number xs → at ≡ below number n xs → at < length xs → x ≡ get_or xs at x → number x ≡ n
      → remove xs at ≡ filter (λ y. not (eqb (number y) n)) xs
  removed-at n [] at x rises place within is same = absurd (omega (arith, within))
  removed-at n (y ∷ rest) at x rises place within is same =
      elim (cases_lt (number y) n) [
        | inl less ↦
            let e : at ≡ suc (below number n rest) = place ∙ below-less n y rest less in
            let there : x ≡ get_or rest (below number n rest) x = is ∙ ap (λ (k : ℕ). get_or (y ∷ rest) k x) e in
            rw (e, ne_eqb (number y) n (λ other. omega arith)) (ap (λ (ys : List X). y ∷ ys) (removed-at n rest (below number n rest) x rises.1 refl (omega arith) there same))
        | inr least ↦
            let e : at ≡ 0 = place ∙ below-here n y rest least in
            let here : x ≡ y = is ∙ ap (λ (k : ℕ). get_or (y ∷ rest) k x) e in
            rw (e, eq-eqb (number y) n (ap number (sym here) ∙ same)) (sym (kept-none n rest (none-above n (number y) rest least rises.0)))
      ]

  -- ---- the place that a binary search finds

  pub all-at : (P : X → Type 0) (xs : List X) → AllByRecursion P xs → (k : ℕ) (d : X) → k < length xs → P (get_or xs k d)
  all-at P [] all k d within = absurd (omega (arith, within))
  all-at P (x ∷ rest) all zero d within = all.0
  all-at P (x ∷ rest) all (suc k) d within = all-at P rest all.1 k d (omega (arith, within))

  rises-by : (xs : List X) → RisesBy number xs → IsNonDecreasingBy number xs
  rises-by [] rises i j d le within = absurd (omega (arith, within))
  rises-by (x ∷ rest) rises zero zero d le within = omega arith
  rises-by (x ∷ rest) rises zero (suc j) d le within = omega (arith, all-at (λ y. number x < number y) rest rises.0 j d (omega (arith, within)))
  rises-by (x ∷ rest) rises (suc i) zero d le within = absurd (omega (arith, le))
  rises-by (x ∷ rest) rises (suc i) (suc j) d le within = rises-by rest rises.1 i j d (omega (arith, le)) (omega (arith, within))

  pub rises-parted : (n : ℕ) (xs : List X) → RisesBy number xs → IsPartitionedBy (λ y. nat_lt (number y) n) xs
  rises-parted n xs rises = IsPartitionedBy-ltb number xs n (rises-by xs rises)

  pub place-is : (n : ℕ) (xs : List X) (at : ℕ) → at ≤ length xs → AllWithin (λ y. nat_lt (number y) n ≡ true) xs 0 at → AllWithin (λ y. nat_lt (number y) n ≡ false) xs at (length xs) → at ≡ below number n xs
  place-is n [] at within low high = omega (arith, within)
  place-is n (y ∷ rest) zero within low high = sym (below-here n y rest (omega (arith, ltb-false (number y) n (high 0 y (omega arith) (omega arith)))))
  place-is n (y ∷ rest) (suc at) within low high =
      let less : number y < n = ltb-true (number y) n (low 0 y (omega arith) (omega arith)) in
      ap suc (place-is n rest at (omega arith) (λ k d least most. low (suc k) d (omega arith) (omega arith)) (λ k d least most. high (suc k) d (omega arith) (omega arith)))
      ∙ sym (below-less n y rest less)

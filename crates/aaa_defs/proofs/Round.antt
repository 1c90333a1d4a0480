-- While fewer requests wait than there are names, one of the round is free.
use Rattle.std.proofs.Common.{◌≡◌, ℕ, zero, suc, ◌+◌, ◌-◌, ◌%◌, ◌≤◌, ◌<◌, Bool, true, false, eqb, not, List, [], ◌∷◌, length, map, Option, Some, None, refl, sym, ap, ◌∙◌, arith, inl, inr}
use Rattle.std.specs.Prelude.{find, filter, is_some}
use Rattle.std.specs.List.{range_with_len}
use Rattle.std.specs.Option.{unwrap_or}
use Rattle.std.proofs.lemmas.Bool.{cases_Bool, cases_eq, eq-eqb, ne_eqb}
use Rattle.aaa_defs.specs.Waits.{Pending, Waits, pending_under, is_free, round_from, after_last, next_name}

-- ---- as many as there are numbers that are found

module _ {X : Type 0} (number : X → ℕ) where
  pub find-kept : (j m : ℕ) (xs : List X) → (j ≡ m → ⊥) → find (λ x. eqb (number x) j) (filter (λ x. not (eqb (number x) m)) xs) ≡ find (λ x. eqb (number x) j) xs
  find-kept j m [] other = refl
  find-kept j m (x ∷ rest) other =
      elim (cases_eq (number x) m) [
        | inl here ↦ rw (eq-eqb (number x) m here, ne_eqb (number x) j (λ same. other (sym same ∙ here))) (find-kept j m rest other)
        | inr there ↦ rw (ne_eqb (number x) m there) (elim (cases_eq (number x) j) [
          | inl same ↦ rw (eq-eqb (number x) j same) refl
          | inr differ ↦ rw (ne_eqb (number x) j differ) (find-kept j m rest other)
        ])
      ]

  pub filter-fewer : (m : ℕ) (xs : List X) → length (filter (λ x. not (eqb (number x) m)) xs) ≤ length xs
  filter-fewer m [] = omega arith
  filter-fewer m (x ∷ rest) =
      elim (cases_eq (number x) m) [
        | inl here ↦ rw (eq-eqb (number x) m here) (omega (arith, filter-fewer m rest))
        | inr there ↦ rw (ne_eqb (number x) m there) (omega (arith, filter-fewer m rest))
      ]

  pub filter-less : (m : ℕ) (xs : List X) → is_some (find (λ x. eqb (number x) m) xs) ≡ true → length (filter (λ x. not (eqb (number x) m)) xs) < length xs
  filter-less m [] found = cc
  filter-less m (x ∷ rest) found =
      elim (cases_eq (number x) m) [
        | inl here ↦ rw (eq-eqb (number x) m here) (omega (arith, filter-fewer m rest))
        | inr there ↦
            let below : is_some (find (λ y. eqb (number y) m) rest) ≡ true = sym (rw (ne_eqb (number x) m there) refl) ∙ found in
            rw (ne_eqb (number x) m there) (omega (arith, filter-less m rest below))
      ]

  pub as_many : (n : ℕ) (xs : List X) → ((j : ℕ) → j < n → is_some (find (λ x. eqb (number x) j) xs) ≡ true) → n ≤ length xs
  as_many zero xs all = omega arith
  as_many (suc m) xs all =
      let left : List X = filter (λ x. not (eqb (number x) m)) xs in
      let others : (j : ℕ) → j < m → is_some (find (λ x. eqb (number x) j) left) ≡ true =
      λ j below. ap is_some (find-kept j m xs (λ same. omega (arith, below, same))) ∙ all j (omega (arith, below)) in
      omega (arith, as_many m left others, filter-less m xs (all m (omega arith)))

-- ---- the round

-- one step of the round
pub round-more : (p : ℕ → Bool) (f : ℕ → ℕ) (k n : ℕ) → k < n → p (f k) ≡ false → find p (map f (range_with_len k (n - k))) ≡ find p (map f (range_with_len (k + 1) (n - (k + 1))))
round-more p f k n less miss =
    let e : n - k ≡ suc (n - (k + 1)) = omega (arith, less) in
    rw (e, miss) refl

pub round-found : (p : ℕ → Bool) (f : ℕ → ℕ) (k n : ℕ) → k < n → p (f k) ≡ true → find p (map f (range_with_len k (n - k))) ≡ Some (f k)
round-found p f k n less hit =
    let e : n - k ≡ suc (n - (k + 1)) = omega (arith, less) in
    rw (e, hit) refl

some-none : (x : ℕ) → Some x ≡ None → ⊥
some-none x e = cc

none-at : (p : ℕ → Bool) (f : ℕ → ℕ) (s n : ℕ) → find p (map f (range_with_len s n)) ≡ None → (k : ℕ) → s ≤ k → k < s + n → p (f k) ≡ false
none-at p f s zero none k least most = absurd (omega (arith, least, most))
none-at p f s (suc n) none k least most =
    elim (cases_Bool (p (f s))) [
      | inl hit ↦ absurd (some-none (f s) (sym (rw hit refl) ∙ none))
      | inr miss ↦ elim (cases_eq k s) [
        | inl here ↦ ap (λ (i : ℕ). p (f i)) here ∙ miss
        | inr later ↦ none-at p f (s + 1) n (sym (rw miss refl) ∙ none) k (omega (arith, least, later)) (omega (arith, most))
      ]
    ]

used : (b : Bool) → not b ≡ false → b ≡ true
used true e = refl
used false e = cc

pub some-free : (w : Waits) (first : ℕ) → first < 1024 → length w.requests < 1024 → find (is_free w) (round_from first) ≡ None → ⊥
some-free w first small few none =
    let all : (j : ℕ) → j < 1024 → is_some (find (λ p. eqb p.name j) w.requests) ≡ true =
    λ j below.
    let k : ℕ = (j + 1024 - first) % 1024 in
    let there : (first + k) % 1024 ≡ j = omega (arith, small, below) in
    let free : is_free w ((first + k) % 1024) ≡ false = none-at (is_free w) (λ step. (first + step) % 1024) 0 1024 none k (omega arith) (omega arith) in
    used (is_some (pending_under j w)) (ap (is_free w) (sym there) ∙ free)
    in
    let many = as_many (λ (p : Pending). p.name) 1024 w.requests all in
    omega (arith, many, few)

pub next-is : (w : Waits) (id : ℕ) → find (is_free w) (round_from (after_last w.last)) ≡ Some id → id ≡ next_name w
unfolding next_name
next-is w id found = sym (ap (λ (o : Option ℕ). unwrap_or o 0) found)

pub after-small : (last : Option ℕ) → after_last last < 1024
after-small None = omega arith
after-small (Some last) = omega arith

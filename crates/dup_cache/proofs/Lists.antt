-- The last entries of a list, and its first ones.
use Rattle.std.proofs.Common.{◌≡◌, ℕ, zero, suc, ◌+◌, ◌-◌, ◌≤◌, min, List, [], ◌∷◌, ◌++◌, length, take, drop, refl, sym, ◌∙◌, ap, Some, arith, length-append, length-drop}
use Rattle.std.specs.Prelude.{slice_get}
use Rattle.std.proofs.lemmas.List.{drop-append-le, drop-drop}
use Rattle.circular_buffer.specs.Buffer.{keep_last}

module _ {X : Type 0} where
  -- a list that is no longer than n is its last n
  pub keep_few : (n : ℕ) (xs : List X) → length xs ≤ n → keep_last n xs ≡ xs
  keep_few n xs h = let e : length xs - n ≡ 0 = omega (arith, h) in rw e refl

  -- one more at the end of a ring that is full, of which the last len are in use
  pub kept_more : (ring new : List X) (len m : ℕ) (x : X) → length ring ≡ 64 → len ≤ 64 → m ≡ min (len + 1) 64 →
      new ≡ keep_last 64 (drop 1 ring ++ x ∷ []) → keep_last m new ≡ keep_last 64 (keep_last len ring ++ x ∷ [])
  kept_more ring new len m x full few count is =
      let one_less : length (drop 1 ring) ≡ 63 = rw (length-drop 1 ring) (omega (arith, full)) in
      let same : new ≡ drop 1 ring ++ x ∷ [] = is ∙ keep_few 64 (drop 1 ring ++ x ∷ []) (rw (length-append (drop 1 ring) (x ∷ [])) (omega (arith, one_less))) in
      let new_length : length new ≡ 64 = rw (same, length-append (drop 1 ring) (x ∷ [])) (omega (arith, one_less)) in
      let used : length (keep_last len ring) ≡ len = rw (length-drop (length ring - len) ring) (omega (arith, full, few)) in
      let used_more : length (keep_last len ring ++ x ∷ []) ≡ len + 1 = rw (length-append (keep_last len ring) (x ∷ [])) (omega (arith, used)) in
      let left : keep_last m new ≡ drop (1 + (64 - m)) ring ++ x ∷ [] =
      rw (new_length, same, drop-append-le (64 - m) (drop 1 ring) (x ∷ []) (omega (arith, one_less, few, count)), drop-drop (64 - m) 1 ring) refl in
      let right : keep_last 64 (keep_last len ring ++ x ∷ []) ≡ drop ((64 - len) + (len + 1 - 64)) ring ++ x ∷ [] =
      rw (used_more, drop-append-le (len + 1 - 64) (keep_last len ring) (x ∷ []) (omega (arith, used, few)), full, drop-drop (len + 1 - 64) (64 - len) ring) refl in
      let places : 1 + (64 - m) ≡ (64 - len) + (len + 1 - 64) = omega (arith, few, count) in
      left ∙ ap (λ n. drop n ring ++ x ∷ []) places ∙ sym right

  -- a value that stands at a place is the first of what is left from there on
  pub drop_at : (xs : List X) (n : ℕ) (x : X) → slice_get xs n ≡ Some x → drop n xs ≡ x ∷ drop (suc n) xs
  drop_at [] n x h = cc
  drop_at (y ∷ xs) zero x h = let same : y ≡ x = cc in ap (λ z. z ∷ xs) same
  drop_at (y ∷ xs) (suc n) x h = drop_at xs n x h

  -- and the last of what stands up to it
  pub take_more : (xs : List X) (n : ℕ) (x : X) → slice_get xs n ≡ Some x → take n xs ++ x ∷ [] ≡ take (n + 1) xs
  take_more [] n x h = cc
  take_more (y ∷ xs) zero x h = let same : y ≡ x = cc in ap (λ z. z ∷ []) (sym same)
  take_more (y ∷ xs) (suc n) x h = let e : suc n + 1 ≡ suc (n + 1) = omega arith in rw e (ap (λ r. y ∷ r) (take_more xs n x h))

-- The newest entry that answers, looked for from the end of a list.
use Rattle.std.proofs.Common.{◌≡◌, ℕ, true, false, zero, suc, ◌+◌, ◌-◌, List, [], ◌∷◌, length, drop, refl, subst, Some, None, arith}
use Rattle.std.specs.Prelude.{slice_get}
use Rattle.kept_defs.specs.Kept.{Entry, is_repeat, newest_reply}
use Rattle.dup_cache.proofs.Lists.{drop_at}

module _ (sport : ℕ) (request : List ℕ) (now : ℕ) where
  -- older entries do not change an answer
  with_older : (n : ℕ) (xs : List Entry) (reply : List ℕ) → newest_reply sport request now (drop n xs) ≡ Some reply → newest_reply sport request now xs ≡ Some reply
  with_older zero xs reply h = h
  with_older (suc n) [] reply h = h
  with_older (suc n) (x ∷ xs) reply h = rw (with_older n xs reply h) refl

  -- the entry before the n newest, which are no answer, is none either
  pub passed : (xs : List Entry) (n at : ℕ) (e : Entry) → at + (n + 1) ≡ length xs → slice_get xs at ≡ Some e → is_repeat sport request now e ≡ false →
      newest_reply sport request now (drop (length xs - n) xs) ≡ None → newest_reply sport request now (drop (length xs - (n + 1)) xs) ≡ None
  passed xs n at e place there other none =
      let from : length xs - (n + 1) ≡ at = omega (arith, place) in
      let next : length xs - n ≡ suc at = omega (arith, place) in
      let before : newest_reply sport request now (drop (suc at) xs) ≡ None = subst (λ k. newest_reply sport request now (drop k xs) ≡ None) next none in
      rw (from, drop_at xs at e there, before, other) refl

  -- the entry before them is the answer
  pub answered : (xs : List Entry) (n at : ℕ) (e : Entry) → at + (n + 1) ≡ length xs → slice_get xs at ≡ Some e → is_repeat sport request now e ≡ true →
      newest_reply sport request now (drop (length xs - n) xs) ≡ None → newest_reply sport request now xs ≡ Some e.reply
  answered xs n at e place there same none =
      let next : length xs - n ≡ suc at = omega (arith, place) in
      let before : newest_reply sport request now (drop (suc at) xs) ≡ None = subst (λ k. newest_reply sport request now (drop k xs) ≡ None) next none in
      with_older at xs e.reply (rw (drop_at xs at e there, before, same) refl)

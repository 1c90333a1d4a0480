-- Entries in the order of their places.
use Rattle.std.proofs.Common.{◌≡◌, ◌≢◌, ℕ, zero, suc, ◌+◌, ◌<◌, ◌≤◌, nat_le, Bool, true, false, if◌then◌else◌, List, [], ◌∷◌, ◌++◌, map, length, drop, Some, slice_get, refl, ap, sym, ◌∙◌, subst, arith}
use Rattle.std.proofs.lemmas.Option.{slice_get_within}
use Rattle.std.proofs.lemmas.Bool.Decides.{nat_tests}
use mathlib.Core.Logic.{dite}
use native.Mathlib.Decide.{ℕ_discrete}
use Rattle.event_record.specs.Entry.{Entry}
use Rattle.book_lock.specs.declared.law.Made.{Made}
use Rattle.book_lock.specs.Sums.{Each}
use Rattle.book_lock.specs.Places.{once_below, one_at, times_at, Stands, RisesFrom, Rises, placed, merged, in_order, entry_made}

-- ---- how many have a place

pub times_placed : (p : ℕ) (m : Made) (ns : List Made) → times_at p (placed m ns) ≡ one_at m.place p + times_at p ns
times_placed p m [] = refl
times_placed p m (n ∷ ns) = by_test (nat_le m.place n.place) (times_placed p m ns)
  where
    by_test : (b : Bool) → times_at p (placed m ns) ≡ one_at m.place p + times_at p ns → times_at p (if b then m ∷ (n ∷ ns) else n ∷ placed m ns) ≡ one_at m.place p + (one_at n.place p + times_at p ns)
    by_test true h = refl
    by_test false h = omega arith

pub times_merged : (p : ℕ) (ms ns : List Made) → times_at p (merged ms ns) ≡ times_at p ms + times_at p ns
times_merged p [] ns = omega arith
times_merged p (m ∷ ms) ns = let h = times_merged p ms ns in let i = times_placed p m (merged ms ns) in omega arith

-- ---- what holds of each

pub each_placed : (P : Made → Type 0) (m : Made) (ns : List Made) → P m → Each P ns → Each P (placed m ns)
each_placed P m [] here there = (here, tt)
each_placed P m (n ∷ ns) here there = by_test (nat_le m.place n.place) (each_placed P m ns here there.1)
  where
    by_test : (b : Bool) → Each P (placed m ns) → Each P (if b then m ∷ (n ∷ ns) else n ∷ placed m ns)
    by_test true h = (here, there)
    by_test false h = (there.0, h)

pub each_merged : (P : Made → Type 0) (ms ns : List Made) → Each P ms → Each P ns → Each P (merged ms ns)
each_merged P [] ns e h = h
each_merged P (m ∷ ms) ns e h = each_placed P m (merged ms ns) e.0 (each_merged P ms ns e.1 h)

pub placed_each : (P : Made → Type 0) (m : Made) (ns : List Made) → Each P (placed m ns) → P m × Each P ns
placed_each P m [] e = e
placed_each P m (n ∷ ns) e = by_test (nat_le m.place n.place) (placed_each P m ns) e
  where
    by_test : (b : Bool) → (Each P (placed m ns) → P m × Each P ns) → Each P (if b then m ∷ (n ∷ ns) else n ∷ placed m ns) → P m × Each P (n ∷ ns)
    by_test true h e = e
    by_test false h e = let r = h e.1 in (r.0, (e.0, r.1))

pub merged_each : (P : Made → Type 0) (ms ns : List Made) → Each P (merged ms ns) → Each P ms × Each P ns
merged_each P [] ns e = (tt, e)
merged_each P (m ∷ ms) ns e =
    let here = placed_each P m (merged ms ns) e in
    let rest = merged_each P ms ns here.1 in ((here.0, rest.0), rest.1)

-- ---- places that rise

pub rises_none : (k p : ℕ) (ms : List Made) → RisesFrom k ms → p < k → times_at p ms ≡ 0
rises_none k p [] r below = refl
rises_none k p (m ∷ ms) r below =
    let rest = rises_none (suc m.place) p ms r.1 (let a = r.0 in omega arith) in
    let other : one_at m.place p ≡ 0 = (let a = r.0 in grind (arith, nat_tests)) in omega arith

pub rises_last : (k n : ℕ) (ms : List Made) (m : Made) → RisesFrom k ms → Each (λ d. d.place < n) ms → k ≤ n → m.place ≡ n → RisesFrom k (ms ++ m ∷ [])
rises_last k n [] m r below le is = (omega arith, tt)
rises_last k n (d ∷ ds) m r below le is = (r.0, rises_last (suc d.place) n ds m r.1 below.1 (let a = below.0 in omega arith) is)

rises_placed : (k : ℕ) (m : Made) (ns : List Made) → RisesFrom k ns → k ≤ m.place → times_at m.place ns ≡ 0 → RisesFrom k (placed m ns)
rises_placed k m [] r le none = (le, tt)
rises_placed k m (n ∷ ns) r le none =
    by_test (nat_le m.place n.place) refl (λ below. rises_placed (suc n.place) m ns r.1 below (omega arith))
  where
    by_test : (b : Bool) → nat_le m.place n.place ≡ b → (suc n.place ≤ m.place → RisesFrom (suc n.place) (placed m ns)) → RisesFrom k (if b then m ∷ (n ∷ ns) else n ∷ placed m ns)
    by_test true is h = (le, ((let a : one_at n.place m.place ≡ 0 = omega arith in grind (arith, nat_tests)), r.1))
    by_test false is h = (r.0, h (grind (arith, nat_tests)))

-- of two lists that have no place in common
pub rises_merged : (ms ns : List Made) → Rises ns → ((p : ℕ) → times_at p ms + times_at p ns ≤ 1) → Rises (merged ms ns)
rises_merged [] ns r apart = r
rises_merged (m ∷ ms) ns r apart =
    let rest = rises_merged ms ns r (λ p. let a = apart p in omega arith) in
    let others : times_at m.place (merged ms ns) ≡ 0 =
    (let a = apart m.place in let t = times_merged m.place ms ns in let one : one_at m.place m.place ≡ 1 = grind (arith, nat_tests) in omega arith) in
    rises_placed 0 m (merged ms ns) rest (omega arith) others

-- ---- all places of a list

drop_past : {A : Type 0} (k : ℕ) (xs : List A) → length xs ≤ k → drop k xs ≡ []
drop_past zero [] le = refl
drop_past zero (x ∷ xs) le = absurd (omega arith)
drop_past (suc k) [] le = refl
drop_past (suc k) (x ∷ xs) le = drop_past k xs (omega arith)

drop_get : {A : Type 0} (k : ℕ) (xs : List A) (a : A) → slice_get xs k ≡ Some a → drop k xs ≡ a ∷ drop (suc k) xs
drop_get zero [] a e = absurd cc
drop_get zero (x ∷ xs) a e = let same : x ≡ a = cc in ap (λ z. z ∷ xs) same
drop_get (suc k) [] a e = absurd cc
drop_get (suc k) (x ∷ xs) a e = drop_get k xs a e

-- entries whose places are all from k on, each once and in order, are what the list has from there on
by_place : (log : List Entry) (k : ℕ) (ms : List Made) → RisesFrom k ms → Each (Stands log) ms
    → ((p : ℕ) → k ≤ p → times_at p ms ≡ once_below p (length log)) → map entry_made ms ≡ drop k log
by_place log k [] r stand once =
    let none = once k (omega arith) in
    let le : length log ≤ k = grind (arith, nat_tests) in sym (drop_past k log le)
by_place log k (m ∷ ms) r stand once =
    let inside = slice_get_within log m.place m.entry stand.0.0 in
    let here : m.place ≡ k = dite (ℕ_discrete m.place k) (λ (is : m.place ≡ k). is)
    (λ (ne : m.place ≢ k).
    let above = r.0 in
    let rest = rises_none (suc m.place) k ms r.1 (omega arith) in
    let other : one_at m.place k ≡ 0 = grind (arith, nat_tests) in
    let one = once k (omega arith) in
    let there : once_below k (length log) ≡ 1 = grind (arith, nat_tests) in absurd (omega arith)) in
    let rises : RisesFrom (suc k) ms = subst (λ n. RisesFrom (suc n) ms) here r.1 in
    let later : (p : ℕ) → suc k ≤ p → times_at p ms ≡ once_below p (length log) = λ p le.
    (let one = once p (omega arith) in let other : one_at m.place p ≡ 0 = grind (arith, nat_tests) in omega arith) in
    let next = by_place log (suc k) ms rises stand.1 later in
    let get : slice_get log k ≡ Some m.entry = ap (slice_get log) (sym here) ∙ stand.0.0 in
    ap (λ es. m.entry ∷ es) next ∙ sym (drop_get k log m.entry get)

-- entries whose places are all below the length of the list, each once, are in order just that list
pub in_order_is : (log : List Entry) (ms : List Made) → Each (Stands log) ms → ((p : ℕ) → times_at p ms ≡ once_below p (length log)) → map entry_made (in_order ms) ≡ log
in_order_is log ms stand once =
    let times : (p : ℕ) → times_at p (in_order ms) ≡ once_below p (length log) = λ p. (let t = times_merged p ms [] in let o = once p in omega arith) in
    let few : (p : ℕ) → times_at p ms + 0 ≤ 1 = λ p. (let o = once p in grind (arith, nat_tests)) in
    by_place log 0 (in_order ms) (rises_merged ms [] tt few) (each_merged (Stands log) ms [] stand tt) (λ p le. times p)

-- A walk over the sessions, and what it has found of those that are named.
use Rattle.std.proofs.Common.{◌≡◌, ℕ, zero, suc, ◌+◌, Bool, true, false, List, [], ◌∷◌, drop, Option, Some, None, refl, sym, ap, ◌∙◌, arith, add-one}
use Rattle.std.specs.Prelude.{slice_get, is_some, ◌≤◌, length, filter}
use Rattle.std.proofs.lemmas.List.{drop_all}
use Rattle.dynauth_defs.specs.Session.{Row}
use Rattle.dynauth_server.specs.Found.{found, first_of_them}
use Rattle.dynauth_server.specs.declared.session.Found.{Found}

-- what there is where one was found, or none, and these are named by what is left
abbrev pub after : Option Found → List Row → Option Found × Bool
after None named = first_of_them named
after (Some one) [] = (Some one, false)
after (Some one) (y ∷ ys) = (Some one, true)

-- a session that stands at a place is the first of what is left from there on
at_place : (rows : List Row) (n : ℕ) (y : Row) → slice_get rows n ≡ Some y → drop n rows ≡ y ∷ drop (suc n) rows
at_place [] n y there = cc
at_place (x ∷ rows) zero y there = let same : x ≡ y = cc in ap (λ (z : Row). z ∷ rows) same
at_place (x ∷ rows) (suc n) y there = at_place rows n y there

pub none_left : (rows : List Row) (n : ℕ) → slice_get rows n ≡ None → drop n rows ≡ []
none_left [] zero none = refl
none_left [] (suc n) none = refl
none_left (x ∷ rows) zero none = cc
none_left (x ∷ rows) (suc n) none = none_left rows n none

pub none_more : (rows : List Row) (n : ℕ) → slice_get rows n ≡ None → drop (n + 1) rows ≡ []
none_more [] n none = let e : n + 1 ≡ suc n = add-one n in ap (λ (k : ℕ). drop k []) e
none_more (x ∷ rows) zero none = cc
none_more (x ∷ rows) (suc n) none = let e : suc n + 1 ≡ suc (n + 1) = omega arith in ap (λ (k : ℕ). drop k (x ∷ rows)) e ∙ none_more rows n none

pub passed : (test : Row → Bool) (rows : List Row) (n : ℕ) (y : Row) → slice_get rows n ≡ Some y → test y ≡ false
    → filter test (drop n rows) ≡ filter test (drop (n + 1) rows)
passed test rows n y there other = rw (at_place rows n y there, other, add-one n) refl

pub taken : (test : Row → Bool) (rows : List Row) (n : ℕ) (y : Row) → slice_get rows n ≡ Some y → test y ≡ true
    → filter test (drop n rows) ≡ y ∷ filter test (drop (n + 1) rows)
taken test rows n y there same = rw (at_place rows n y there, same, add-one n) refl

several : (one : Option Found) (y : Row) (named : List Row) → is_some one ≡ true → after one (y ∷ named) ≡ (one, true)
several None y named some = cc
several (Some one) y named some = refl

-- a second one is another
pub found_again : (test : Row → Bool) (rows : List Row) (n : ℕ) (y : Row) (one : Option Found) → slice_get rows n ≡ Some y → test y ≡ true → is_some one ≡ true
    → after one (filter test (drop n rows)) ≡ first_of_them (filter test rows) → (one, true) ≡ first_of_them (filter test rows)
found_again test rows n y one there same some so_far =
    sym (ap (after one) (taken test rows n y there same) ∙ several one y (filter test (drop (n + 1) rows)) some) ∙ so_far

first : (one : Option Found) (y : Row) (named : List Row) → is_some one ≡ false → after (Some (found y)) named ≡ after one (y ∷ named)
first (Some one) y named none = cc
first None y [] none = refl
first None y (z ∷ named) none = refl

-- the first one is kept in mind
pub found_first : (test : Row → Bool) (rows : List Row) (n : ℕ) (y : Row) (one : Option Found) → slice_get rows n ≡ Some y → test y ≡ true → is_some one ≡ false
    → after (Some (found y)) (filter test (drop (n + 1) rows)) ≡ after one (filter test (drop n rows))
found_first test rows n y one there same none =
    first one y (filter test (drop (n + 1) rows)) none ∙ sym (ap (after one) (taken test rows n y there same))

pub at_end : (test : Row → Bool) (rows : List Row) (n : ℕ) (one : Option Found) → length rows ≤ n → after one (filter test (drop n rows)) ≡ (one, false)
at_end test rows n one past = ap (λ (left : List Row). after one (filter test left)) (drop_all n rows past) ∙ alone one
  where
    alone : (one : Option Found) → after one [] ≡ (one, false)
    alone None = refl
    alone (Some one) = refl

-- where a first one is named, and no other, it is the one that is named
pub one-named : (named : List Row) (first : Option Found) (others : Bool) (one : Found) → (first, others) ≡ first_of_them named → first ≡ Some one → others ≡ false
    → (y : Row) × (named ≡ y ∷ []) × (one ≡ found y)
one-named [] first others one is some alone =
    let none : first ≡ None = ap (λ (f : Option Found × Bool). f.0) is in
    cc
one-named (y ∷ []) first others one is some alone =
    let here : first ≡ Some (found y) = ap (λ (f : Option Found × Bool). f.0) is in
    (y, refl, cc)
one-named (y ∷ z ∷ named) first others one is some alone =
    let more : others ≡ true = ap (λ (f : Option Found × Bool). f.1) is in
    cc

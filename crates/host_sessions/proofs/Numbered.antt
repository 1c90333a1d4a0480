-- The session with a number, by its place in the order.
use Rattle.std.proofs.Common.{◌≡◌, ℕ, zero, suc, ◌<◌, refl, sym, ap, ◌∙◌, List, [], ◌∷◌, length, Option, Some, None, Bool, true, false, cond, arith}
use Rattle.std.specs.Prelude.{◌==◌, find, slice_get}
use Rattle.std.specs.Option.{option_map}
use Rattle.std.proofs.lemmas.Option.{same_Some, slice_get-map}
use Rattle.session_table.specs.Slots.{Entry, IsTable, held_at, places_of, value_at}
use Rattle.session_table.proofs.Tables.{each_at_place, of_nth}
use Rattle.host_session.specs.declared.session.Session.{Session}
use Rattle.host_sessions.specs.Finds.{place_if, place_of}

abbrev pub has_number : ℕ → Entry Session → Bool
has_number number e = e.value.number == number

pub first_numbered : (number : ℕ) (es : List (Entry Session)) (n at : ℕ) →
    ((k : ℕ) → k < n → place_if number k es ≡ None) → place_if number n es ≡ Some at →
    option_map (λ (e : Entry Session). e.place) (find (has_number number) es) ≡ Some at
first_numbered number [] n at before is = absurd (none is)
  where
    none : None ≡ Some at → ⊥
    none k = cc
first_numbered number (e ∷ es) zero at before is = by (e.value.number == number) is
  where
    by : (b : Bool) → cond b (Some e.place) None ≡ Some at →
        option_map (λ (f : Entry Session). f.place) (cond b (Some e) (find (has_number number) es))
        ≡ Some at
    by true found = found
    by false found = cc
first_numbered number (e ∷ es) (suc n) at before is =
    by (e.value.number == number) (before 0 (omega arith))
    (first_numbered number es n at (λ k less. before (suc k) (omega arith)) is)
  where
    by : (b : Bool) → cond b (Some e.place) None ≡ None →
        option_map (λ (f : Entry Session). f.place) (find (has_number number) es) ≡ Some at →
        option_map (λ (f : Entry Session). f.place) (cond b (Some e) (find (has_number number) es))
        ≡ Some at
    by true none rest = cc
    by false none rest = rest

pub none_numbered : (number : ℕ) (es : List (Entry Session)) →
    ((k : ℕ) → k < length es → place_if number k es ≡ None) → find (has_number number) es ≡ None
none_numbered number [] before = refl
none_numbered number (e ∷ es) before =
    by (e.value.number == number) (before 0 (omega arith))
    (none_numbered number es (λ k less. before (suc k) (omega arith)))
  where
    by : (b : Bool) → cond b (Some e.place) None ≡ None → find (has_number number) es ≡ None →
        cond b (Some e) (find (has_number number) es) ≡ None
    by true none rest = cc
    by false none rest = rest

-- the n-th entry, by its place
pub record IsNth (es : List (Entry Session)) (n at : ℕ) (e : Entry Session) : Type 0 where
  pub nth : slice_get es n ≡ Some e
  pub place : e.place ≡ at
  pub value : value_at at es ≡ Some e.value

pub nth_is : (es : List (Entry Session)) (n at : ℕ) → IsTable es → Some at ≡ slice_get (places_of es) n →
    (e : Entry Session) × IsNth es n at e
nth_is es n at table is =
    by (slice_get es n) refl (is ∙ slice_get-map (λ (e : Entry Session). e.place) es n)
  where
    by : (o : Option (Entry Session)) → slice_get es n ≡ o →
        Some at ≡ option_map (λ (e : Entry Session). e.place) o → (e : Entry Session) × IsNth es n at e
    by None k found = cc
    by (Some e) k found =
        let place : e.place ≡ at = sym (same_Some at e.place found) in
        let held : held_at at es ≡ Some e = ap (λ q. held_at q es) (sym place)
        ∙ of_nth (λ (f : Entry Session). held_at f.place es ≡ Some f) es n e (each_at_place es table) k in
        (e, record { nth = k; place = place; value = ap (option_map (λ (f : Entry Session). f.value)) held })

pub place_if_is : (number : ℕ) (es : List (Entry Session)) (n at : ℕ) (e : Entry Session) →
    IsNth es n at e → (v : Session) → Some v ≡ value_at at es → (b : Bool) → v.number == number ≡ b →
    place_if number n es ≡ cond b (Some at) None
place_if_is number es n at e is v here b test =
    ap (place_of number) is.nth ∙ by b (ap (λ (w : Session). w.number == number)
    (sym (same_Some v e.value (here ∙ is.value))) ∙ test)
  where
    by : (b : Bool) → e.value.number == number ≡ b → place_of number (Some e) ≡ cond b (Some at) None
    by true t = rw t (ap Some is.place)
    by false t = rw t refl

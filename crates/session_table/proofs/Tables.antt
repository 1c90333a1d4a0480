-- Every table: an entry is one by its place and one by its host; and what is left of a table, or
-- renewed in it.
use Rattle.std.proofs.Common.{◌≡◌, ◌≢◌, ℕ, zero, suc, refl, sym, ap, subst, ◌∙◌, List, [], ◌∷◌, map, filter, Some, None, Option, Bool, true, false, cond, not, eqb}
use Rattle.std.specs.Prelude.{◌==◌, find, slice_get}
use Rattle.std.specs.Option.{option_map}
use Rattle.std.specs.Str.{bytes_eq}
use Rattle.std.specs.List.{AllByRecursion, IsDistinct}
use Rattle.std.proofs.lemmas.Bool.{and_from, and_parts, eq-eqb, eqb-true, ne_eqb}
use Rattle.std.proofs.lemmas.Bool.Decides.{Decides-eqb, same_from_decides}
use Rattle.std.proofs.lemmas.List.{length-map}
use Rattle.std.proofs.lemmas.Map.Keys.{IsDistinct-head, IsDistinct-tail}
use Rattle.std.proofs.lemmas.Option.{same_Some}
use Rattle.std.proofs.lemmas.Slice.Eq.{bytes_eq-Decides}
use Rattle.session_table.specs.Slots.{Entry, IsPlaced, IsTable, are_one, held_at, is_at, is_for, is_other, place_for, renewed, value_at, with_value}

-- ---- lists

filter_alike : {A : Type 0} (p q : A → Bool) (xs : List A) → AllByRecursion (λ x. p x ≡ q x) xs →
    filter p xs ≡ filter q xs
filter_alike p q [] all = refl
filter_alike p q (x ∷ xs) all = rw (all.0, filter_alike p q xs all.1)

all_weaker : {A : Type 0} (P Q : A → Type 0) → ((x : A) → P x → Q x) → (xs : List A) →
    AllByRecursion P xs → AllByRecursion Q xs
all_weaker P Q f [] all = tt
all_weaker P Q f (x ∷ xs) all = (f x all.0, all_weaker P Q f xs all.1)

all_both : {A : Type 0} (P Q : A → Type 0) (xs : List A) → AllByRecursion P xs →
    AllByRecursion Q xs → AllByRecursion (λ x. P x × Q x) xs
all_both P Q [] a b = tt
all_both P Q (x ∷ xs) a b = ((a.0, b.0), all_both P Q xs a.1 b.1)

all_map : {A B : Type 0} (P : B → Type 0) (f : A → B) (xs : List A) →
    AllByRecursion (λ x. P (f x)) xs → AllByRecursion P (map f xs)
all_map P f [] all = tt
all_map P f (x ∷ xs) all = (all.0, all_map P f xs all.1)

of_map : {A B : Type 0} (P : B → Type 0) (f : A → B) (xs : List A) → AllByRecursion P (map f xs) →
    AllByRecursion (λ x. P (f x)) xs
of_map P f [] all = tt
of_map P f (x ∷ xs) all = (all.0, of_map P f xs all.1)

distinct_map : {A B : Type 0} (same : B → B → Bool) (f : A → B) (xs : List A) →
    IsDistinct (λ x y. same (f x) (f y)) xs → IsDistinct same (map f xs)
unfolding IsDistinct
distinct_map same f [] d = tt
distinct_map same f (x ∷ xs) d =
    (all_map (λ y. same (f x) y ≡ false) f xs d.0, distinct_map same f xs d.1)

distinct_of_map : {A B : Type 0} (same : B → B → Bool) (f : A → B) (xs : List A) →
    IsDistinct same (map f xs) → IsDistinct (λ x y. same (f x) (f y)) xs
unfolding IsDistinct
distinct_of_map same f [] d = tt
distinct_of_map same f (x ∷ xs) d =
    (of_map (λ y. same (f x) y ≡ false) f xs d.0, distinct_of_map same f xs d.1)

distinct_alike : {A : Type 0} (same other : A → A → Bool) → ((x y : A) → other x y ≡ same x y) →
    (xs : List A) → IsDistinct same xs → IsDistinct other xs
unfolding IsDistinct
distinct_alike same other e [] d = tt
distinct_alike same other e (x ∷ xs) d = (
  all_weaker (λ y. same x y ≡ false) (λ y. other x y ≡ false) (λ y s. e x y ∙ s) xs d.0,
  distinct_alike same other e xs d.1,
)

-- what is found passes, and is as all are
of_found : {A : Type 0} (P : A → Type 0) (test : A → Bool) (xs : List A) (x : A) →
    AllByRecursion P xs → find test xs ≡ Some x → (test x ≡ true) × P x
of_found P test [] x all is = cc
of_found P test (y ∷ ys) x all is = by (λ s. of_found P test ys x all.1 s) (test y) refl is
  where
    by : (find test ys ≡ Some x → (test x ≡ true) × P x) → (b : Bool) → test y ≡ b →
        cond b (Some y) (find test ys) ≡ Some x → (test x ≡ true) × P x
    by rest true t s =
        let r : y ≡ x = same_Some y x s in (subst (λ z. test z ≡ true) r t, subst P r all.0)
    by rest false t s = rest s

-- the n-th is as all are
pub of_nth : {A : Type 0} (P : A → Type 0) (xs : List A) (n : ℕ) (x : A) → AllByRecursion P xs →
    slice_get xs n ≡ Some x → P x
of_nth P [] n x all is = cc
of_nth P (y ∷ ys) zero x all is = subst P (same_Some y x is) all.0
of_nth P (y ∷ ys) (suc n) x all is = of_nth P ys n x all.1 is

-- each is the first that is like itself, where no two are alike
each_first : {A : Type 0} (same : A → A → Bool) → ((x : A) → same x x ≡ true) →
    ((x y : A) → same x y ≡ same y x) → (xs : List A) → IsDistinct same xs →
    AllByRecursion (λ x. find (same x) xs ≡ Some x) xs
each_first same itself turned [] d = tt
each_first same itself turned (x ∷ xs) d = (
  rw (itself x),
  later (IsDistinct-head same x xs d)
      (each_first same itself turned xs (IsDistinct-tail same x xs d)),
)
  where
    later : AllByRecursion (λ y. same x y ≡ false) xs →
        AllByRecursion (λ y. find (same y) xs ≡ Some y) xs →
        AllByRecursion (λ y. find (same y) (x ∷ xs) ≡ Some y) xs
    later apart firsts =
        all_weaker (λ y. (same x y ≡ false) × (find (same y) xs ≡ Some y))
        (λ y. find (same y) (x ∷ xs) ≡ Some y)
        (λ y p. (let away : same y x ≡ false = turned y x ∙ p.0 in rw away p.1)) xs
        (all_both (λ y. same x y ≡ false) (λ y. find (same y) xs ≡ Some y) xs apart firsts)

eqb_turned : (a b : ℕ) → eqb a b ≡ eqb b a
eqb_turned a b =
    same_from_decides (eqb a b) (eqb b a) (Decides-eqb a b)
    ((λ e. sym (eqb-true b a e)), (λ e. eq-eqb b a (sym e)))

bytes_turned : (a b : List ℕ) → bytes_eq a b ≡ bytes_eq b a
bytes_turned a b =
    same_from_decides (bytes_eq a b) (bytes_eq b a) (bytes_eq-Decides a b)
    ((λ t. sym ((bytes_eq-Decides b a).0 t)), (λ e. (bytes_eq-Decides b a).1 (sym e)))

module _ {T : Type 0} where
  -- ---- entries of a table

  itself : (e : Entry T) → are_one e e ≡ true
  itself e =
      and_from (e.port == e.port) (bytes_eq e.address e.address) (eq-eqb e.port e.port refl)
      ((bytes_eq-Decides e.address e.address).1 refl)

  turned : (e f : Entry T) → are_one e f ≡ are_one f e
  turned e f = rw (eqb_turned f.port e.port, bytes_turned f.address e.address)

  -- each entry is what is held at its place
  pub each_at_place : (es : List (Entry T)) → IsTable es →
      AllByRecursion (λ e. held_at e.place es ≡ Some e) es
  each_at_place es t =
      each_first (λ e f. f.place == e.place) (λ e. eq-eqb e.place e.place refl)
      (λ e f. eqb_turned f.place e.place) es
      (distinct_alike (λ e f. eqb e.place f.place) (λ e f. f.place == e.place)
      (λ e f. eqb_turned f.place e.place) es
      (distinct_of_map eqb (λ (e : Entry T). e.place) es t.places))

  -- each entry is what is held for its host
  pub each_for_host : (es : List (Entry T)) → IsTable es →
      AllByRecursion (λ e. find (is_for e.port e.address) es ≡ Some e) es
  each_for_host es t = each_first are_one itself turned es t.hosts

  -- where an entry is held at a place, its place and its host tell it from all others
  pub told_apart : (es : List (Entry T)) (at : ℕ) (e : Entry T) → IsTable es →
      held_at at es ≡ Some e → AllByRecursion (λ f. is_at at f ≡ is_for e.port e.address f) es
  told_apart es at e t here =
      all_weaker (λ f. (held_at f.place es ≡ Some f) × (find (is_for f.port f.address) es ≡ Some f))
      (λ f. is_at at f ≡ is_for e.port e.address f) alike es
      (all_both (λ f. held_at f.place es ≡ Some f) (λ f. find (is_for f.port f.address) es ≡ Some f)
      es (each_at_place es t) (each_for_host es t))
    where
      own : (is_at at e ≡ true) × (find (is_for e.port e.address) es ≡ Some e)
      own =
          of_found (λ f. find (is_for f.port f.address) es ≡ Some f) (is_at at) es e
          (each_for_host es t) here

      alike : (f : Entry T) →
          (held_at f.place es ≡ Some f) × (find (is_for f.port f.address) es ≡ Some f) →
          is_at at f ≡ is_for e.port e.address f
      alike f p = same_from_decides (is_at at f) (is_for e.port e.address f) (
        (λ s. same_Some f e (sym p.0 ∙ ap (λ q. held_at q es) (eqb-true f.place at s) ∙ here)),
        (λ s. ap (is_at at) s ∙ own.0),
      ) (
        (λ s. (let parts = and_parts (f.port == e.port) (bytes_eq f.address e.address) s in
            same_Some f e
            (sym p.1 ∙ ap (λ n. find (is_for n f.address) es) (eqb-true f.port e.port parts.0)
            ∙ ap (λ a. find (is_for e.port a) es) ((bytes_eq-Decides f.address e.address).0 parts.1)
            ∙ own.1))),
        (λ s. ap (is_for e.port e.address) s ∙ itself e),
      )

  -- what is found for a host
  pub record IsHeld (es : List (Entry T)) (port : ℕ) (address : List ℕ) (at : ℕ) (e : Entry T) :
      Type 0 where
    pub place : e.place ≡ at
    pub port_is : e.port ≡ port
    pub address_is : e.address ≡ address
    pub here : held_at at es ≡ Some e

  pub found_for : (es : List (Entry T)) (port : ℕ) (address : List ℕ) (at : ℕ) → IsTable es →
      place_for port address es ≡ Some at → (e : Entry T) × IsHeld es port address at e
  found_for es port address at t found = by (find (is_for port address) es) refl found
    where
      by : (o : Option (Entry T)) → find (is_for port address) es ≡ o →
          option_map (λ e. e.place) o ≡ Some at → (e : Entry T) × IsHeld es port address at e
      by None is s = cc
      by (Some e) is s =
          let p =
          of_found (λ f. held_at f.place es ≡ Some f) (is_for port address) es e
          (each_at_place es t) is in
          let parts = and_parts (e.port == port) (bytes_eq e.address address) p.0 in
          let place : e.place ≡ at = same_Some e.place at s in (
            e,
            record {
              place = place;
              port_is = eqb-true e.port port parts.0;
              address_is = (bytes_eq-Decides e.address address).0 parts.1;
              here = ap (λ q. held_at q es) (sym place) ∙ p.1;
            },
          )

  -- ---- what is left

  -- without what is at a place the table is without its host
  pub left_of_host : (es : List (Entry T)) (at : ℕ) (e : Entry T) → IsTable es →
      held_at at es ≡ Some e →
      filter (is_other at) es ≡ filter (λ f. not (is_for e.port e.address f)) es
  left_of_host es at e t here =
      filter_alike (is_other at) (λ f. not (is_for e.port e.address f)) es
      (all_weaker (λ f. is_at at f ≡ is_for e.port e.address f)
      (λ f. is_other at f ≡ not (is_for e.port e.address f)) (λ f s. ap not s) es
      (told_apart es at e t here))

  -- so is whatever is made of its entries by one, where another test tells the same
  pub map_left : {B : Type 0} (es : List (Entry T)) (made : Entry T → B) (test : Entry T → Bool)
      (other : B → Bool) →
      ((f : Entry T) → other (made f) ≡ test f) →
      map made (filter test es) ≡ filter other (map made es)
  map_left [] made test other same = refl
  map_left (f ∷ es) made test other same =
      rw (same f) (by (map_left es made test other same) (test f))
    where
      by : map made (filter test es) ≡ filter other (map made es) → (b : Bool) →
          map made (cond b (f ∷ filter test es) (filter test es))
          ≡ cond b (made f ∷ filter other (map made es)) (filter other (map made es))
      by rest true = ap (λ fs. made f ∷ fs) rest
      by rest false = rest

  -- ---- what is renewed

  -- whatever is made of entries but for their values stays
  pub map_renewed : {B : Type 0} (at : ℕ) (w : T) (made : Entry T → B) →
      ((f : Entry T) → made (with_value at w f) ≡ made f) → (es : List (Entry T)) →
      map made (renewed at w es) ≡ map made es
  map_renewed at w made same [] = refl
  map_renewed at w made same (f ∷ es) = rw (same f, map_renewed at w made same es)

  pub held_renewed : (at p : ℕ) (w : T) (es : List (Entry T)) →
      held_at p (renewed at w es) ≡ option_map (with_value at w) (held_at p es)
  held_renewed at p w [] = refl
  held_renewed at p w (f ∷ es) = by (held_renewed at p w es) (is_at p f)
    where
      by : held_at p (renewed at w es) ≡ option_map (with_value at w) (held_at p es) → (b : Bool) →
          cond b (Some (with_value at w f)) (held_at p (renewed at w es))
          ≡ option_map (with_value at w) (cond b (Some f) (held_at p es))
      by rest true = refl
      by rest false = rest

  -- the value at the place is the new one
  pub value_renewed : (at : ℕ) (w : T) (es : List (Entry T)) →
      value_at at (renewed at w es) ≡ option_map (λ v. w) (value_at at es)
  value_renewed at w [] = refl
  value_renewed at w (f ∷ es) = by (value_renewed at w es) (is_at at f) refl
    where
      by : value_at at (renewed at w es) ≡ option_map (λ v. w) (value_at at es) → (b : Bool) →
          f.place == at ≡ b →
          option_map (λ (e : Entry T). e.value)
          (cond b (Some (with_value at w f)) (held_at at (renewed at w es)))
          ≡ option_map (λ v. w)
          (option_map (λ (e : Entry T). e.value) (cond b (Some f) (held_at at es)))
      by rest true s = rw s
      by rest false s = rest

  -- and at any other place as before
  pub value_elsewhere : (at p : ℕ) (w : T) → p ≢ at → (es : List (Entry T)) →
      value_at p (renewed at w es) ≡ value_at p es
  value_elsewhere at p w other [] = refl
  value_elsewhere at p w other (f ∷ es) = by (value_elsewhere at p w other es) (is_at p f) refl
    where
      by : value_at p (renewed at w es) ≡ value_at p es → (b : Bool) → f.place == p ≡ b →
          option_map (λ (e : Entry T). e.value)
          (cond b (Some (with_value at w f)) (held_at p (renewed at w es)))
          ≡ option_map (λ (e : Entry T). e.value) (cond b (Some f) (held_at p es))
      by rest true s =
          let away : f.place == at ≡ false =
          ne_eqb f.place at (λ e. other (sym (eqb-true f.place p s) ∙ e)) in
          rw away
      by rest false s = rest

  -- it is a table still
  pub table_renewed : (at : ℕ) (w : T) (es : List (Entry T)) → IsTable es →
      IsTable (renewed at w es)
  table_renewed at w es t = record {
    few = rw (length-map es (with_value at w)) t.few;
    placed = all_map IsPlaced (with_value at w) es t.placed;
    places = rw (map_renewed at w (λ (e : Entry T). e.place) (λ f. refl) es) t.places;
    hosts = distinct_map are_one (with_value at w) es t.hosts;
  }

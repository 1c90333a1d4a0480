-- Entries by their places, listed in some order. A row says what is at each place.
use Rattle.std.proofs.Common.{◌≡◌, ◌≢◌, inl, inr, ℕ, refl, sym, ap, subst, ◌∙◌, List, [], ◌∷◌, map, filter, Some, None, Option, Bool, true, false, cond, not, eqb}
use Rattle.std.specs.Prelude.{◌==◌, find, filter_map, is_some}
use Rattle.std.specs.Option.{option_map}
use Rattle.std.specs.List.{AllByRecursion, cons_option, list_any}
use Rattle.std.proofs.lemmas.Bool.{both_ways, eq-eqb, eqb-true, ne_eqb, or_cases, or_parts, or_right}
use Rattle.session_table.specs.Slots.{Entry, held_at, is_at, is_other, places_of}

-- a number that is in a list, and is not the first, is in the rest
pub in_rest : (p q : ℕ) (qs : List ℕ) → list_any (eqb p) (q ∷ qs) ≡ true → p ≢ q →
    list_any (eqb p) qs ≡ true
in_rest p q qs has other = elim (or_cases (eqb p q) (list_any (eqb p) qs) has) [
  | inl same ↦ absurd (other (eqb-true p q same))
  | inr rest ↦ rest
]

-- a number that no later one equals is not among them
pub not_later : (p : ℕ) (qs : List ℕ) → AllByRecursion (λ q. eqb p q ≡ false) qs →
    list_any (eqb p) qs ≡ false
not_later p [] apart = refl
not_later p (q ∷ qs) apart = rw (apart.0, not_later p qs apart.1)

module _ {T : Type 0} where
  -- each row's entry has the row's place
  abbrev pub AreInPlace : (ℕ → Option (Entry T)) → Type 0
  AreInPlace row = (q : ℕ) (e : Entry T) → row q ≡ Some e → e.place ≡ q

  -- another place's row doesn't matter
  pub listed_alike : (row other : ℕ → Option (Entry T)) (p : ℕ) →
      ((q : ℕ) → q ≢ p → other q ≡ row q) → (qs : List ℕ) → list_any (eqb p) qs ≡ false →
      filter_map other qs ≡ filter_map row qs
  listed_alike row other p same [] off = refl
  listed_alike row other p same (q ∷ qs) off =
      let parts = or_parts (eqb p q) (list_any (eqb p) qs) off in
      let away : q ≢ p = λ e. both_ways (eqb p q) parts.0 (eq-eqb p q (sym e)) in
      rw (same q away, listed_alike row other p same qs parts.1)

  -- what is found where one place alone passes
  pub found_at : (row : ℕ → Option (Entry T)) (test : Entry T → Bool) (p : ℕ) (e : Entry T) →
      row p ≡ Some e → test e ≡ true →
      ((q : ℕ) (f : Entry T) → row q ≡ Some f → test f ≡ true → q ≡ p) → (qs : List ℕ) →
      list_any (eqb p) qs ≡ true → find test (filter_map row qs) ≡ Some e
  found_at row test p e here passes only [] has = cc
  found_at row test p e here passes only (q ∷ qs) has =
      by (λ other. found_at row test p e here passes only qs (in_rest p q qs has other)) (row q)
      refl
    where
      by_test : (p ≢ q → find test (filter_map row qs) ≡ Some e) → (f : Entry T) → row q ≡ Some f →
          (b : Bool) → test f ≡ b → cond b (Some f) (find test (filter_map row qs)) ≡ Some e
      by_test rest f is true t = let same : q ≡ p = only q f is t in sym is ∙ ap row same ∙ here
      by_test rest f is false t =
          rest
          (λ same.
          (let s : Some e ≡ Some f = sym here ∙ ap row same ∙ is in
          let s' : e ≡ f = cc in both_ways (test f) t (subst (λ g. test g ≡ true) s' passes)))

      by : (p ≢ q → find test (filter_map row qs) ≡ Some e) → (o : Option (Entry T)) → row q ≡ o →
          find test (cons_option o (filter_map row qs)) ≡ Some e
      by rest None is = rest (λ same. (let s : Some e ≡ None = sym here ∙ ap row same ∙ is in cc))
      by rest (Some f) is = by_test rest f is (test f) refl

  -- nothing is found where no place passes
  pub found_nowhere : (row : ℕ → Option (Entry T)) (test : Entry T → Bool) →
      ((q : ℕ) (f : Entry T) → row q ≡ Some f → test f ≡ false) → (qs : List ℕ) →
      find test (filter_map row qs) ≡ None
  found_nowhere row test fails [] = refl
  found_nowhere row test fails (q ∷ qs) = by (found_nowhere row test fails qs) (row q) refl
    where
      by : find test (filter_map row qs) ≡ None → (o : Option (Entry T)) → row q ≡ o →
          find test (cons_option o (filter_map row qs)) ≡ None
      by rest None is = rest
      by rest (Some f) is = rw (fails q f is) rest

  -- what is held at a place is its row
  pub held_is : (row : ℕ → Option (Entry T)) → AreInPlace row → (p : ℕ) (qs : List ℕ) →
      (is_some (row p) ≡ true → list_any (eqb p) qs ≡ true) → held_at p (filter_map row qs) ≡ row p
  held_is row placed p qs listed = by (row p) refl
    where
      by : (o : Option (Entry T)) → row p ≡ o → held_at p (filter_map row qs) ≡ o
      by None is =
          found_nowhere row (is_at p)
          (λ q f at.
          ne_eqb f.place p
          (λ same.
          (let s : None ≡ Some f = sym is ∙ ap row (sym same ∙ placed q f at) ∙ at in cc)))
          qs
      by (Some e) is =
          found_at row (is_at p) p e is (eq-eqb e.place p (placed p e is))
          (λ q f at t. sym (placed q f at) ∙ eqb-true f.place p t) qs (listed (rw is))

  -- one place less
  pub left_out : (row other : ℕ → Option (Entry T)) → AreInPlace row → (p : ℕ) →
      ((q : ℕ) → q ≢ p → other q ≡ row q) → (qs : List ℕ) →
      filter (is_other p) (filter_map row qs) ≡ filter_map other (filter (λ q. not (q == p)) qs)
  left_out row other placed p same [] = refl
  left_out row other placed p same (q ∷ qs) =
      by_place (left_out row other placed p same qs) (q == p) refl
    where
      gone : filter (is_other p) (filter_map row qs)
          ≡ filter_map other (filter (λ r. not (r == p)) qs) →
          (o : Option (Entry T)) → row q ≡ o → q == p ≡ true →
          filter (is_other p) (cons_option o (filter_map row qs))
          ≡ filter_map other (filter (λ r. not (r == p)) qs)
      gone rest None is e = rest
      gone rest (Some f) is e =
          let t : f.place == p ≡ true = ap (λ r. r == p) (placed q f is) ∙ e in rw t rest

      stays : filter (is_other p) (filter_map row qs)
          ≡ filter_map other (filter (λ r. not (r == p)) qs) →
          (o : Option (Entry T)) → row q ≡ o → q == p ≡ false →
          filter (is_other p) (cons_option o (filter_map row qs))
          ≡ cons_option o (filter_map other (filter (λ r. not (r == p)) qs))
      stays rest None is e = rest
      stays rest (Some f) is e =
          let t : f.place == p ≡ false = ap (λ r. r == p) (placed q f is) ∙ e in
          rw t (ap (λ fs. f ∷ fs) rest)

      by_place : filter (is_other p) (filter_map row qs)
          ≡ filter_map other (filter (λ r. not (r == p)) qs) →
          (b : Bool) → q == p ≡ b →
          filter (is_other p) (filter_map row (q ∷ qs))
          ≡ filter_map other
          (cond (not b) (q ∷ filter (λ r. not (r == p)) qs) (filter (λ r. not (r == p)) qs))
      by_place rest true e = gone rest (row q) refl e
      by_place rest false e =
          rw (same q (λ s. both_ways (q == p) e (eq-eqb q p s))) (stays rest (row q) refl e)

  -- each entry another
  pub listed_by : (row other : ℕ → Option (Entry T)) (change : Entry T → Entry T) →
      ((q : ℕ) → other q ≡ option_map change (row q)) → (qs : List ℕ) →
      filter_map other qs ≡ map change (filter_map row qs)
  listed_by row other change each [] = refl
  listed_by row other change each (q ∷ qs) =
      rw (each q, listed_by row other change each qs) (by (row q))
    where
      by : (o : Option (Entry T)) →
          cons_option (option_map change o) (map change (filter_map row qs))
          ≡ map change (cons_option o (filter_map row qs))
      by None = refl
      by (Some f) = refl

  -- where each place of the order has an entry, the entries' places are the order
  pub places_listed : (row : ℕ → Option (Entry T)) → AreInPlace row → (qs : List ℕ) →
      ((q : ℕ) → list_any (eqb q) qs ≡ true → is_some (row q) ≡ true) →
      places_of (filter_map row qs) ≡ qs
  places_listed row placed [] held = refl
  places_listed row placed (q ∷ qs) held =
      by
      (places_listed row placed qs (λ r has. held r (or_right (eqb r q) (list_any (eqb r) qs) has)))
      (row q) refl
    where
      by : places_of (filter_map row qs) ≡ qs → (o : Option (Entry T)) → row q ≡ o →
          places_of (cons_option o (filter_map row qs)) ≡ q ∷ qs
      by rest None is =
          let s : is_some (row q) ≡ true = held q (rw (eq-eqb q q refl)) in
          absurd (both_ways (is_some (row q)) (rw is) s)
      by rest (Some f) is = rw (placed q f is, rest)

  -- a fact that each row's entry has, all have
  pub each_listed : (P : Entry T → Type 0) (row : ℕ → Option (Entry T)) →
      ((q : ℕ) (e : Entry T) → row q ≡ Some e → P e) → (qs : List ℕ) →
      AllByRecursion P (filter_map row qs)
  each_listed P row all [] = tt
  each_listed P row all (q ∷ qs) = by (each_listed P row all qs) (row q) refl
    where
      by : AllByRecursion P (filter_map row qs) → (o : Option (Entry T)) → row q ≡ o →
          AllByRecursion P (cons_option o (filter_map row qs))
      by rest None is = rest
      by rest (Some f) is = (all q f is, rest)

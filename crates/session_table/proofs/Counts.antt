-- How many of some places in a row hold something.
use Rattle.std.proofs.Common.{◌≡◌, ◌≢◌, inl, inr, ℕ, zero, suc, ◌+◌, ◌<◌, ◌≤◌, refl, sym, ap, subst, ◌∙◌, List, [], ◌∷◌, length, filter, Some, None, Option, Bool, true, false, cond, eqb, arith}
use Rattle.std.specs.Prelude.{filter_map, is_some, ◌||◌}
use Rattle.std.specs.List.{IsDistinct, cons_option, list_any}
use Rattle.std.proofs.lemmas.Bool.{both_ways, cases_eq, eq-eqb, ne_eqb}
use Rattle.std.proofs.lemmas.Map.Keys.{IsDistinct-head, IsDistinct-tail}
use Rattle.session_table.specs.Slots.{Entry}
use Rattle.session_table.specs.Rows.{count_held}
use Rattle.session_table.proofs.Orders.{listed_alike, not_later}

-- no more than there are
pub most : (asked : ℕ → Bool) (first n : ℕ) → count_held asked first n ≤ n
most asked first zero = omega arith
most asked first (suc n) =
    let rest : count_held asked first n ≤ n = most asked first n in
    elim (asked (first + n)) as (λ b. count_held asked first n + cond b 1 0 ≤ suc n)
    [ true ↦ omega (arith, rest) | false ↦ omega (arith, rest) ]

-- all of them
pub all_count : (asked : ℕ → Bool) (first n : ℕ) → ((k : ℕ) → k < n → asked (first + k) ≡ true) →
    count_held asked first n ≡ n
all_count asked first zero all = refl
all_count asked first (suc n) all =
    let rest : count_held asked first n ≡ n =
    all_count asked first n (λ k below. all k (omega arith)) in
    rw (all n (omega arith)) (omega (arith, rest))

-- none of them
pub none_count : (asked : ℕ → Bool) (first n : ℕ) → ((k : ℕ) → k < n → asked (first + k) ≡ false) →
    count_held asked first n ≡ 0
none_count asked first zero none = refl
none_count asked first (suc n) none =
    let rest : count_held asked first n ≡ 0 =
    none_count asked first n (λ k below. none k (omega arith)) in
    rw (none n (omega arith)) (omega (arith, rest))

-- fewer, where one is not
pub fewer : (asked : ℕ → Bool) (first n k : ℕ) → k < n → asked (first + k) ≡ false →
    count_held asked first n < n
fewer asked first zero k below free = absurd (omega arith)
fewer asked first (suc n) k below free = elim (cases_eq k n) [
  | inl same ↦
      (let e : asked (first + n) ≡ false = subst (λ j. asked (first + j) ≡ false) same free in
      let rest : count_held asked first n ≤ n = most asked first n in
      rw e (omega (arith, rest)))
  | inr other ↦
      (let rest : count_held asked first n < n = fewer asked first n k (omega arith) free in
      elim (asked (first + n)) as (λ b. count_held asked first n + cond b 1 0 < suc n)
      [ true ↦ omega (arith, rest) | false ↦ omega (arith, rest) ])
]

-- two questions that are answered alike
pub same_count : (asked other : ℕ → Bool) (first n : ℕ) →
    ((k : ℕ) → k < n → other (first + k) ≡ asked (first + k)) →
    count_held other first n ≡ count_held asked first n
same_count asked other first zero same = refl
same_count asked other first (suc n) same =
    rw (same n (omega arith), same_count asked other first n (λ k below. same k (omega arith)))

-- one place of them less
pub one_less : (asked other : ℕ → Bool) (p : ℕ) → asked p ≡ true → other p ≡ false →
    ((q : ℕ) → q ≢ p → other q ≡ asked q) → (first n : ℕ) → first ≤ p → p < first + n →
    count_held asked first n ≡ count_held other first n + 1
one_less asked other p is isnt same first zero from below = absurd (omega arith)
one_less asked other p is isnt same first (suc n) from below = elim (cases_eq (first + n) p) [
  | inl here ↦ (let a : asked (first + n) ≡ true = subst (λ q. asked q ≡ true) (sym here) is in
      let b : other (first + n) ≡ false = subst (λ q. other q ≡ false) (sym here) isnt in
      let rest : count_held other first n ≡ count_held asked first n =
      same_count asked other first n (λ k l. same (first + k) (λ e. omega arith)) in
      rw (a, b) (omega (arith, rest)))
  | inr away ↦ (let a : other (first + n) ≡ asked (first + n) = same (first + n) away in
      let rest : count_held asked first n ≡ count_held other first n + 1 =
      one_less asked other p is isnt same first n from (omega arith) in
      rw a (omega (arith, rest)))
]

module _ {T : Type 0} where
  -- the rows without that of a place
  abbrev but : ℕ → (ℕ → Option (Entry T)) → ℕ → Option (Entry T)
  but p row q = cond (eqb q p) None (row q)

  -- a test that the entries of so many places from one on pass, and no others
  pub record Selects (row : ℕ → Option (Entry T)) (test : Entry T → Bool) (first n : ℕ) :
      Type 0 where
    pub within : (q : ℕ) (e : Entry T) → row q ≡ Some e → test e ≡ true →
        (first ≤ q) × (q < first + n)
    pub passes : (q : ℕ) (e : Entry T) → row q ≡ Some e → first ≤ q → q < first + n → test e ≡ true

  -- as many entries pass as places of these hold one
  pub counted : (test : Entry T → Bool) (first n : ℕ) (qs : List ℕ) (row : ℕ → Option (Entry T)) →
      Selects row test first n → IsDistinct eqb qs →
      ((q : ℕ) → list_any (eqb q) qs ≡ is_some (row q)) →
      length (filter test (filter_map row qs)) ≡ count_held (λ q. is_some (row q)) first n
  counted test first n [] row selects once listed =
      sym (none_count (λ q. is_some (row q)) first n (λ k below. sym (listed (first + k))))
  counted test first n (p ∷ qs) row selects once listed =
      by
      (rw (← listed_alike row (but p row) p away qs later)
      (counted test first n qs (but p row) fewer_selects (IsDistinct-tail eqb p qs once)
      fewer_listed))
      (row p) refl
    where
      later : list_any (eqb p) qs ≡ false
      later = not_later p qs (IsDistinct-head eqb p qs once)

      away : (q : ℕ) → q ≢ p → but p row q ≡ row q
      away q other = rw (ne_eqb q p other)

      gone : but p row p ≡ None
      gone = rw (eq-eqb p p refl)

      kept : (q : ℕ) (e : Entry T) → but p row q ≡ Some e → row q ≡ Some e
      kept q e is = elim (cases_eq q p) [
        | inl same ↦ (let s : None ≡ Some e = sym gone ∙ ap (but p row) (sym same) ∙ is in cc)
        | inr other ↦ sym (away q other) ∙ is
      ]

      fewer_selects : Selects (but p row) test first n
      fewer_selects =
          record {
            within = λ q e is. selects.within q e (kept q e is);
            passes = λ q e is. selects.passes q e (kept q e is);
          }

      fewer_listed : (q : ℕ) → list_any (eqb q) qs ≡ is_some (but p row q)
      fewer_listed q = elim (cases_eq q p) [
        | inl same ↦ (rw (same, gone) later)
        | inr other ↦
            (let l : eqb q p || list_any (eqb q) qs ≡ is_some (row q) = listed q in
            rw (away q other) (rw (ne_eqb q p other) at l))
      ]

      some_alike : (q : ℕ) → q ≢ p → is_some (but p row q) ≡ is_some (row q)
      some_alike q other = ap (λ o. is_some o) (away q other)

      by_test : length (filter test (filter_map row qs))
          ≡ count_held (λ q. is_some (but p row q)) first n →
          (e : Entry T) → row p ≡ Some e → (b : Bool) → test e ≡ b →
          length (cond b (e ∷ filter test (filter_map row qs)) (filter test (filter_map row qs)))
          ≡ count_held (λ q. is_some (row q)) first n
      by_test rest e is true t =
          let w : (first ≤ p) × (p < first + n) = selects.within p e is t in
          let c :
          count_held (λ q. is_some (row q)) first n
          ≡ count_held (λ q. is_some (but p row q)) first n + 1 =
          one_less (λ q. is_some (row q)) (λ q. is_some (but p row q)) p (rw is) (rw gone)
          some_alike first n w.0 w.1 in
          omega (arith, rest, c)
      by_test rest e is false t =
          rest
          ∙ same_count (λ q. is_some (row q)) (λ q. is_some (but p row q)) first n
          (λ k below.
          some_alike (first + k)
          (λ same. both_ways (test e) t (selects.passes p e is (omega arith) (omega arith))))

      by : length (filter test (filter_map row qs))
          ≡ count_held (λ q. is_some (but p row q)) first n →
          (o : Option (Entry T)) → row p ≡ o →
          length (filter test (cons_option o (filter_map row qs)))
          ≡ count_held (λ q. is_some (row q)) first n
      by rest None is =
          (let l : eqb p p || list_any (eqb p) qs ≡ is_some (row p) = listed p in
          absurd (both_ways (is_some (row p)) (rw is) (sym (rw (eq-eqb p p refl) at l))))
      by rest (Some e) is = by_test rest e is (test e) refl

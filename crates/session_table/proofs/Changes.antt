-- What a table keeps once a place is taken, given up, or has another value; and what every table
-- is.
use Rattle.std.proofs.Common.{◌≡◌, ◌≢◌, inl, inr, ℕ, ◌+◌, ◌-◌, ◌<◌, ◌≤◌, refl, sym, ap, subst, ◌∙◌, List, [], ◌∷◌, ◌++◌, length, filter, Some, None, Option, Bool, true, false, cond, not, eqb, get_or, set, replicate, arith, length-set}
use Rattle.std.specs.Prelude.{◌==◌, ◌&&◌, ◌||◌, filter_map, is_some, is_none}
use Rattle.std.specs.Option.{option_map}
use Rattle.std.specs.Str.{bytes_eq}
use Rattle.std.specs.List.{AllByRecursion, IsDistinct, cons_option, list_any}
use Rattle.std.proofs.lemmas.Bool.{and_parts, both_ways, cases_eq, cases_lt, eq-eqb, eqb-true, false_from_ne_true, ne_eqb, or_parts}
use Rattle.std.proofs.lemmas.Cmp.{nat_eq_equiv}
use Rattle.std.proofs.lemmas.List.{get_or-set_other, get_or-set_same, get_or-replicate, get_or_past, length-map, length-replicate, length_push}
use Rattle.std.proofs.lemmas.List.Elements.{filter_map-append}
use Rattle.std.proofs.lemmas.List.Folds.{list_any-append}
use Rattle.std.proofs.lemmas.Map.Keys.{IsDistinct-cons, IsDistinct-head, IsDistinct-push, IsDistinct-tail}
use Rattle.std.proofs.lemmas.Map.Made.{is_member-filter}
use Rattle.std.proofs.lemmas.Map.Steps.{length-le_from_distinct_below}
use Rattle.std.proofs.lemmas.Slice.Eq.{bytes_eq-Decides}
use Rattle.wire_core.specs.declared.address.Mac.{Mac}
use Rattle.session_table.specs.Slots.{Entry, IsPlaced, IsTable, IsTakenFor, are_one, count_on, first_place, is_other, is_port, place_for, port_of, renewed, with_value}
use Rattle.session_table.specs.Rows.{AreKept, FoundBy, entries_of, entry, has_mac, holds_mac, host_at, is_free, is_held, row}
use Rattle.session_table.proofs.Orders.{each_listed, left_out, listed_alike, listed_by, not_later}
use Rattle.session_table.proofs.Counts.{all_count, fewer}
use Rattle.session_table.proofs.Kept as kept_by

-- ---- options and lists

none_since : {A : Type 0} → (o : Option A) → is_some o ≡ false → o ≡ None
none_since None e = refl
none_since (Some x) e = cc

held_not_free : {A : Type 0} → (o : Option A) → is_none o ≡ false → is_some o ≡ true
held_not_free None e = cc
held_not_free (Some x) e = refl

free_not_held : {A : Type 0} → (o : Option A) → is_none o ≡ true → is_some o ≡ false
free_not_held None e = refl
free_not_held (Some x) e = cc

nothing_at : {A : Type 0} → (n p : ℕ) →
    get_or (replicate n (let none : Option A = None in none)) p None ≡ None
nothing_at {A} n p = elim (cases_lt p n) [
  | inl below ↦ get_or-replicate n p None None below
  | inr past ↦
      get_or_past (replicate n None) p None
      (omega (arith, past, length-replicate n (let none : Option A = None in none)))
]

pub all_filter : {A : Type 0} → (P : A → Type 0) (test : A → Bool) (xs : List A) →
    AllByRecursion P xs → AllByRecursion P (filter test xs)
all_filter P test [] all = tt
all_filter P test (x ∷ xs) all =
    elim (test x) as (λ b. AllByRecursion P (cond b (x ∷ filter test xs) (filter test xs))) [
      | true ↦ (all.0, all_filter P test xs all.1)
      | false ↦ all_filter P test xs all.1
    ]

pub distinct_filter : {A : Type 0} → (same : A → A → Bool) (test : A → Bool) (xs : List A) →
    IsDistinct same xs → IsDistinct same (filter test xs)
distinct_filter same test [] d = d
distinct_filter same test (x ∷ xs) d =
    let rest = distinct_filter same test xs (IsDistinct-tail same x xs d) in
    elim (test x) as (λ b. IsDistinct same (cond b (x ∷ filter test xs) (filter test xs))) [
      | true ↦
          IsDistinct-cons same x (filter test xs)
          (all_filter (λ y. same x y ≡ false) test xs (IsDistinct-head same x xs d)) rest
      | false ↦ rest
    ]

pub filter_all : {A : Type 0} → (test : A → Bool) (xs : List A) →
    AllByRecursion (λ x. test x ≡ true) xs → filter test xs ≡ xs
filter_all test [] all = refl
filter_all test (x ∷ xs) all = rw (all.0, filter_all test xs all.1)

-- ---- rows of one change

module _ {T : Type 0} where
  renewed_here : (p : ℕ) (h : Option Mac) (v : Option T) (w : T) → is_some v ≡ true →
      entry p h (Some w) ≡ option_map (with_value p w) (entry p h v)
  renewed_here p None v w held = refl
  renewed_here p (Some mac) None w held = cc
  renewed_here p (Some mac) (Some value) w held = rw (eq-eqb p p refl)

  renewed_there : (p at : ℕ) (h : Option Mac) (v : Option T) (w : T) → p ≢ at →
      entry p h v ≡ option_map (with_value at w) (entry p h v)
  renewed_there p at None v w other = refl
  renewed_there p at (Some mac) None w other = refl
  renewed_there p at (Some mac) (Some value) w other = rw (ne_eqb p at other)

  -- no two entries are alike where no two rows are
  later_differ : (rows : ℕ → Option (Entry T)) (same : Entry T → Entry T → Bool) (q : ℕ)
      (e : Entry T) →
      ((r : ℕ) (f : Entry T) → rows r ≡ Some f → same e f ≡ true → q ≡ r) → (rs : List ℕ) →
      list_any (eqb q) rs ≡ false → AllByRecursion (λ f. same e f ≡ false) (filter_map rows rs)
  later_differ rows same q e one [] off = tt
  later_differ rows same q e one (r ∷ rs) off =
      by (later_differ rows same q e one rs (or_parts (eqb q r) (list_any (eqb q) rs) off).1)
      (rows r) refl
    where
      by : AllByRecursion (λ f. same e f ≡ false) (filter_map rows rs) → (o : Option (Entry T)) →
          rows r ≡ o → AllByRecursion (λ f. same e f ≡ false) (cons_option o (filter_map rows rs))
      by rest None is = rest
      by rest (Some f) is = (
        false_from_ne_true (same e f)
            (λ t.
            both_ways (eqb q r) (or_parts (eqb q r) (list_any (eqb q) rs) off).0
            (eq-eqb q r (one r f is t))),
        rest,
      )

  rows_differ : (rows : ℕ → Option (Entry T)) (same : Entry T → Entry T → Bool) →
      ((q r : ℕ) (e f : Entry T) → rows q ≡ Some e → rows r ≡ Some f → same e f ≡ true → q ≡ r) →
      (qs : List ℕ) → IsDistinct eqb qs → IsDistinct same (filter_map rows qs)
  unfolding IsDistinct
  rows_differ rows same one [] d = tt
  rows_differ rows same one (q ∷ qs) d =
      by (rows_differ rows same one qs (IsDistinct-tail eqb q qs d)) (rows q) refl
    where
      by : IsDistinct same (filter_map rows qs) → (o : Option (Entry T)) → rows q ≡ o →
          IsDistinct same (cons_option o (filter_map rows qs))
      by rest None is = rest
      by rest (Some e) is =
          IsDistinct-cons same e (filter_map rows qs)
          (later_differ rows same q e (λ r f at t. one q r e f is at t) qs
          (not_later q qs (IsDistinct-head eqb q qs d)))
          rest

  -- nothing is held at first
  pub kept_at_first : (hosts : List (Option Mac)) (values : List (Option T)) →
      hosts ≡ replicate 960 None → values ≡ replicate 960 None → AreKept hosts values []
  unfolding IsDistinct
  kept_at_first hosts values no_hosts no_values = record {
    size = ap length no_hosts ∙ length-replicate {A = Option Mac} 960 None;
    values_size = ap length no_values ∙ length-replicate {A = Option T} 960 None;
    paired = λ p. ap (λ o. is_some o) (value p) ∙ sym (ap (λ o. is_some o) (host p));
    listed = λ p. sym (ap (λ o. is_some o) (host p));
    once = tt;
    apart =
        λ p q address hp hq on.
        absurd (both_ways (holds_mac address hosts p) (ap (has_mac address) (host p)) hp);
  }
    where
      host : (p : ℕ) → host_at hosts p ≡ None
      host p = ap (λ hs. host_at hs p) no_hosts ∙ nothing_at 960 p

      value : (p : ℕ) → get_or values p None ≡ None
      value p = ap (λ vs. get_or vs p None) no_values ∙ nothing_at 960 p

  module _ (hosts : List (Option Mac)) (values : List (Option T)) (order : List ℕ)
      (kept : AreKept hosts values order) where
    pub few : length order ≤ 960
    few =
        length-le_from_distinct_below order 960 kept.once
        (λ q has. kept_by.held_below hosts values order kept q (sym (kept.listed q) ∙ has))

    pub table : IsTable (entries_of hosts values order)
    table = record {
      few =
          (let l : length (entries_of hosts values order) ≡ length order =
          sym (length-map (entries_of hosts values order) (λ (e : Entry T). e.place))
          ∙ ap length (kept_by.places_are hosts values order kept) in
          omega (arith, few));
      placed =
          each_listed IsPlaced (row hosts values)
          (λ p e is.
          let r = kept_by.row_is hosts values order kept p e is in
          (kept_by.on_a_port hosts values order kept p e is, ap port_of r.place ∙ sym r.port))
          order;
      places = subst (IsDistinct eqb) (sym (kept_by.places_are hosts values order kept)) kept.once;
      hosts = rows_differ (row hosts values) are_one one order kept.once;
    }
      where
        one : (q r : ℕ) (e f : Entry T) → row hosts values q ≡ Some e →
            row hosts values r ≡ Some f → are_one e f ≡ true → q ≡ r
        one q r e f at_q at_r t =
            let parts = and_parts (f.port == e.port) (bytes_eq f.address e.address) t in
            let a = kept_by.row_is hosts values order kept q e at_q in
            let b = kept_by.row_is hosts values order kept r f at_r in
            kept.apart q r e.address
            (kept_by.holds hosts values order kept q e e.address at_q
            ∙ (bytes_eq-Decides e.address e.address).1 refl)
            (kept_by.holds hosts values order kept r f e.address at_r ∙ parts.1)
            (sym a.port ∙ sym (eqb-true f.port e.port parts.0) ∙ b.port)

    -- ---- a place has another value

    module _ (at : ℕ) (w : T) (held : is_held hosts at ≡ true) where
      within : at < length values
      within = rw kept.values_size (kept_by.held_below hosts values order kept at held)

      pub renewed_rows :
          entries_of hosts (set values at (Some w)) order
          ≡ renewed at w (entries_of hosts values order)
      renewed_rows =
          listed_by (row hosts values) (row hosts (set values at (Some w))) (with_value at w) each
          order
        where
          each : (q : ℕ) →
              row hosts (set values at (Some w)) q
              ≡ option_map (with_value at w) (row hosts values q)
          each q = elim (cases_eq q at) [
            | inl same ↦
                rw (same, get_or-set_same values at (Some w) None within)
                (renewed_here at (host_at hosts at) (get_or values at None) w
                (kept.paired at ∙ held))
            | inr other ↦
                rw (get_or-set_other values at q (Some w) None other)
                (renewed_there q at (host_at hosts q) (get_or values q None) w other)
          ]

      pub kept_renewed : AreKept hosts (set values at (Some w)) order
      kept_renewed = record {
        size = kept.size;
        values_size = length-set values at (Some w) ∙ kept.values_size;
        paired = λ p. elim (cases_eq p at) [
          | inl same ↦ rw (same, get_or-set_same values at (Some w) None within, held)
          | inr other ↦ rw (get_or-set_other values at p (Some w) None other) (kept.paired p)
        ];
        listed = kept.listed;
        once = kept.once;
        apart = kept.apart;
      }

    -- ---- a place is given up

    module _ (at : ℕ) (held : is_held hosts at ≡ true) where
      host_within : at < length hosts
      host_within = rw kept.size (kept_by.held_below hosts values order kept at held)

      value_within : at < length values
      value_within = rw kept.values_size (kept_by.held_below hosts values order kept at held)

      pub left_rows :
          entries_of (set hosts at None) (set values at None) (filter (λ q. not (q == at)) order)
          ≡ filter (is_other at) (entries_of hosts values order)
      left_rows =
          sym
          (left_out (row hosts values) (row (set hosts at None) (set values at None))
          (kept_by.in_place hosts values order kept) at
          (λ q other.
          rw (
            get_or-set_other hosts at q None None other,
            get_or-set_other values at q None None other,
          ))
          order)

      pub kept_left :
          AreKept (set hosts at None) (set values at None) (filter (λ q. not (q == at)) order)
      kept_left = record {
        size = length-set hosts at None ∙ kept.size;
        values_size = length-set values at None ∙ kept.values_size;
        paired = λ p. elim (cases_eq p at) [
          | inl same ↦
              rw (
                same,
                get_or-set_same hosts at None None host_within,
                get_or-set_same values at None None value_within,
              )
          | inr other ↦
              rw (
                get_or-set_other hosts at p None None other,
                get_or-set_other values at p None None other,
              )
              (kept.paired p)
        ];
        listed =
            λ p.
            is_member-filter nat_eq_equiv (λ q. not (q == at)) p
            (λ x e. ap (λ r. not (r == at)) (eqb-true p x e)) order
            ∙ elim (cases_eq p at) [
              | inl same ↦
                  rw (same, get_or-set_same hosts at None None host_within, eq-eqb at at refl)
                  (no_more (list_any (eqb at) order))
              | inr other ↦
                  rw (get_or-set_other hosts at p None None other, ne_eqb p at other)
                  (still (list_any (eqb p) order) ∙ kept.listed p)
            ];
        once = distinct_filter eqb (λ q. not (q == at)) order kept.once;
        apart =
            λ p q address hp hq. kept.apart p q address (before p address hp) (before q address hq);
      }
        where
          no_more : (b : Bool) → b && false ≡ false
          no_more true = refl
          no_more false = refl

          still : (b : Bool) → b && true ≡ b
          still true = refl
          still false = refl

          before : (p : ℕ) (address : List ℕ) → holds_mac address (set hosts at None) p ≡ true →
              holds_mac address hosts p ≡ true
          before p address h = elim (cases_eq p at) [
            | inl same ↦
                absurd
                (both_ways (holds_mac address (set hosts at None) p)
                (rw (same, get_or-set_same hosts at None None host_within)) h)
            | inr other ↦
                ap (has_mac address) (sym (get_or-set_other hosts at p None None other)) ∙ h
          ]

    -- where nothing is held, nothing goes
    pub none_left : (at : ℕ) → is_held hosts at ≡ false →
        filter (is_other at) (entries_of hosts values order) ≡ entries_of hosts values order
    none_left at free =
        filter_all (is_other at) (entries_of hosts values order)
        (each_listed (λ (e : Entry T). is_other at e ≡ true) (row hosts values)
        (λ q e is.
        rw
        (ne_eqb e.place at
        (λ same.
        both_ways (is_held hosts at) free
        (subst (λ r. is_held hosts r ≡ true)
        (sym ((kept_by.row_is hosts values order kept q e is).place) ∙ same)
        (sym (kept_by.is_some-row hosts values order kept q)
        ∙ ap (λ (o : Option (Entry T)). is_some o) is)))))
        order)

    -- ---- a place is taken

    -- each of the port's places is taken
    pub full : (port : ℕ) → is_port port ≡ true → FoundBy (is_free hosts) (first_place port) None →
        count_on port (entries_of hosts values order) ≡ 16
    full port is none =
        kept_by.count_is hosts values order kept port is
        ∙ all_count (is_held hosts) (first_place port) 16
        (λ k below. held_not_free (host_at hosts (first_place port + k)) (none k below))

    module _ (port : ℕ) (mac : Mac) (value : T) (at : ℕ) (is : is_port port ≡ true)
        (new : place_for port mac.0 (entries_of hosts values order) ≡ None)
        (free : FoundBy (is_free hosts) (first_place port) (Some at)) where
      below : at < 960
      below = kept_by.within_places at port is free.1

      host_room : at < length hosts
      host_room = rw kept.size below

      value_room : at < length values
      value_room = rw kept.values_size below

      unheld : is_held hosts at ≡ false
      unheld = free_not_held (host_at hosts at) free.2

      unlisted : list_any (eqb at) order ≡ false
      unlisted = kept.listed at ∙ unheld

      on : port_of at ≡ port
      on = kept_by.of_port at port is free.0 free.1

      pub taken : IsTakenFor port at (entries_of hosts values order)
      taken = record {
        from = free.0;
        below = free.1;
        free =
            kept_by.held hosts values order kept at
            ∙ none_since (row hosts values at)
            (kept_by.is_some-row hosts values order kept at ∙ unheld);
      }

      pub room : count_on port (entries_of hosts values order) < 16
      room =
          rw (kept_by.count_is hosts values order kept port is)
          (fewer (is_held hosts) (first_place port) 16 (at - first_place port)
          (omega (arith, free.0, free.1))
          (subst (λ q. is_held hosts q ≡ false)
          (let e : at ≡ first_place port + (at - first_place port) = omega (arith, free.0) in e)
          unheld))

      pub put_rows :
          entries_of (set hosts at (Some mac)) (set values at (Some value)) (order ++ at ∷ [])
          ≡ entries_of hosts values order
          ++ record { place = at; port = port; address = mac.0; value = value } ∷ []
      put_rows =
          let others : filter_map (row (set hosts at (Some mac)) (set values at (Some value))) order
          ≡ entries_of hosts values order =
          listed_alike (row hosts values)
          (row (set hosts at (Some mac)) (set values at (Some value))) at
          (λ q other.
          rw (
            get_or-set_other hosts at q (Some mac) None other,
            get_or-set_other values at q (Some value) None other,
          ))
          order unlisted in
          filter_map-append (row (set hosts at (Some mac)) (set values at (Some value))) order
          (at ∷ [])
          ∙ rw (
            others,
            get_or-set_same hosts at (Some mac) None host_room,
            get_or-set_same values at (Some value) None value_room,
            on,
          )

      pub kept_put :
          AreKept (set hosts at (Some mac)) (set values at (Some value)) (order ++ at ∷ [])
      kept_put = record {
        size = length-set hosts at (Some mac) ∙ kept.size;
        values_size = length-set values at (Some value) ∙ kept.values_size;
        paired = λ p. elim (cases_eq p at) [
          | inl same ↦
              rw (
                same,
                get_or-set_same hosts at (Some mac) None host_room,
                get_or-set_same values at (Some value) None value_room,
              )
          | inr other ↦
              rw (
                get_or-set_other hosts at p (Some mac) None other,
                get_or-set_other values at p (Some value) None other,
              )
              (kept.paired p)
        ];
        listed = λ p. list_any-append (eqb p) order (at ∷ []) ∙ elim (cases_eq p at) [
          | inl same ↦
              rw
              (same, get_or-set_same hosts at (Some mac) None host_room, unlisted, eq-eqb at at refl)
          | inr other ↦
              rw (get_or-set_other hosts at p (Some mac) None other, ne_eqb p at other)
              (as_was (list_any (eqb p) order) ∙ kept.listed p)
        ];
        once = IsDistinct-push nat_eq_equiv order at kept.once unlisted;
        apart = λ p q address hp hq same_port. elim (cases_eq p at) [
          | inl p_at ↦ elim (cases_eq q at) [
            | inl q_at ↦ p_at ∙ sym q_at
            | inr other ↦
                absurd
                (twice q address
                (subst (λ r. holds_mac address (set hosts at (Some mac)) r ≡ true) p_at hp)
                (before q address other hq) (sym same_port ∙ ap port_of p_at ∙ on))
          ]
          | inr p_other ↦ elim (cases_eq q at) [
            | inl q_at ↦
                absurd
                (twice p address
                (subst (λ r. holds_mac address (set hosts at (Some mac)) r ≡ true) q_at hq)
                (before p address p_other hp) (same_port ∙ ap port_of q_at ∙ on))
            | inr other ↦
                kept.apart p q address (before p address p_other hp) (before q address other hq)
                same_port
          ]
        ];
      }
        where
          as_was : (b : Bool) → b || false ≡ b
          as_was true = refl
          as_was false = refl

          before : (p : ℕ) (address : List ℕ) → p ≢ at →
              holds_mac address (set hosts at (Some mac)) p ≡ true →
              holds_mac address hosts p ≡ true
          before p address other h =
              ap (has_mac address) (sym (get_or-set_other hosts at p (Some mac) None other)) ∙ h

          twice : (q : ℕ) (address : List ℕ) →
              holds_mac address (set hosts at (Some mac)) at ≡ true →
              holds_mac address hosts q ≡ true → port_of q ≡ port → ⊥
          twice q address here there on_port =
              let t : bytes_eq mac.0 address ≡ true =
              sym (ap (has_mac address) (get_or-set_same hosts at (Some mac) None host_room))
              ∙ here in
              let same : mac.0 ≡ address = (bytes_eq-Decides mac.0 address).0 t in
              let found : place_for port mac.0 (entries_of hosts values order) ≡ Some q =
              kept_by.the_place hosts values order kept port mac.0 q on_port
              (subst (λ a. holds_mac a hosts q ≡ true) (sym same) there) in
              let s : None ≡ Some q = sym new ∙ found in
              cc

      pub may_push : length order < 960
      may_push =
          let l : length (order ++ at ∷ []) ≤ 960 =
          length-le_from_distinct_below (order ++ at ∷ []) 960 kept_put.once
          (λ q has. in_last q has) in
          omega (arith, l, length_push order at)
        where
          in_last : (q : ℕ) → list_any (eqb q) (order ++ at ∷ []) ≡ true → q < 960
          in_last q has =
              kept_by.held_below (set hosts at (Some mac)) (set values at (Some value))
              (order ++ at ∷ []) kept_put q (sym (kept_put.listed q) ∙ has)

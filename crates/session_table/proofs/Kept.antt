-- What the fields of a table keep, and how the list of entries follows from it.
use Rattle.std.proofs.Common.{◌≡◌, ◌⊎◌, inl, inr, ℕ, ◌+◌, ◌-◌, ◌<◌, ◌≤◌, refl, sym, ap, subst, ◌∙◌, List, Some, None, Option, Bool, true, false, eqb, get_or, arith}
use Rattle.std.specs.Prelude.{◌==◌, find, is_some, nat_lt}
use Rattle.std.specs.Option.{option_map}
use Rattle.std.specs.Str.{bytes_eq}
use Rattle.std.specs.List.{list_any}
use Rattle.std.proofs.lemmas.Bool.{and_from, and_left, and_parts, both_ways, cases_lt, eq-eqb, eqb-true, false_from_ne_true, lt-ltb, ltb-true, ne_eqb}
use Rattle.std.proofs.lemmas.Option.{same_Some}
use Rattle.std.proofs.lemmas.List.{get_or_past}
use Rattle.wire_core.specs.declared.address.Mac.{Mac}
use Rattle.session_table.specs.Slots.{Entry, count_on, first_place, held_at, is_for, is_on, is_port, key_at, key_of, place_for, places_of, port_of, value_at}
use Rattle.session_table.specs.Rows.{AreKept, FoundBy, count_held, entries_of, entry, has_mac, holds_mac, host_at, is_held, row}
use Rattle.session_table.proofs.Orders.{AreInPlace, found_at, found_nowhere, held_is, places_listed}
use Rattle.session_table.proofs.Counts.{counted, same_count}

-- ---- ports and their places

pub in_port : (p port : ℕ) → port_of p ≡ port → (first_place port ≤ p) × (p < first_place port + 16)
in_port p port e = (omega arith, omega arith)

pub of_port : (p port : ℕ) → is_port port ≡ true → first_place port ≤ p →
    p < first_place port + 16 → port_of p ≡ port
of_port p port is from below =
    let some : 0 < port = ltb-true 0 port (and_parts (nat_lt 0 port) (nat_lt port 61) is).0 in
    omega arith

pub is_port-place : (p : ℕ) → p < 960 → is_port (port_of p) ≡ true
is_port-place p below =
    and_from (nat_lt 0 (port_of p)) (nat_lt (port_of p) 61) (lt-ltb 0 (port_of p) (omega arith))
    (lt-ltb (port_of p) 61 (omega arith))

pub within_places : (p port : ℕ) → is_port port ≡ true → p < first_place port + 16 → p < 960
within_places p port is below =
    let few : port < 61 = ltb-true port 61 (and_parts (nat_lt 0 port) (nat_lt port 61) is).1 in
    omega arith

-- which numbers are ports
pub port_in : (port : ℕ) → (port ≡ 0 → ⊥) → port ≤ 60 → is_port port ≡ true
port_in port some few =
    and_from (nat_lt 0 port) (nat_lt port 61) (lt-ltb 0 port (omega arith))
    (lt-ltb port 61 (omega arith))

pub port_out : (port : ℕ) → (port ≡ 0) ⊎ ((port ≡ 0 → ⊥) × (60 < port)) → is_port port ≡ false
port_out port out = false_from_ne_true (is_port port) (λ t.
    let parts = and_parts (nat_lt 0 port) (nat_lt port 61) t in
    let some : 0 < port = ltb-true 0 port parts.0 in
    let few : port < 61 = ltb-true port 61 parts.1 in
    elim out [ inl none ↦ omega arith | inr many ↦ omega (arith, many.1) ])

-- what is found in equal lists, from equal places on
pub found_same : (asked : List (Option Mac) → ℕ → Bool) (places hosts : List (Option Mac))
    (first other : ℕ) (found given : Option ℕ) →
    places ≡ hosts → first ≡ other → found ≡ given → FoundBy (asked places) first found →
    FoundBy (asked hosts) other given
found_same asked places hosts first other found given p q r f =
    subst (λ o. FoundBy (asked hosts) other o) r
    (subst (λ n. FoundBy (asked hosts) n found) q (subst (λ hs. FoundBy (asked hs) first found) p f))

abbrev pub keyed : ℕ → Mac → ℕ × Mac
keyed p mac = (port_of p, mac)

-- ---- one row

module _ {T : Type 0} where
  pub record IsEntry (p : ℕ) (h : Option Mac) (v : Option T) (e : Entry T) : Type 0 where
    pub place : e.place ≡ p
    pub port : e.port ≡ port_of p
    pub host : h ≡ Some (record { 0 = e.address })
    pub value : v ≡ Some e.value

  pub entry_is : (p : ℕ) (h : Option Mac) (v : Option T) (e : Entry T) → entry p h v ≡ Some e →
      IsEntry p h v e
  entry_is p None v e is = cc
  entry_is p (Some mac) None e is = cc
  entry_is p (Some mac) (Some value) e is =
      let s : record { place = p; port = port_of p; address = mac.0; value = value } ≡ e =
      same_Some _ _ is in
      record {
        place = sym (ap (λ (f : Entry T). f.place) s);
        port = sym (ap (λ (f : Entry T). f.port) s);
        host = ap (λ (a : List ℕ). Some (record { 0 = a })) (ap (λ (f : Entry T). f.address) s);
        value = ap (λ (f : Entry T). Some f.value) s;
      }

  pub is_some-entry : (p : ℕ) (h : Option Mac) (v : Option T) → is_some v ≡ is_some h →
      is_some (entry p h v) ≡ is_some h
  is_some-entry p None v paired = refl
  is_some-entry p (Some mac) None paired = paired
  is_some-entry p (Some mac) (Some value) paired = refl

  pub value-entry : (p : ℕ) (h : Option Mac) (v : Option T) → is_some v ≡ is_some h →
      option_map (λ (e : Entry T). e.value) (entry p h v) ≡ v
  value-entry p None None paired = refl
  value-entry p None (Some value) paired = cc
  value-entry p (Some mac) None paired = refl
  value-entry p (Some mac) (Some value) paired = refl

  pub key-entry : (p : ℕ) (h : Option Mac) (v : Option T) → is_some v ≡ is_some h →
      option_map key_of (entry p h v) ≡ option_map (keyed p) h
  key-entry p None v paired = refl
  key-entry p (Some mac) None paired = cc
  key-entry p (Some mac) (Some value) paired = refl

  -- ---- the list of entries

  module _ (hosts : List (Option Mac)) (values : List (Option T)) (order : List ℕ)
      (kept : AreKept hosts values order) where
    pub row_is : (p : ℕ) (e : Entry T) → row hosts values p ≡ Some e →
        IsEntry p (host_at hosts p) (get_or values p None) e
    row_is p e is = entry_is p (host_at hosts p) (get_or values p None) e is

    pub in_place : AreInPlace (row hosts values)
    in_place p e is = (row_is p e is).place

    pub is_some-row : (p : ℕ) → is_some (row hosts values p) ≡ is_held hosts p
    is_some-row p = is_some-entry p (host_at hosts p) (get_or values p None) (kept.paired p)

    pub listed-row : (p : ℕ) → list_any (eqb p) order ≡ is_some (row hosts values p)
    listed-row p = kept.listed p ∙ sym (is_some-row p)

    pub held : (p : ℕ) → held_at p (entries_of hosts values order) ≡ row hosts values p
    held p = held_is (row hosts values) in_place p order (λ s. listed-row p ∙ s)

    pub value_is : (p : ℕ) → value_at p (entries_of hosts values order) ≡ get_or values p None
    value_is p =
        ap (option_map (λ (e : Entry T). e.value)) (held p)
        ∙ value-entry p (host_at hosts p) (get_or values p None) (kept.paired p)

    pub is_some-value : (p : ℕ) →
        is_some (value_at p (entries_of hosts values order)) ≡ is_held hosts p
    is_some-value p = ap (λ (o : Option T). is_some o) (value_is p) ∙ kept.paired p

    pub key_is : (p : ℕ) →
        key_at p (entries_of hosts values order) ≡ option_map (keyed p) (host_at hosts p)
    key_is p =
        ap (option_map key_of) (held p)
        ∙ key-entry p (host_at hosts p) (get_or values p None) (kept.paired p)

    pub places_are : places_of (entries_of hosts values order) ≡ order
    places_are = places_listed (row hosts values) in_place order (λ q has. sym (listed-row q) ∙ has)

    -- ---- what is held for a host of a port

    pub holds : (p : ℕ) (e : Entry T) (address : List ℕ) → row hosts values p ≡ Some e →
        holds_mac address hosts p ≡ bytes_eq e.address address
    holds p e address is = ap (has_mac address) (row_is p e is).host

    pub no_place : (port : ℕ) (address : List ℕ) →
        ((p : ℕ) → port_of p ≡ port → holds_mac address hosts p ≡ false) →
        place_for port address (entries_of hosts values order) ≡ None
    no_place port address none =
        ap (option_map (λ (e : Entry T). e.place))
        (found_nowhere (row hosts values) (is_for port address) fails order)
      where
        fails : (q : ℕ) (f : Entry T) → row hosts values q ≡ Some f → is_for port address f ≡ false
        fails q f is = false_from_ne_true (is_for port address f) (λ t.
            let parts = and_parts (f.port == port) (bytes_eq f.address address) t in
            let on : port_of q ≡ port = sym (row_is q f is).port ∙ eqb-true f.port port parts.0 in
            both_ways (holds_mac address hosts q) (none q on) (holds q f address is ∙ parts.1))

    pub the_place : (port : ℕ) (address : List ℕ) (p : ℕ) → port_of p ≡ port →
        holds_mac address hosts p ≡ true →
        place_for port address (entries_of hosts values order) ≡ Some p
    the_place port address p on has = by (row hosts values p) refl
      where
        by : (o : Option (Entry T)) → row hosts values p ≡ o →
            place_for port address (entries_of hosts values order) ≡ Some p
        by None is =
            absurd
            (both_ways (is_held hosts p)
            (sym (is_some-row p) ∙ ap (λ (o : Option (Entry T)). is_some o) is)
            (held_since (host_at hosts p) has))
          where
            held_since : (h : Option Mac) → has_mac address h ≡ true → is_some h ≡ true
            held_since None t = t
            held_since (Some mac) t = refl
        by (Some e) is =
            let found : find (is_for port address) (entries_of hosts values order) ≡ Some e =
            found_at (row hosts values) (is_for port address) p e is
            (and_from (e.port == port) (bytes_eq e.address address)
            (eq-eqb e.port port ((row_is p e is).port ∙ on)) (sym (holds p e address is) ∙ has))
            (λ q f at t.
            let parts = and_parts (f.port == port) (bytes_eq f.address address) t in
            let at_port : port_of q ≡ port =
            sym (row_is q f at).port ∙ eqb-true f.port port parts.0 in
            kept.apart q p address (holds q f address at ∙ parts.1) has (at_port ∙ sym on))
            order (listed-row p ∙ ap (λ (o : Option (Entry T)). is_some o) is) in
            ap (option_map (λ (f : Entry T). f.place)) found ∙ ap Some (row_is p e is).place

    -- what one look at the port's sixteen places finds
    pub found_is : (port : ℕ) (address : List ℕ) (found : Option ℕ) → is_port port ≡ true →
        FoundBy (holds_mac address hosts) (first_place port) found →
        found ≡ place_for port address (entries_of hosts values order)
    found_is port address None is none = sym (no_place port address (λ p on.
        let w = in_port p port on in
        subst (λ q. holds_mac address hosts q ≡ false)
        (let e : first_place port + (p - first_place port) ≡ p = omega (arith, w.0) in e)
        (none (p - first_place port) (omega (arith, w.0, w.1)))))
    found_is port address (Some p) is some =
        sym (the_place port address p (of_port p port is some.0 some.1) some.2)

    -- nothing is held past the last place
    pub held_below : (p : ℕ) → is_held hosts p ≡ true → p < 960
    held_below p t = elim (cases_lt p 960) [
      | inl below ↦ below
      | inr past ↦
          absurd
          (both_ways (is_held hosts p)
          (ap (λ (h : Option Mac). is_some h) (get_or_past hosts p None (rw kept.size past))) t)
    ]

    pub row_below : (p : ℕ) (e : Entry T) → row hosts values p ≡ Some e → p < 960
    row_below p e is =
        held_below p (sym (is_some-row p) ∙ ap (λ (o : Option (Entry T)). is_some o) is)

    pub on_a_port : (p : ℕ) (e : Entry T) → row hosts values p ≡ Some e → is_port e.port ≡ true
    on_a_port p e is = ap is_port (row_is p e is).port ∙ is_port-place p (row_below p e is)

    pub not_a_port : (port : ℕ) (address : List ℕ) → is_port port ≡ false →
        place_for port address (entries_of hosts values order) ≡ None
    not_a_port port address out =
        ap (option_map (λ (e : Entry T). e.place))
        (found_nowhere (row hosts values) (is_for port address)
        (λ q f is.
        and_left (f.port == port) (bytes_eq f.address address)
        (ne_eqb f.port port
        (λ same. both_ways (is_port port) out (ap is_port (sym same) ∙ on_a_port q f is))))
        order)

    -- ---- how many on a port

    pub count_is : (port : ℕ) → is_port port ≡ true →
        count_on port (entries_of hosts values order)
        ≡ count_held (is_held hosts) (first_place port) 16
    count_is port is =
        counted (is_on port) (first_place port) 16 order (row hosts values)
        (record {
          within = λ q e at t. in_port q port (sym (row_is q e at).port ∙ eqb-true e.port port t);
          passes =
              λ q e at from below.
              eq-eqb e.port port ((row_is q e at).port ∙ of_port q port is from below);
        })
        kept.once listed-row
        ∙ same_count (is_held hosts) (λ q. is_some (row hosts values q)) (first_place port) 16
        (λ k below. is_some-row (first_place port + k))

    pub count_none : (port : ℕ) → is_port port ≡ false →
        count_on port (entries_of hosts values order) ≡ 0
    count_none port out =
        counted (is_on port) 0 0 order (row hosts values)
        (record {
          within =
              λ q e at t.
              absurd
              (both_ways (is_port port) out
              (ap is_port (sym (eqb-true e.port port t)) ∙ on_a_port q e at));
          passes = λ q e at from below. absurd (omega arith);
        })
        kept.once listed-row

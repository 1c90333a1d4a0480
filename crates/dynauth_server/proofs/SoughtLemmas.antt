-- What attributes ask for one after another is what they ask for together.
use Rattle.std.proofs.Common.{◌≡◌, ℕ, Bool, true, false, ◌&&◌, List, [], ◌∷◌, Option, Some, None, refl, sym, ap, ◌∙◌, inl, inr, Bor}
use Rattle.std.specs.Prelude.{filter, ◌==◌}
use Rattle.std.specs.Str.{bytes_eq}
use Rattle.std.proofs.lemmas.Bool.{cases_Bool, and_parts, eqb-true, eq-eqb, ne_eqb}
use Rattle.std.proofs.lemmas.Slice.Eq.{bytes_eq-Decides}
use Rattle.radius_defs.specs.Packet.{Attribute}
use Rattle.radius_defs.specs.declared.attribute.TheConstants.{USER_NAME, NAS_PORT, CALLING_STATION_ID, ACCT_SESSION_ID}
use Rattle.radius_defs.specs.Attributes.{number_of, session_text}
use Rattle.radius_packet.specs.Views.{value_in}
use Rattle.wire_core.specs.declared.address.Mac.{Mac}
use Rattle.wire_defs.specs.Station.{station_of}
use Rattle.dynauth_defs.specs.Session.{Row, is_octets, is_number, fits, matches, matching}
use Rattle.dynauth_server.specs.declared.naming.Sought.{Sought}
use Rattle.dynauth_server.specs.Sought.{agreed, is_same_address, seeks, names, names_in}

-- ---- one value more of a kind

-- a value that is left passes a test
abbrev passes : {A : Type 0} → (A → Bool) → Option A → Bool
passes test None = false
passes test (Some value) = test value

idempotent : (b : Bool) → (b && b) ≡ b
idempotent true = refl
idempotent false = refl

-- two values that pass the test of a session are the same, and two that are the same are one
module _ {A : Type 0} (same : A → A → Bool) (test : A → Bool) (alone : (a b : A) → test a ≡ true → test b ≡ true → same a b ≡ true) (alike : (a b : A) → same a b ≡ true → test a ≡ test b) where
  differ : (before value : A) → same before value ≡ false → (test before && test value) ≡ false
  differ before value apart =
      elim (cases_Bool (test before && test value)) [
        | inl pass ↦
            let parts = and_parts (test before) (test value) pass in
            let h : true ≡ false = sym (alone before value parts.0 parts.1) ∙ apart in
            cc
        | inr fail ↦ fail
      ]

  twice : (before value : A) → same before value ≡ true → (test before && test value) ≡ test value
  twice before value is = ap (λ (b : Bool). b && test value) (alike before value is) ∙ idempotent (test value)

  pub one_more : (before : Option A) (value : A) → passes test (agreed same before value) ≡ (seeks test before && test value)
  one_more None value = refl
  one_more (Some before) value =
      elim (cases_Bool (same before value)) [
        | inl is ↦ rw is (sym (twice before value is))
        | inr apart ↦ rw apart (sym (differ before value apart))
      ]

same_octets : (a b : List ℕ) → bytes_eq a b ≡ true → a ≡ b
same_octets a b is = (bytes_eq-Decides a b).0 is

are_same : (a b : List ℕ) → a ≡ b → bytes_eq a b ≡ true
are_same a b is = (bytes_eq-Decides a b).1 is

more_identity : (row : Row) (before : Option (List ℕ)) (value : List ℕ)
    → passes (λ v. is_octets v row.identity) (agreed bytes_eq before value) ≡ (seeks (λ v. is_octets v row.identity) before && is_octets value row.identity)
more_identity row before value =
    one_more bytes_eq (λ v. is_octets v row.identity) (λ a b x y. alone row.identity a b x y) (λ a b is. ap (λ (v : List ℕ). is_octets v row.identity) (same_octets a b is)) before value
  where
    alone : (identity : Option (List ℕ)) (a b : List ℕ) → is_octets a identity ≡ true → is_octets b identity ≡ true → bytes_eq a b ≡ true
    alone None a b x y = cc
    alone (Some i) a b x y = are_same a b (sym (same_octets i a x) ∙ same_octets i b y)

more_port : (row : Row) (before : Option ℕ) (value : ℕ)
    → passes (λ n. n == row.port) (agreed (λ a b. a == b) before value) ≡ (seeks (λ n. n == row.port) before && (value == row.port))
more_port row before value =
    one_more (λ (a b : ℕ). a == b) (λ (n : ℕ). n == row.port) (λ a b x y. eq-eqb a b (eqb-true a row.port x ∙ sym (eqb-true b row.port y))) (λ a b is. ap (λ (n : ℕ). n == row.port) (eqb-true a b is)) before value

more_address : (row : Row) (before : Option Mac) (value : Mac)
    → passes (λ m. bytes_eq m.0 row.address) (agreed is_same_address before value) ≡ (seeks (λ m. bytes_eq m.0 row.address) before && bytes_eq value.0 row.address)
more_address row before value =
    one_more is_same_address (λ (m : Mac). bytes_eq m.0 row.address) (λ a b x y. are_same a.0 b.0 (same_octets a.0 row.address x ∙ sym (same_octets b.0 row.address y)))
    (λ a b is. ap (λ (v : List ℕ). bytes_eq v row.address) (same_octets a.0 b.0 is)) before value

more_session : (row : Row) (before : Option (List ℕ)) (value : List ℕ)
    → passes (λ v. bytes_eq v (session_text row.number)) (agreed bytes_eq before value) ≡ (seeks (λ v. bytes_eq v (session_text row.number)) before && bytes_eq value (session_text row.number))
more_session row before value =
    let text = session_text row.number in
    one_more bytes_eq (λ (v : List ℕ). bytes_eq v text) (λ a b x y. are_same a b (same_octets a text x ∙ sym (same_octets b text y)))
    (λ a b is. ap (λ (v : List ℕ). bytes_eq v text) (same_octets a b is)) before value

-- ---- one part of four

swap : (p q t : Bool) → ((p && t) && q) ≡ ((p && q) && t)
swap true q true = commutes q true
  where
    commutes : (a b : Bool) → (b && a) ≡ (a && b)
    commutes true true = refl
    commutes true false = refl
    commutes false true = refl
    commutes false false = refl
swap true true false = refl
swap true false false = refl
swap false q t = refl

under : (p q t : Bool) → (p && (q && t)) ≡ ((p && q) && t)
under true q t = refl
under false q t = refl

ends : (b : Bool) → (b && true) ≡ b
ends true = refl
ends false = refl

at_first : (p rest t u : Bool) → u ≡ (p && t) → (u && rest) ≡ ((p && rest) && t)
at_first p rest t u e = rw e (swap p rest t)

at_second : (p q rest t u : Bool) → u ≡ (q && t) → (p && (u && rest)) ≡ ((p && (q && rest)) && t)
at_second p q rest t u e = ap (λ (b : Bool). p && b) (at_first q rest t u e) ∙ under p (q && rest) t

at_third : (p q r rest t u : Bool) → u ≡ (r && t) → (p && (q && (u && rest))) ≡ ((p && (q && (r && rest))) && t)
at_third p q r rest t u e = ap (λ (b : Bool). p && b) (at_second q r rest t u e) ∙ under p (q && (r && rest)) t

at_last : (p q r s t u : Bool) → u ≡ (s && t) → (p && (q && (r && u))) ≡ ((p && (q && (r && s))) && t)
at_last p q r s t u e =
    ap (λ (b : Bool). p && (q && (r && b))) e ∙ ap (λ (b : Bool). p && (q && b)) (under r s t) ∙ ap (λ (b : Bool). p && b) (under q (r && s) t) ∙ under p (q && (r && s)) t

-- ---- one attribute more

-- what a session has of each kind
abbrev has_identity : Sought → Row → Bool
has_identity s row = seeks (λ v. is_octets v row.identity) (value_in s.identity)

abbrev has_port : Sought → Row → Bool
has_port s row = seeks (λ n. n == row.port) s.port

abbrev has_address : Sought → Row → Bool
has_address s row = seeks (λ m. bytes_eq m.0 row.address) s.address

abbrev has_session : Sought → Row → Bool
has_session s row = seeks (λ v. bytes_eq v (session_text row.number)) (value_in s.session)

module _ (s : Sought) (row : Row) where
  pub with_identity : (value : List ℕ) (next : Option (Bor (List ℕ))) → value_in next ≡ agreed bytes_eq (value_in s.identity) value
      → (passes (λ v. is_octets v row.identity) (value_in next) && (has_port s row && (has_address s row && has_session s row))) ≡ (names s row && is_octets value row.identity)
  with_identity value next is =
      at_first (has_identity s row) (has_port s row && (has_address s row && has_session s row)) (is_octets value row.identity) (passes (λ v. is_octets v row.identity) (value_in next))
      (ap (passes (λ v. is_octets v row.identity)) is ∙ more_identity row (value_in s.identity) value)

  pub with_port : (value : ℕ) (next : Option ℕ) → next ≡ agreed (λ a b. a == b) s.port value
      → (has_identity s row && (passes (λ n. n == row.port) next && (has_address s row && has_session s row))) ≡ (names s row && (value == row.port))
  with_port value next is =
      at_second (has_identity s row) (has_port s row) (has_address s row && has_session s row) (value == row.port) (passes (λ n. n == row.port) next)
      (ap (passes (λ n. n == row.port)) is ∙ more_port row s.port value)

  pub with_address : (value : Mac) (next : Option Mac) → next ≡ agreed is_same_address s.address value
      → (has_identity s row && (has_port s row && (passes (λ m. bytes_eq m.0 row.address) next && has_session s row))) ≡ (names s row && bytes_eq value.0 row.address)
  with_address value next is =
      at_third (has_identity s row) (has_port s row) (has_address s row) (has_session s row) (bytes_eq value.0 row.address) (passes (λ m. bytes_eq m.0 row.address) next)
      (ap (passes (λ m. bytes_eq m.0 row.address)) is ∙ more_address row s.address value)

  pub with_session : (value : List ℕ) (next : Option (Bor (List ℕ))) → value_in next ≡ agreed bytes_eq (value_in s.session) value
      → (has_identity s row && (has_port s row && (has_address s row && passes (λ v. bytes_eq v (session_text row.number)) (value_in next)))) ≡ (names s row && bytes_eq value (session_text row.number))
  with_session value next is =
      at_last (has_identity s row) (has_port s row) (has_address s row) (has_session s row) (bytes_eq value (session_text row.number)) (passes (λ v. bytes_eq v (session_text row.number)) (value_in next))
      (ap (passes (λ v. bytes_eq v (session_text row.number))) is ∙ more_session row (value_in s.session) value)

-- ---- one attribute more, by its type

module _ (s : Sought) (row : Row) (kind : ℕ) (value : List ℕ) where
  abbrev whole : Bool
  whole = names s row && fits row (record { kind = kind; value = value })

  of_kind : (k : ℕ) → kind ≡ k → (names s row && fits row (record { kind = k; value = value })) ≡ whole
  of_kind k is = ap (λ (n : ℕ). names s row && fits row (record { kind = n; value = value })) (sym is)

  pub of_identity : (next : Option (Bor (List ℕ))) → kind ≡ USER_NAME → value_in next ≡ agreed bytes_eq (value_in s.identity) value
      → (passes (λ v. is_octets v row.identity) (value_in next) && (has_port s row && (has_address s row && has_session s row))) ≡ whole
  of_identity next k is = with_identity s row value next is ∙ of_kind USER_NAME k

  pub of_port : (n : ℕ) (next : Option ℕ) → kind ≡ NAS_PORT → Some n ≡ number_of value → next ≡ agreed (λ a b. a == b) s.port n
      → (has_identity s row && (passes (λ m. m == row.port) next && (has_address s row && has_session s row))) ≡ whole
  of_port n next k read is = with_port s row n next is ∙ ap (λ (o : Option ℕ). names s row && is_number row.port o) read ∙ of_kind NAS_PORT k

  pub of_address : (mac : Mac) (next : Option Mac) → kind ≡ CALLING_STATION_ID → Some mac.0 ≡ station_of value → next ≡ agreed is_same_address s.address mac
      → (has_identity s row && (has_port s row && (passes (λ m. bytes_eq m.0 row.address) next && has_session s row))) ≡ whole
  of_address mac next k read is = with_address s row mac next is ∙ ap (λ (o : Option (List ℕ)). names s row && is_octets row.address o) read ∙ of_kind CALLING_STATION_ID k

  pub of_session : (next : Option (Bor (List ℕ))) → kind ≡ ACCT_SESSION_ID → value_in next ≡ agreed bytes_eq (value_in s.session) value
      → (has_identity s row && (has_port s row && (has_address s row && passes (λ v. bytes_eq v (session_text row.number)) (value_in next)))) ≡ whole
  of_session next k is = with_session s row value next is ∙ of_kind ACCT_SESSION_ID k

  -- two values that differ
  pub no_address : (mac : Mac) → kind ≡ CALLING_STATION_ID → Some mac.0 ≡ station_of value → None ≡ agreed is_same_address s.address mac → false ≡ whole
  no_address mac k read is = third (has_identity s row) (has_port s row) (has_session s row) ∙ of_address mac None k read is
    where
      third : (p q rest : Bool) → false ≡ (p && (q && (false && rest)))
      third true true rest = refl
      third true false rest = refl
      third false q rest = refl

  pub no_session : kind ≡ ACCT_SESSION_ID → None ≡ agreed bytes_eq (value_in s.session) value → false ≡ whole
  no_session k is = last (has_identity s row) (has_port s row) (has_address s row) ∙ of_session None k is
    where
      last : (p q r : Bool) → false ≡ (p && (q && (r && false)))
      last true true true = refl
      last true true false = refl
      last true false r = refl
      last false q r = refl

  -- an attribute that names none
  pub of_another_kind : (kind ≡ USER_NAME → ⊥) → (kind ≡ NAS_PORT → ⊥) → (kind ≡ CALLING_STATION_ID → ⊥) → (kind ≡ ACCT_SESSION_ID → ⊥) → names s row ≡ whole
  of_another_kind user port station session =
      rw (ne_eqb kind USER_NAME user, ne_eqb kind NAS_PORT port, ne_eqb kind CALLING_STATION_ID station, ne_eqb kind ACCT_SESSION_ID session) (sym (ends (names s row)))

-- ---- all attributes

module _ (attributes from left : List Attribute) (a : Attribute) (row : Row) (s : Sought) (next : Option Sought) (so_far : (names s row && matches from row) ≡ matches attributes row) (first : from ≡ a ∷ left) (one : names_in next row ≡ (names s row && fits row a)) where
  pub read_on : (names_in next row && matches left row) ≡ matches attributes row
  read_on =
      ap (λ (b : Bool). b && matches left row) one ∙ sym (under (names s row) (fits row a) (matches left row))
      ∙ ap (λ (list : List Attribute). names s row && matches list row) (sym first) ∙ so_far

pub all_read : (attributes from : List Attribute) (row : Row) (s : Sought) → (names s row && matches from row) ≡ matches attributes row → from ≡ [] → names s row ≡ matches attributes row
all_read attributes from row s so_far none = sym (ends (names s row)) ∙ ap (λ (list : List Attribute). names s row && matches list row) (sym none) ∙ so_far

-- ---- all sessions

same_filter : (p q : Row → Bool) → ((row : Row) → p row ≡ q row) → (rows : List Row) → filter p rows ≡ filter q rows
same_filter p q same [] = refl
same_filter p q same (row ∷ rows) = rw (same row, same_filter p q same rows) refl

none_left : (rows : List Row) → filter (λ row. false) rows ≡ []
none_left [] = refl
none_left (row ∷ rows) = none_left rows

module _ (attributes : List Attribute) (rows : List Row) (next : Option Sought) (read : (row : Row) → names_in next row ≡ matches attributes row) where
  pub those_named : (s : Sought) → next ≡ Some s → filter (names s) rows ≡ matching attributes rows
  those_named s is = same_filter (names s) (matches attributes) (λ row. ap (λ (n : Option Sought). names_in n row) (sym is) ∙ read row) rows

  pub none_named : next ≡ None → matching attributes rows ≡ []
  none_named is = same_filter (matches attributes) (λ row. false) (λ row. sym (read row) ∙ ap (λ (n : Option Sought). names_in n row) is) rows ∙ none_left rows

-- What waits, by the index and the places that it names.
use Rattle.std.proofs.Common.{◌≡◌, ℕ, ◌<◌, ◌≤◌, eqb, not, Bool, cond, List, [], ◌∷◌, length, set, map, Option, Some, None, refl, sym, ap, subst, ◌∙◌, arith, inl, inr}
use Rattle.std.proofs.lemmas.Bool.{cases_Bool, cases_lt, cases_eq, eq-eqb, ne_eqb, lt-ltb, le-ltb}
use Rattle.std.proofs.lemmas.List.{get_or_past, get_or-set_same, get_or-set_other, length-map}
use Rattle.std.specs.Prelude.{find, filter}
use Rattle.std.specs.List.{AllByRecursion}
use Rattle.std.specs.Option.{option_map}
use Rattle.aaa_defs.specs.declared.TheConstants.{MOST_WAITING}
use Rattle.aaa_defs.specs.Waits.{AreApart, RisesBy, Pending, placed}
use Rattle.aaa_defs.specs.Age.{older}
use Rattle.aaa_client.specs.declared.order.Entry.{Entry}
use Rattle.aaa_client.specs.Order.{Rising, session_of}
use Rattle.aaa_client.specs.Places.{place, request_of, Agrees, no_request}

some-none : {X : Type 0} (x : X) → Some x ≡ None → ⊥
some-none x e = cc

pub same-some : {X : Type 0} (x y : X) → Some x ≡ Some y → x ≡ y
same-some x y e = cc

-- what is found passes the test, and has what all have
pub passes : {X : Type 0} (number : X → ℕ) (n : ℕ) (xs : List X) (x : X) → find (λ y. eqb (number y) n) xs ≡ Some x → number x ≡ n
passes number n [] x found = absurd (some-none x (sym found))
passes number n (y ∷ rest) x found =
    elim (cases_eq (number y) n) [
      | inl same ↦ let e : Some y ≡ Some x = sym (rw (eq-eqb (number y) n same) refl) ∙ found in ap number (sym (same-some y x e)) ∙ same
      | inr other ↦ passes number n rest x (sym (rw (ne_eqb (number y) n other) refl) ∙ found)
    ]

pub member : {X : Type 0} (P : X → Type 0) (p : X → Bool) (xs : List X) (x : X) → AllByRecursion P xs → find p xs ≡ Some x → P x
member P p [] x all found = absurd (some-none x (sym found))
member P p (y ∷ rest) x all found =
    elim (cases_Bool (p y)) [
      | inl same ↦ let e : Some y ≡ Some x = sym (rw same refl) ∙ found in subst P (same-some y x e) all.0
      | inr other ↦ member P p rest x all.1 (sym (rw other refl) ∙ found)
    ]

module _ (places : List Pending) where
  -- ---- the requests of an index

  pub find-session : (n : ℕ) (order : List Entry) → AllByRecursion (Agrees places) order
      → find (λ p. eqb p.session n) (map (request_of places) order) ≡ option_map (request_of places) (find (λ e. eqb e.session n) order)
  find-session n [] agree = refl
  find-session n (e ∷ rest) agree =
      elim (cases_eq e.session n) [
        | inl same ↦ rw (eq-eqb (request_of places e).session n (agree.0.session ∙ same), eq-eqb e.session n same) refl
        | inr other ↦ rw (ne_eqb (request_of places e).session n (λ same. other (sym agree.0.session ∙ same)), ne_eqb e.session n other) (find-session n rest agree.1)
      ]

  pub find-name : (k : ℕ) (order : List Entry) → AllByRecursion (Agrees places) order
      → find (λ p. eqb p.name k) (map (request_of places) order) ≡ option_map (request_of places) (find (λ e. eqb e.name k) order)
  find-name k [] agree = refl
  find-name k (e ∷ rest) agree =
      elim (cases_eq e.name k) [
        | inl same ↦ rw (eq-eqb (request_of places e).name k (agree.0.name ∙ same), eq-eqb e.name k same) refl
        | inr other ↦ rw (ne_eqb (request_of places e).name k (λ same. other (sym agree.0.name ∙ same)), ne_eqb e.name k other) (find-name k rest agree.1)
      ]

  pub filter-session : (n : ℕ) (order : List Entry) → AllByRecursion (Agrees places) order
      → filter (λ p. not (eqb p.session n)) (map (request_of places) order) ≡ map (request_of places) (filter (λ e. not (eqb e.session n)) order)
  filter-session n [] agree = refl
  filter-session n (e ∷ rest) agree =
      elim (cases_eq e.session n) [
        | inl same ↦ rw (eq-eqb (request_of places e).session n (agree.0.session ∙ same), eq-eqb e.session n same) (filter-session n rest agree.1)
        | inr other ↦
            rw (ne_eqb (request_of places e).session n (λ same. other (sym agree.0.session ∙ same)), ne_eqb e.session n other)
            (ap (λ (ps : List Pending). request_of places e ∷ ps) (filter-session n rest agree.1))
      ]

  pub placed-map : (x : Entry) (order : List Entry) → Agrees places x → AllByRecursion (Agrees places) order
      → placed (λ r. r.session) (request_of places x) (map (request_of places) order) ≡ map (request_of places) (placed session_of x order)
  placed-map x [] one agree = refl
  placed-map x (e ∷ rest) one agree =
      elim (cases_lt x.session e.session) [
        | inl less ↦ rw (lt-ltb (request_of places x).session (request_of places e).session (omega (arith, less, one.session, agree.0.session)), lt-ltb x.session e.session less) refl
        | inr least ↦
            rw (le-ltb (request_of places x).session (request_of places e).session (omega (arith, least, one.session, agree.0.session)), le-ltb x.session e.session least)
            (ap (λ (ps : List Pending). request_of places e ∷ ps) (placed-map x rest one agree.1))
      ]

  pub agree-placed : (x : Entry) (order : List Entry) → Agrees places x → AllByRecursion (Agrees places) order → AllByRecursion (Agrees places) (placed session_of x order)
  agree-placed x [] one agree = (one, tt)
  agree-placed x (e ∷ rest) one agree =
      elim (cases_lt x.session e.session) [
        | inl less ↦ rw (lt-ltb x.session e.session less) (one, (agree.0, agree.1))
        | inr least ↦ rw (le-ltb x.session e.session least) (agree.0, agree-placed x rest one agree.1)
      ]

  -- ---- the request with a name

  pub under-some : (n k : ℕ) (order : List Entry) (e : Entry) → find (λ x. eqb x.session n) order ≡ Some e → e.name ≡ k
      → option_map (request_of places) (find (λ x. eqb x.name k) order) ≡ Some (place places k)
  under-some n k [] e found same = absurd (some-none e (sym found))
  under-some n k (x ∷ rest) e found same =
      elim (cases_eq x.name k) [
        | inl here ↦ rw (eq-eqb x.name k here) (ap (λ (i : ℕ). Some (place places i)) here)
        | inr other ↦ rw (ne_eqb x.name k other) (under-some n k rest e (elim (cases_eq x.session n) [
          | inl hit ↦ let is : Some x ≡ Some e = sym (rw (eq-eqb x.session n hit) refl) ∙ found in absurd (other (ap (λ (y : Entry). y.name) (same-some x e is) ∙ same))
          | inr miss ↦ sym (rw (ne_eqb x.session n miss) refl) ∙ found
        ]) same)
      ]

none-past : (n m : ℕ) (xs : List Entry) (e : Entry) → AllByRecursion (λ x. m < x.session) xs → n ≡ m → find (λ x. eqb x.session n) xs ≡ Some e → ⊥
none-past n m xs e above same found = let h : m < e.session = member (λ x. m < x.session) (λ x. eqb x.session n) xs e above found in let p = passes session_of n xs e found in omega (arith, h, p, same)

-- one entry alone is of a session
pub unique : (n : ℕ) (order : List Entry) (e : Entry) → Rising order → find (λ x. eqb x.session n) order ≡ Some e → AllByRecursion (λ x. x.session ≡ n → x.name ≡ e.name) order
unique n [] e rises found = tt
unique n (x ∷ rest) e rises found =
    elim (cases_eq x.session n) [
      | inl hit ↦
          let is : Some x ≡ Some e = sym (rw (eq-eqb x.session n hit) refl) ∙ found in
          ((λ same. ap (λ (y : Entry). y.name) (same-some x e is)), others rest rises.0 hit)
      | inr miss ↦ ((λ same. absurd (miss same)), unique n rest e rises.1 (sym (rw (ne_eqb x.session n miss) refl) ∙ found))
    ]
  where
    others : (ys : List Entry) → AllByRecursion (λ y. x.session < y.session) ys → x.session ≡ n → AllByRecursion (λ y. y.session ≡ n → y.name ≡ e.name) ys
    others [] above hit = tt
    others (y ∷ ys) above hit = ((λ same. absurd (omega (arith, above.0, hit, same))), others ys above.1 hit)

module _ (places : List Pending) where
  pub under-none : (n k : ℕ) (order : List Entry) → Rising order → AllByRecursion (Agrees places) order → n ≡ (place places k).session
      → ((e : Entry) → find (λ x. eqb x.session n) order ≡ Some e → e.name ≡ k → ⊥) → find (λ x. eqb x.name k) order ≡ None
  under-none n k [] rises agree is none = refl
  under-none n k (x ∷ rest) rises agree is none =
      elim (cases_eq x.name k) [
        | inl here ↦
            let hit : x.session ≡ n = sym agree.0.session ∙ ap (λ (i : ℕ). (place places i).session) here ∙ sym is in
            absurd (none x (rw (eq-eqb x.session n hit) refl) here)
        | inr other ↦ rw (ne_eqb x.name k other) (under-none n k rest rises.1 agree.1 is (λ e found same. elim (cases_eq x.session n) [
          | inl hit ↦ none-past n x.session rest e rises.0 (sym hit) found
          | inr miss ↦ none e (rw (ne_eqb x.session n miss) found) same
        ]))
      ]

  -- ---- another request in a place

  pub set-other : (k : ℕ) (p : Pending) (order : List Entry) → find (λ x. eqb x.name k) order ≡ None → AllByRecursion (λ e. request_of (set places k p) e ≡ request_of places e) order
  set-other k p [] none = tt
  set-other k p (x ∷ rest) none =
      elim (cases_eq x.name k) [
        | inl here ↦ absurd (some-none x (sym (rw (eq-eqb x.name k here) refl) ∙ none))
        | inr other ↦ (get_or-set_other places k x.name p no_request other, set-other k p rest (sym (rw (ne_eqb x.name k other) refl) ∙ none))
      ]

  pub set-older : (n k : ℕ) (order : List Entry) → k < length places → AllByRecursion (λ x. x.session ≡ n → x.name ≡ k) order → AllByRecursion (Agrees places) order → (place places k).session ≡ n
      → map (λ p. cond (eqb p.session n) (older p) p) (map (request_of places) order) ≡ map (request_of (set places k (older (place places k)))) order
  set-older n k [] within one agree is = refl
  set-older n k (x ∷ rest) within one agree is =
      elim (cases_eq x.session n) [
        | inl hit ↦
            let here : x.name ≡ k = one.0 hit in
            let first : cond (eqb (request_of places x).session n) (older (request_of places x)) (request_of places x) ≡ request_of (set places k (older (place places k))) x =
            rw (eq-eqb (request_of places x).session n (agree.0.session ∙ hit), here) (sym (get_or-set_same places k (older (place places k)) no_request within)) in
            rw (first, set-older n k rest within one.1 agree.1 is) refl
        | inr miss ↦
            let other : x.name ≡ k → ⊥ = λ here. miss (sym agree.0.session ∙ ap (λ (i : ℕ). (place places i).session) here ∙ is) in
            let first : cond (eqb (request_of places x).session n) (older (request_of places x)) (request_of places x) ≡ request_of (set places k (older (place places k))) x =
            rw (ne_eqb (request_of places x).session n (λ same. miss (sym agree.0.session ∙ same))) (sym (get_or-set_other places k x.name (older (place places k)) no_request other)) in
            rw (first, set-older n k rest within one.1 agree.1 is) refl
      ]

  pub agree-older : (k : ℕ) (order : List Entry) → k < length places → AllByRecursion (Agrees places) order → AllByRecursion (Agrees (set places k (older (place places k)))) order
  agree-older k [] within agree = tt
  agree-older k (x ∷ rest) within agree = (
    elim (cases_eq x.name k) [
      | inl here ↦
          let is : request_of (set places k (older (place places k))) x ≡ older (request_of places x) = rw here (get_or-set_same places k (older (place places k)) no_request within) in
          record { session = ap (λ (p : Pending). p.session) is ∙ agree.0.session; name = ap (λ (p : Pending). p.name) is ∙ agree.0.name }
      | inr other ↦
          let is : request_of (set places k (older (place places k))) x ≡ request_of places x = get_or-set_other places k x.name (older (place places k)) no_request other in
          record { session = ap (λ (p : Pending). p.session) is ∙ agree.0.session; name = ap (λ (p : Pending). p.name) is ∙ agree.0.name }
    ],
    agree-older k rest within agree.1,
  )

-- ---- the same requests in other places

pub same-requests : (old new : List Pending) (order : List Entry) → AllByRecursion (λ e. request_of new e ≡ request_of old e) order → map (request_of new) order ≡ map (request_of old) order
same-requests old new [] same = refl
same-requests old new (e ∷ rest) same = rw (same.0, same-requests old new rest same.1) refl

pub agree-same : (old new : List Pending) (order : List Entry) → AllByRecursion (λ e. request_of new e ≡ request_of old e) order → AllByRecursion (Agrees old) order → AllByRecursion (Agrees new) order
agree-same old new [] same agree = tt
agree-same old new (e ∷ rest) same agree =
    (record { session = ap (λ (p : Pending). p.session) same.0 ∙ agree.0.session; name = ap (λ (p : Pending). p.name) same.0 ∙ agree.0.name }, agree-same old new rest same.1 agree.1)

-- a session without a request
pub older-none : (n : ℕ) (ps : List Pending) → find (λ p. eqb p.session n) ps ≡ None → map (λ p. cond (eqb p.session n) (older p) p) ps ≡ ps
older-none n [] none = refl
older-none n (p ∷ rest) none =
    elim (cases_eq p.session n) [
      | inl hit ↦ absurd (some-none p (sym (rw (eq-eqb p.session n hit) refl) ∙ none))
      | inr miss ↦ rw (ne_eqb p.session n miss) (ap (λ (qs : List Pending). p ∷ qs) (older-none n rest (sym (rw (ne_eqb p.session n miss) refl) ∙ none)))
    ]

-- ---- what the index finds

pub found-entry : (o : Option Entry) (k : ℕ) → Some k ≡ option_map (λ e. e.name) o → (e : Entry) × (o ≡ Some e) × (e.name ≡ k)
found-entry None k is = absurd (some-none k is)
found-entry (Some e) k is = (e, refl, sym (same-some k e.name is))

pub found-nothing : (o : Option Entry) → None ≡ option_map (λ e. e.name) o → o ≡ None
found-nothing None is = refl
found-nothing (Some e) is = absurd (some-none e.name (sym is))

pub session-request : (places : List Pending) (order : List Entry) (n k : ℕ) → AllByRecursion (Agrees places) order → Some k ≡ option_map (λ e. e.name) (find (λ e. eqb e.session n) order)
    → find (λ p. eqb p.session n) (map (request_of places) order) ≡ Some (place places k)
session-request places order n k agree is =
    let e = found-entry (find (λ x. eqb x.session n) order) k is in
    find-session places n order agree ∙ ap (option_map (request_of places)) e.1 ∙ ap (λ (i : ℕ). Some (place places i)) e.2

pub session-nothing : (places : List Pending) (order : List Entry) (n : ℕ) → AllByRecursion (Agrees places) order → None ≡ option_map (λ e. e.name) (find (λ e. eqb e.session n) order)
    → find (λ p. eqb p.session n) (map (request_of places) order) ≡ None
session-nothing places order n agree is =
    find-session places n order agree ∙ ap (option_map (request_of places)) (found-nothing (find (λ x. eqb x.session n) order) is)

pub name-request : (places : List Pending) (order : List Entry) (n k : ℕ) → AllByRecursion (Agrees places) order → Some k ≡ option_map (λ e. e.name) (find (λ e. eqb e.session n) order)
    → find (λ p. eqb p.name k) (map (request_of places) order) ≡ Some (place places k)
name-request places order n k agree is =
    let e = found-entry (find (λ x. eqb x.session n) order) k is in
    find-name places k order agree ∙ under-some places n k order e.0 e.1 e.2

pub name-nothing : (places : List Pending) (order : List Entry) (n k : ℕ) → Rising order → AllByRecursion (Agrees places) order → n ≡ (place places k).session
    → (Some k ≡ option_map (λ e. e.name) (find (λ e. eqb e.session n) order) → ⊥)
    → find (λ p. eqb p.name k) (map (request_of places) order) ≡ None
name-nothing places order n k rises agree is none =
    find-name places k order agree
    ∙ ap (option_map (request_of places)) (under-none places n k order rises agree is (λ e found same. none (sym (ap (option_map (λ x. x.name)) found ∙ ap (λ (i : ℕ). Some i) same))))

pub place-session : (places : List Pending) (order : List Entry) (n k : ℕ) → AllByRecursion (Agrees places) order → Some k ≡ option_map (λ e. e.name) (find (λ e. eqb e.session n) order) → (place places k).session ≡ n
place-session places order n k agree is =
    let e = found-entry (find (λ x. eqb x.session n) order) k is in
    let agrees : Agrees places e.0 = member (Agrees places) (λ x. eqb x.session n) order e.0 agree e.1 in
    ap (λ (i : ℕ). (place places i).session) (sym e.2) ∙ agrees.session ∙ passes session_of n order e.0 e.1

pub place-one : (order : List Entry) (n k : ℕ) → Rising order → Some k ≡ option_map (λ e. e.name) (find (λ e. eqb e.session n) order) → AllByRecursion (λ x. x.session ≡ n → x.name ≡ k) order
place-one order n k rises is =
    let e = found-entry (find (λ x. eqb x.session n) order) k is in
    subst (λ (i : ℕ). AllByRecursion (λ x. x.session ≡ n → x.name ≡ i) order) e.2 (unique n order e.0 rises e.1)

mapped-none : {X Y : Type 0} (f : X → Y) (o : Option X) → option_map f o ≡ None → o ≡ None
mapped-none f None is = refl
mapped-none f (Some x) is = absurd (some-none (f x) is)

pub session-new : (places : List Pending) (order : List Entry) (n : ℕ) → AllByRecursion (Agrees places) order → find (λ p. eqb p.session n) (map (request_of places) order) ≡ None → find (λ e. eqb e.session n) order ≡ None
session-new places order n agree none = mapped-none (request_of places) (find (λ e. eqb e.session n) order) (sym (find-session places n order agree) ∙ none)

pub name-new : (places : List Pending) (order : List Entry) (k : ℕ) → AllByRecursion (Agrees places) order → find (λ p. eqb p.name k) (map (request_of places) order) ≡ None → find (λ e. eqb e.name k) order ≡ None
name-new places order k agree none = mapped-none (request_of places) (find (λ e. eqb e.name k) order) (sym (find-name places k order agree) ∙ none)

-- ---- a request that is put into a free place

module _ (places : List Pending) (order : List Entry) (k : ℕ) (p : Pending) (e : Entry) (place-is : e.name ≡ k) (session : p.session ≡ e.session) (name : p.name ≡ e.name)
    (within : k < length places) (free : find (λ x. eqb x.name k) order ≡ None) (agree : AllByRecursion (Agrees places) order) where
  put-here : request_of (set places k p) e ≡ p
  put-here = ap (λ (i : ℕ). place (set places k p) i) place-is ∙ get_or-set_same places k p no_request within

  put-agrees : Agrees (set places k p) e
  put-agrees = record { session = ap (λ (q : Pending). q.session) put-here ∙ session; name = ap (λ (q : Pending). q.name) put-here ∙ name }

  put-others : AllByRecursion (Agrees (set places k p)) order
  put-others = agree-same places (set places k p) order (set-other places k p order free) agree

  pub put-all : AllByRecursion (Agrees (set places k p)) (placed session_of e order)
  put-all = agree-placed (set places k p) e order put-agrees put-others

  pub put-requests : map (request_of (set places k p)) (placed session_of e order) ≡ placed (λ r. r.session) p (map (request_of places) order)
  put-requests =
      sym (placed-map (set places k p) e order put-agrees put-others)
      ∙ ap (λ (q : Pending). placed (λ r. r.session) q (map (request_of (set places k p)) order)) put-here
      ∙ ap (placed (λ r. r.session) p) (same-requests places (set places k p) order (set-other places k p order free))

-- ---- each request is found under its name

all-more : (P Q : Entry → Type 0) → ((e : Entry) → P e → Q e) → (order : List Entry) → AllByRecursion P order → AllByRecursion Q order
all-more P Q more [] all = tt
all-more P Q more (e ∷ rest) all = (more e all.0, all-more P Q more rest all.1)

all-both : (P Q : Entry → Type 0) (order : List Entry) → AllByRecursion P order → AllByRecursion Q order → AllByRecursion (λ e. P e × Q e) order
all-both P Q [] first second = tt
all-both P Q (e ∷ rest) first second = ((first.0, second.0), all-both P Q rest first.1 second.1)

all-map : (P : Pending → Type 0) (f : Entry → Pending) (order : List Entry) → AllByRecursion (λ e. P (f e)) order → AllByRecursion P (map f order)
all-map P f [] all = tt
all-map P f (e ∷ rest) all = (all.0, all-map P f rest all.1)

own-session : (order : List Entry) → Rising order → AllByRecursion (λ e. find (λ x. eqb x.session e.session) order ≡ Some e) order
own-session [] rises = tt
own-session (x ∷ rest) rises = (
  rw (eq-eqb x.session x.session refl) refl,
  all-more (λ e. (x.session < e.session) × (find (λ y. eqb y.session e.session) rest ≡ Some e)) (λ e. find (λ y. eqb y.session e.session) (x ∷ rest) ≡ Some e)
      (λ e both. rw (ne_eqb x.session e.session (λ same. omega (arith, both.0, same))) both.1)
      rest (all-both (λ e. x.session < e.session) (λ e. find (λ y. eqb y.session e.session) rest ≡ Some e) rest rises.0 (own-session rest rises.1)),
)

rising-map : (places : List Pending) (order : List Entry) → Rising order → AllByRecursion (Agrees places) order → RisesBy (λ p. p.session) (map (request_of places) order)
rising-map places [] rises agree = tt
rising-map places (e ∷ rest) rises agree = (above rest rises.0 agree.1, rising-map places rest rises.1 agree.1)
  where
    above : (es : List Entry) → AllByRecursion (λ x. e.session < x.session) es → AllByRecursion (Agrees places) es
        → AllByRecursion (λ p. (request_of places e).session < p.session) (map (request_of places) es)
    above [] all agrees = tt
    above (x ∷ xs) all agrees = (omega (arith, all.0, agrees.0.session, agree.0.session), above xs all.1 agrees.1)

pub apart : (places : List Pending) (order : List Entry) (last : Option ℕ) → Rising order → length order ≤ MOST_WAITING → AllByRecursion (Agrees places) order
    → AreApart (record { requests = map (request_of places) order; last = last })
apart places order last rises few agree =
    let all = all-both (Agrees places) (λ e. find (λ x. eqb x.session e.session) order ≡ Some e) order agree (own-session order rises) in
    record {
      sessions = rising-map places order rises agree;
      names = all-map (λ p. find (λ q. eqb q.name p.name) (map (request_of places) order) ≡ Some p) (request_of places) order
          (all-more (λ e. Agrees places e × (find (λ x. eqb x.session e.session) order ≡ Some e))
          (λ e. find (λ q. eqb q.name (request_of places e).name) (map (request_of places) order) ≡ Some (request_of places e))
          (λ e both. find-name places (request_of places e).name order agree ∙ ap (λ (n : ℕ). option_map (request_of places) (find (λ x. eqb x.name n) order)) both.0.name
          ∙ under-some places e.session e.name order e both.1 refl)
          order all);
      few = omega (arith, few, length-map order (request_of places));
    }

-- no request has a name past the places
pub past-places : (places : List Pending) (order : List Entry) (k : ℕ) → length places ≤ k → 0 < k → AllByRecursion (Agrees places) order
    → find (λ p. eqb p.name k) (map (request_of places) order) ≡ None
past-places places order k past some agree = find-name places k order agree ∙ ap (option_map (request_of places)) (none order agree)
  where
    none : (es : List Entry) → AllByRecursion (Agrees places) es → find (λ e. eqb e.name k) es ≡ None
    none [] agrees = refl
    none (e ∷ rest) agrees =
        elim (cases_eq e.name k) [
          | inl here ↦
              let read : (place places k).name ≡ 0 = ap (λ (p : Pending). p.name) (get_or_past places k no_request past) in
              let is : (place places k).name ≡ k = ap (λ (i : ℕ). (place places i).name) (sym here) ∙ agrees.0.name ∙ here in
              absurd (omega (arith, read, is, some))
          | inr other ↦ rw (ne_eqb e.name k other) (none rest agrees.1)
        ]

-- Requests that are apart: what a look-up by session and one by name find, and that there is room while there are fewer sessions
-- than places.
use Rattle.std.proofs.Common.{◌≡◌, ℕ, ◌+◌, ◌≤◌, ◌<◌, eqb, not, cond, Bool, true, List, [], ◌∷◌, length, map, Option, Some, None, refl, sym, ap, subst, ◌∙◌, arith, inl, inr}
use Rattle.std.specs.Prelude.{find, filter, is_some}
use Rattle.std.specs.List.{AllByRecursion}
use Rattle.std.proofs.lemmas.Bool.{cases_Bool, cases_eq, eq-eqb, ne_eqb}
use Rattle.aaa_defs.specs.declared.Aged.{Aged}
use Rattle.aaa_defs.specs.declared.Aged.TheVariants.{Quiet, Resend, GaveUp}
use Rattle.aaa_defs.specs.declared.TheConstants.{MOST_WAITING}
use Rattle.aaa_defs.specs.Waits.{Pending, Waits, RisesBy, AreApart, pending_of, pending_under}
use Rattle.aaa_defs.specs.Age.{aged, aged_at, aged_request, left_of, older, after_aging, after_second}
use Rattle.aaa_defs.proofs.Round.{find-kept, filter-less}
use Rattle.aaa_defs.proofs.Waiting.{forgotten-none, forgotten-other, older-other}

some-none : {X : Type 0} (x : X) → Some x ≡ None → ⊥
some-none x e = cc

same-some : {X : Type 0} (x y : X) → Some x ≡ Some y → x ≡ y
same-some x y e = cc

-- what is found has what all have
found-has : {X : Type 0} (P : X → Type 0) (p : X → Bool) (xs : List X) (x : X) → AllByRecursion P xs → find p xs ≡ Some x → P x
found-has P p [] x all found = absurd (some-none x (sym found))
found-has P p (y ∷ rest) x all found =
    elim (cases_Bool (p y)) [
      | inl same ↦ let e : Some y ≡ Some x = sym (rw same refl) ∙ found in subst P (same-some y x e) all.0
      | inr other ↦ found-has P p rest x all.1 (sym (rw other refl) ∙ found)
    ]

-- each request is the one that is found under its session
pub own-session : (ps : List Pending) → RisesBy (λ p. p.session) ps → AllByRecursion (λ p. find (λ q. eqb q.session p.session) ps ≡ Some p) ps
own-session [] rises = tt
own-session (p ∷ rest) rises = (rw (eq-eqb p.session p.session refl) refl, others rest rises.0 (own-session rest rises.1))
  where
    others : (ps : List Pending) → AllByRecursion (λ q. p.session < q.session) ps → AllByRecursion (λ q. find (λ r. eqb r.session q.session) rest ≡ Some q) ps
        → AllByRecursion (λ q. find (λ r. eqb r.session q.session) (p ∷ rest) ≡ Some q) ps
    others [] above found = tt
    others (q ∷ qs) above found = (rw (ne_eqb p.session q.session (λ same. omega (arith, above.0, same))) found.0, others qs above.1 found.1)

-- the request under a name is that of its session, and the request of a session is the one under its name
pub name-session : (w : Waits) (name : ℕ) (p : Pending) → AreApart w → pending_under name w ≡ Some p → pending_of p.session w ≡ Some p
name-session w name p apart found =
    found-has (λ q. pending_of q.session w ≡ Some q) (λ q. eqb q.name name) w.requests p (own-session w.requests apart.sessions) found

pub session-name : (w : Waits) (session : ℕ) (p : Pending) → AreApart w → pending_of session w ≡ Some p → pending_under p.name w ≡ Some p
session-name w session p apart found = found-has (λ q. pending_under q.name w ≡ Some q) (λ q. eqb q.session session) w.requests p apart.names found

-- ---- room

-- a number is one of these
abbrev pub IsAmong : ℕ → List ℕ → Type 0
IsAmong n numbers = is_some (find (λ m. eqb m n) numbers) ≡ true

among-left : (n m : ℕ) (numbers : List ℕ) → (m ≡ n → ⊥) → IsAmong m numbers → IsAmong m (filter (λ k. not (eqb k n)) numbers)
among-left n m numbers other among = ap is_some (find-kept (λ (k : ℕ). k) m n numbers other) ∙ among

-- rising numbers that are each one of these are no more than these
no-more : (ps : List Pending) (numbers : List ℕ) → RisesBy (λ p. p.session) ps → AllByRecursion (λ p. IsAmong p.session numbers) ps → length ps ≤ length numbers
no-more [] numbers rises among = omega arith
no-more (p ∷ rest) numbers rises among =
    let left : List ℕ = filter (λ k. not (eqb k p.session)) numbers in
    omega (arith, no-more rest left rises.1 (others rest rises.0 among.1), filter-less (λ (k : ℕ). k) p.session numbers among.0)
  where
    others : (ps : List Pending) → AllByRecursion (λ q. p.session < q.session) ps → AllByRecursion (λ q. IsAmong q.session numbers) ps
        → AllByRecursion (λ q. IsAmong q.session (filter (λ k. not (eqb k p.session)) numbers)) ps
    others [] above among = tt
    others (q ∷ qs) above among = (among-left p.session q.session numbers (λ same. omega (arith, above.0, same)) among.0, others qs above.1 among.1)

-- where a session of these has nothing pending, and each request is of one of these, there are fewer requests than these
pub fewer-requests : (w : Waits) (numbers : List ℕ) (n : ℕ) → RisesBy (λ p. p.session) w.requests → AllByRecursion (λ p. IsAmong p.session numbers) w.requests
    → IsAmong n numbers → pending_of n w ≡ None → length w.requests < length numbers
fewer-requests w numbers n rises among is none =
    omega (arith, no-more w.requests (filter (λ k. not (eqb k n)) numbers) rises (others w.requests none among), filter-less (λ (k : ℕ). k) n numbers is)
  where
    others : (ps : List Pending) → find (λ p. eqb p.session n) ps ≡ None → AllByRecursion (λ p. IsAmong p.session numbers) ps
        → AllByRecursion (λ p. IsAmong p.session (filter (λ k. not (eqb k n)) numbers)) ps
    others [] none among = tt
    others (p ∷ rest) none among =
        elim (cases_eq p.session n) [
          | inl same ↦ absurd (some-none p (sym (rw (eq-eqb p.session n same) refl) ∙ none))
          | inr other ↦ (among-left n p.session numbers other among.0, others rest (sym (rw (ne_eqb p.session n other) refl) ∙ none) among.1)
        ]

-- so with no more of these than places there is room to ask
pub room-to-ask : (w : Waits) (numbers : List ℕ) (n : ℕ) → AreApart w → length numbers ≤ MOST_WAITING → AllByRecursion (λ p. IsAmong p.session numbers) w.requests
    → IsAmong n numbers → pending_of n w ≡ None → length w.requests < MOST_WAITING
room-to-ask w numbers n apart few among is none = omega (arith, few, fewer-requests w numbers n apart.sessions among is none)

-- ---- ages

older-found : (n : ℕ) (ps : List Pending) (p : Pending) → find (λ q. eqb q.session n) ps ≡ Some p
    → find (λ q. eqb q.session n) (map (λ q. cond (eqb q.session n) (older q) q) ps) ≡ Some (older p)
older-found n [] p found = absurd (some-none p (sym found))
older-found n (q ∷ rest) p found =
    elim (cases_eq q.session n) [
      | inl here ↦
          let e : Some q ≡ Some p = sym (rw (eq-eqb q.session n here) refl) ∙ found in
          rw (eq-eqb q.session n here) (rw (eq-eqb q.session n here) (ap (λ (r : Pending). Some (older r)) (same-some q p e)))
      | inr other ↦ rw (ne_eqb q.session n other) (rw (ne_eqb q.session n other) (older-found n rest p (sym (rw (ne_eqb q.session n other) refl) ∙ found)))
    ]

older-none : (n : ℕ) (ps : List Pending) → find (λ q. eqb q.session n) ps ≡ None → find (λ q. eqb q.session n) (map (λ q. cond (eqb q.session n) (older q) q) ps) ≡ None
older-none n [] none = refl
older-none n (q ∷ rest) none =
    elim (cases_eq q.session n) [
      | inl here ↦ absurd (some-none q (sym (rw (eq-eqb q.session n here) refl) ∙ none))
      | inr other ↦ rw (ne_eqb q.session n other) (rw (ne_eqb q.session n other) (older-none n rest (sym (rw (ne_eqb q.session n other) refl) ∙ none)))
    ]

-- after a second of a session its request is a second older, or given up; the requests of the others are as they were
pub second-own : (n : ℕ) (w : Waits) → pending_of n (after_second n w) ≡ aged_request (pending_of n w)
second-own n w = by_request (pending_of n w) refl
  where
    by_word : (p : Pending) → pending_of n w ≡ Some p → (told : Aged) → pending_of n (after_aging told n w) ≡ left_of told p
    by_word p is GaveUp = forgotten-none n w
    by_word p is Resend = older-found n w.requests p is
    by_word p is Quiet = older-found n w.requests p is

    by_request : (o : Option Pending) → pending_of n w ≡ o → pending_of n (after_aging (aged o) n w) ≡ aged_request o
    by_request None is = older-none n w.requests is
    by_request (Some p) is = by_word p is (aged_at (p.age + 1))

pub second-other : (n m : ℕ) (w : Waits) → (m ≡ n → ⊥) → pending_of m (after_second n w) ≡ pending_of m w
second-other n m w other = by_word (aged (pending_of n w))
  where
    by_word : (told : Aged) → pending_of m (after_aging told n w) ≡ pending_of m w
    by_word GaveUp = forgotten-other n m w other
    by_word Resend = older-other n m w other
    by_word Quiet = older-other n m w other

-- What a change to the requests that wait means for the request of each session.
use Rattle.std.proofs.Common.{◌≡◌, ℕ, suc, ◌≤◌, eqb, not, cond, List, [], ◌∷◌, length, map, Option, Some, None, refl, sym, ap, ◌∙◌, inl, inr}
use Rattle.std.specs.Prelude.{find, filter}
use Rattle.std.proofs.lemmas.Bool.{cases_eq, cases_lt, eq-eqb, ne_eqb, lt-ltb, le-ltb}
use Rattle.aaa_defs.specs.Waits.{Pending, Waits, pending_of, placed, with_request, forgotten}
use Rattle.aaa_defs.specs.Age.{older, with_older}
use Rattle.aaa_defs.proofs.Round.{find-kept, filter-fewer}

none-left : (n : ℕ) (ps : List Pending) → find (λ p. eqb p.session n) (filter (λ p. not (eqb p.session n)) ps) ≡ None
none-left n [] = refl
none-left n (p ∷ rest) =
    elim (cases_eq p.session n) [
      | inl here ↦ rw (eq-eqb p.session n here) (none-left n rest)
      | inr other ↦ rw (ne_eqb p.session n other) (rw (ne_eqb p.session n other) (none-left n rest))
    ]

-- a session whose request is forgotten has none; the others have theirs
pub forgotten-none : (n : ℕ) (w : Waits) → pending_of n (forgotten n w) ≡ None
forgotten-none n w = none-left n w.requests

pub forgotten-other : (n m : ℕ) (w : Waits) → (m ≡ n → ⊥) → pending_of m (forgotten n w) ≡ pending_of m w
forgotten-other n m w other = find-kept (λ (p : Pending). p.session) m n w.requests other

pub forgotten-fewer : (n : ℕ) (w : Waits) → length (forgotten n w).requests ≤ length w.requests
forgotten-fewer n w = filter-fewer (λ (p : Pending). p.session) n w.requests

some-none : {X : Type 0} (x : X) → Some x ≡ None → ⊥
some-none x e = cc

placed-found : (p : Pending) (ps : List Pending) → find (λ q. eqb q.session p.session) ps ≡ None → find (λ q. eqb q.session p.session) (placed (λ q. q.session) p ps) ≡ Some p
placed-found p [] none = rw (eq-eqb p.session p.session refl) refl
placed-found p (q ∷ rest) none =
    elim (cases_eq q.session p.session) [
      | inl here ↦ absurd (some-none q (sym (rw (eq-eqb q.session p.session here) refl) ∙ none))
      | inr other ↦
          let left : find (λ x. eqb x.session p.session) rest ≡ None = sym (rw (ne_eqb q.session p.session other) refl) ∙ none in
          elim (cases_lt p.session q.session) [
            | inl less ↦ rw (lt-ltb p.session q.session less) (rw (eq-eqb p.session p.session refl) refl)
            | inr least ↦ rw (le-ltb p.session q.session least) (rw (ne_eqb q.session p.session other) (placed-found p rest left))
          ]
    ]

placed-kept : (p : Pending) (m : ℕ) (ps : List Pending) → (p.session ≡ m → ⊥) → find (λ q. eqb q.session m) (placed (λ q. q.session) p ps) ≡ find (λ q. eqb q.session m) ps
placed-kept p m [] other = rw (ne_eqb p.session m other) refl
placed-kept p m (q ∷ rest) other =
    elim (cases_lt p.session q.session) [
      | inl less ↦ rw (lt-ltb p.session q.session less) (rw (ne_eqb p.session m other) refl)
      | inr least ↦ rw (le-ltb p.session q.session least) (ap (λ (o : Option Pending). cond (eqb q.session m) (Some q) o) (placed-kept p m rest other))
    ]

pub placed_length : (p : Pending) (ps : List Pending) → length (placed (λ q. q.session) p ps) ≡ suc (length ps)
placed_length p [] = refl
placed_length p (q ∷ rest) =
    elim (cases_lt p.session q.session) [
      | inl less ↦ rw (lt-ltb p.session q.session less) refl
      | inr least ↦ rw (le-ltb p.session q.session least) (ap suc (placed_length p rest))
    ]

-- a session that asked has that request; the others have theirs
pub asked-found : (p : Pending) (w : Waits) → pending_of p.session w ≡ None → pending_of p.session (with_request p w) ≡ Some p
asked-found p w none = placed-found p w.requests none

pub asked-other : (p : Pending) (m : ℕ) (w : Waits) → (p.session ≡ m → ⊥) → pending_of m (with_request p w) ≡ pending_of m w
asked-other p m w other = placed-kept p m w.requests other

pub asked-more : (p : Pending) (w : Waits) → length (with_request p w).requests ≡ suc (length w.requests)
asked-more p w = placed_length p w.requests

older-kept : (n m : ℕ) (ps : List Pending) → (m ≡ n → ⊥) → find (λ p. eqb p.session m) (map (λ p. cond (eqb p.session n) (older p) p) ps) ≡ find (λ p. eqb p.session m) ps
older-kept n m [] other = refl
older-kept n m (p ∷ rest) other =
    elim (cases_eq p.session n) [
      | inl here ↦ rw (eq-eqb p.session n here) (rw (ne_eqb p.session m (λ same. other (sym same ∙ here))) (older-kept n m rest other))
      | inr differ ↦ rw (ne_eqb p.session n differ) (ap (λ (o : Option Pending). cond (eqb p.session m) (Some p) o) (older-kept n m rest other))
    ]

-- a second of one session leaves the others' requests as they are
pub older-other : (n m : ℕ) (w : Waits) → (m ≡ n → ⊥) → pending_of m (with_older n w) ≡ pending_of m w
older-other n m w other = older-kept n m w.requests other

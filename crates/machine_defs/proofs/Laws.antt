-- The first enabled row of a table is its enabled row of least number, and where there is none no row is enabled.
use Rattle.std.proofs.Common.{◌≡◌, ℕ, ◌≤◌, Bool, true, false, List, [], ◌∷◌, inl, inr, Option, Some, None, refl, subst, sym, ◌∙◌, arith}
use Rattle.std.specs.Prelude.{nat_le, ◌&&◌}
use Rattle.std.proofs.lemmas.Bool.Decides.{nat_tests}
use Rattle.machine_vars.specs.declared.vars.Vars.{Vars}
use Rattle.machine_vars.specs.declared.states.Row.{Row}
use Rattle.machine_defs.specs.Table.{Line, Has, number, TakesLeast, TakesFirst, first_enabled, is_enabled}
use Rattle.machine_defs.specs.PaeTable.{pae_table}
use Rattle.machine_defs.specs.BackendTable.{backend_table}
use Rattle.machine_defs.specs.ReauthTable.{reauth_table}
use Rattle.machine_defs.specs.EapTable.{eap_table}

some_line : {a b : Line} → Some a ≡ Some b → a ≡ b
some_line h = cc

pub first_has : (ls : List Line) (v : Vars) (l : Line) → first_enabled ls v ≡ Some l → Has l ls × (is_enabled l v ≡ true)
first_has [] v l h = cc
first_has (x ∷ ls) v l h = by_test (is_enabled x v) refl (λ e. first_has ls v l e)
  where
    by_test : (b : Bool) → is_enabled x v ≡ b → (first_enabled ls v ≡ Some l → Has l ls × (is_enabled l v ≡ true)) → Has l (x ∷ ls) × (is_enabled l v ≡ true)
    by_test true e more =
        let same : x ≡ l = some_line (rw e at h) in
        let Q : Line → Type 0 = λ y. is_enabled y v ≡ true in
        (inl (sym same), subst Q same e)
    by_test false e more = let m = more (rw e at h) in (inr m.0, m.1)

pub none_enabled : (ls : List Line) (v : Vars) → first_enabled ls v ≡ None → (l : Line) → Has l ls → is_enabled l v ≡ false
none_enabled [] v h l p = absurd p
none_enabled (x ∷ ls) v h l p = by_test (is_enabled x v) refl p (λ e q. none_enabled ls v e l q)
  where
    by_test : (b : Bool) → is_enabled x v ≡ b → Has l (x ∷ ls) → (first_enabled ls v ≡ None → Has l ls → is_enabled l v ≡ false) → is_enabled l v ≡ false
    by_test true e p more = let left : Some x ≡ None = rw e at h in cc
    by_test false e (inl same) more = let Q : Line → Type 0 = λ y. is_enabled y v ≡ false in subst Q (sym same) e
    by_test false e (inr q) more = more (rw e at h) q

-- ---- the rows stand in the order of their numbers

-- no number in the table is below this one
abbrev pub from : ℕ → List Line → Bool
from n [] = true
from n (x ∷ xs) = nat_le n (number x.name) && from n xs

abbrev pub rising : List Line → Bool
rising [] = true
rising (x ∷ xs) = from (number x.name) xs && rising xs

pub pae_rising : rising pae_table ≡ true
pae_rising = refl

pub backend_rising : rising backend_table ≡ true
backend_rising = refl

pub reauth_rising : rising reauth_table ≡ true
reauth_rising = refl

pub eap_rising : rising eap_table ≡ true
eap_rising = refl

both : (a b : Bool) → a && b ≡ true → (a ≡ true) × (b ≡ true)
both true b h = (refl, h)
both false b h = cc

at_least : (n m : ℕ) → nat_le n m ≡ true → n ≤ m
at_least n m h = grind (arith, nat_tests)

from_has : (n : ℕ) (ls : List Line) (l : Line) → from n ls ≡ true → Has l ls → n ≤ number l.name
from_has n [] l h p = absurd p
from_has n (x ∷ ls) l h (inl same) = let Q : Line → Type 0 = λ y. n ≤ number y.name in subst Q (sym same) (at_least n (number x.name) (both _ _ h).0)
from_has n (x ∷ ls) l h (inr p) = from_has n ls l (both _ _ h).1 p

le_self : (n : ℕ) → n ≤ n
le_self n = omega arith

true_false : {b : Bool} → b ≡ true → b ≡ false → ⊥
true_false h k = let e : true ≡ false = sym h ∙ k in cc

pub least_first : (ls : List Line) → rising ls ≡ true → (v : Vars) (l : Line) → first_enabled ls v ≡ Some l → (m : Line) → Has m ls → is_enabled m v ≡ true → number l.name ≤ number m.name
least_first [] o v l h m p k = absurd p
least_first (x ∷ ls) o v l h m p k = by_test (is_enabled x v) refl p (λ e q. least_first ls (both _ _ o).1 v l e m q k)
  where
    by_test : (b : Bool) → is_enabled x v ≡ b → Has m (x ∷ ls) → (first_enabled ls v ≡ Some l → Has m ls → number l.name ≤ number m.name) → number l.name ≤ number m.name
    by_test true e (inl same) more =
        let a : x ≡ l = some_line (rw e at h) in
        let Q : Line → Type 0 = λ y. number y.name ≤ number m.name in
        let R : Line → Type 0 = λ y. number y.name ≤ number m.name in
        subst Q a (subst R same (le_self (number m.name)))
    by_test true e (inr q) more =
        let a : x ≡ l = some_line (rw e at h) in
        let Q : Line → Type 0 = λ y. number y.name ≤ number m.name in
        subst Q a (from_has (number x.name) ls m (both _ _ o).0 q)
    by_test false e (inl same) more = let Q : Line → Type 0 = λ y. is_enabled y v ≡ true in absurd (true_false (subst Q same k) e)
    by_test false e (inr q) more = more (rw e at h) q

some_row : {a b : Row} → Some a ≡ Some b → a ≡ b
some_row h = cc

some_none : {r : Row} → Some r ≡ None → ⊥
some_none h = cc

-- a step that answers a row has taken the enabled row of least number
pub takes_least : (ls : List Line) → rising ls ≡ true → (v w : Vars) (r : Row) → TakesFirst ls v (Some r) w → TakesLeast ls v r w
takes_least ls o v w r h = by_first (first_enabled ls v) refl
  where
    by_first : (f : Option Line) → first_enabled ls v ≡ f → TakesLeast ls v r w
    by_first None e = let no = rw (e, TakesFirst) at h in absurd (some_none no.0)
    by_first (Some l) e =
        let k = rw (e, TakesFirst) at h in
        let name : l.name ≡ r = sym (some_row k.0) in
        let has = first_has ls v l e in
        record {
          sent = l.sends v;
          taken = (l, has.0, name, has.1, k.1, refl);
          least = λ m p q. (let Q : Row → Type 0 = λ x. number x ≤ number m.name in subst Q name (least_first ls o v l e m p q));
        }

-- a step that answers none has found no row enabled, and changed nothing
pub takes_none : (ls : List Line) (v w : Vars) → TakesFirst ls v None w → (w ≡ v) × ((l : Line) → Has l ls → is_enabled l v ≡ false)
takes_none ls v w h = by_first (first_enabled ls v) refl
  where
    by_first : (f : Option Line) → first_enabled ls v ≡ f → (w ≡ v) × ((l : Line) → Has l ls → is_enabled l v ≡ false)
    by_first None e = let k = rw (e, TakesFirst) at h in (k.1, λ l p. none_enabled ls v e l p)
    by_first (Some l) e = let no = rw (e, TakesFirst) at h in absurd (some_none (sym no.0))

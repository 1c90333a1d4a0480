-- Addresses that are apart, each of a host on the port, are no more than the port has hosts.
use Rattle.std.proofs.Common.{◌≡◌, ℕ, suc, ◌≤◌, refl, sym, ◌∙◌, List, [], ◌∷◌, length, filter, None, Some, Bool, true, false, arith, cond, not}
use Rattle.std.specs.Prelude.{find}
use Rattle.std.specs.Cmp.{unsigned_Decides}
use Rattle.std.specs.Str.{bytes_eq}
use Rattle.switch_defs.specs.Switch.{Host, is_at, same_key}
use Rattle.switch_defs.specs.Sound.{host_on}
use Rattle.switch_defs.proofs.Lists.{first_kept, key_apart, key_equal, key_flip}
use Rattle.switch_defs.proofs.Hosts.{fewer_left}
use Rattle.table_defs.specs.Table.{Held, holds, AreKeys}

-- each is of a host on the port
abbrev pub AreOf : ℕ → List Held → List Host → Type 0
AreOf p [] hs = Unit {0}
AreOf p (e ∷ es) hs = (find (is_at p e.address) hs ≡ None → ⊥) × AreOf p es hs

abbrev other : ℕ → Held → Host → Bool
other p e h = not (is_at p e.address h)

-- on one port keys are alike where addresses are
pub key_on : (p : ℕ) (a b : List ℕ) → same_key p a p b ≡ bytes_eq a b
key_on p a b = rw ((unsigned_Decides p p).1 refl) refl

one_fewer : (p : ℕ) (e : Held) (hs : List Host) → (find (is_at p e.address) hs ≡ None → ⊥) → suc (length (filter (host_on p) (filter (other p e) hs))) ≤ length (filter (host_on p) hs)
one_fewer p e [] found = absurd (found refl)
one_fewer p e (h ∷ hs) found =
    elim (is_at p e.address h) as (λ b. is_at p e.address h ≡ b → (cond b (Some h) (find (is_at p e.address) hs) ≡ None → ⊥) →
    suc (length (filter (host_on p) (cond (not b) (h ∷ filter (other p e) hs) (filter (other p e) hs)))) ≤ length (cond (host_on p h) (h ∷ filter (host_on p) hs) (filter (host_on p) hs))) [
      | true ↦ λ w f.
          let k = key_equal h.port h.address p e.address w in
          let here : host_on p h ≡ true = (unsigned_Decides h.port p).1 k.0 in
          let l : length (filter (host_on p) (filter (other p e) hs)) ≤ length (filter (host_on p) hs) = fewer_left (host_on p) (other p e) hs in
          rw here (omega arith)
      | false ↦ λ w f.
          let l : suc (length (filter (host_on p) (filter (other p e) hs))) ≤ length (filter (host_on p) hs) = one_fewer p e hs f in
          elim (host_on p h) as (λ c. suc (length (cond c (h ∷ filter (host_on p) (filter (other p e) hs)) (filter (host_on p) (filter (other p e) hs)))) ≤ length (cond c (h ∷ filter (host_on p) hs) (filter (host_on p) hs))) [ true ↦ omega arith | false ↦ l ]
    ] refl found

-- the others are still found once one host is left out
still_by : (p : ℕ) (e d : Held) (es : List Held) (hs : List Host) (b : Bool) → holds e.address d ≡ b → cond b (Some d) (find (holds e.address) es) ≡ None → AreOf p (d ∷ es) hs →
    (find (holds e.address) es ≡ None → AreOf p es (filter (other p e) hs)) → AreOf p (d ∷ es) (filter (other p e) hs)
still_by p e d es hs true w n a f = cc
still_by p e d es hs false w n a f =
    let differ : same_key p e.address p d.address ≡ false = key_flip p d.address p e.address (key_on p d.address e.address ∙ w) in
    let same : find (is_at p d.address) (filter (other p e) hs) ≡ find (is_at p d.address) hs =
    first_kept (is_at p d.address) (is_at p e.address) hs (λ h k. key_apart p d.address p e.address h.port h.address differ k) in
    (λ m. a.0 (sym same ∙ m), f n)

still_of : (p : ℕ) (e : Held) (es : List Held) (hs : List Host) → find (holds e.address) es ≡ None → AreOf p es hs → AreOf p es (filter (other p e) hs)
still_of p e [] hs n a = tt
still_of p e (d ∷ es) hs n a = still_by p e d es hs (holds e.address d) refl n a (λ m. still_of p e es hs m a.1)

pub few_held : (p : ℕ) (es : List Held) (hs : List Host) → AreKeys es → AreOf p es hs → length es ≤ length (filter (host_on p) hs)
few_held p [] hs a o = omega arith
few_held p (e ∷ es) hs a o =
    let l : length es ≤ length (filter (host_on p) (filter (other p e) hs)) = few_held p es (filter (other p e) hs) a.1 (still_of p e es hs a.0 o.1) in
    let m : suc (length (filter (host_on p) (filter (other p e) hs))) ≤ length (filter (host_on p) hs) = one_fewer p e hs o.0 in
    omega (arith, l, m)

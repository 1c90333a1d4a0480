-- A machine as the table of its rows (IEEE Std 802.1X-2004, 8.2.1).
use Rattle.std.specs.Prelude.{◌≡◌, ℕ, zero, suc, ◌≤◌, Bool, true, false, ◌&&◌, not, if◌then◌else◌, List, [], ◌∷◌, ◌⊎◌, Option, None, Some, MatchOption}
use Rattle.machine_vars.specs.declared.vars.Vars.{Vars}
use Rattle.machine_vars.specs.declared.states.Row.{Row}
use Rattle.machine_vars.specs.declared.states.Row.TheVariants.{P, B, A, E}

-- a row: its name, its condition, what it leaves, and the EAP packets that it sends
pub record Line : Type 0 where
  pub name : Row
  pub condition : Vars → Bool
  pub after : Vars → Vars
  pub sends : Vars → List (List ℕ)

-- a row is enabled where its condition holds; none is once the session is gone
abbrev pub is_enabled : Line → Vars → Bool
is_enabled l v = not v.gone && l.condition v

-- a table has a row
abbrev pub Has : Line → List Line → Type 0
Has l [] = ⊥
Has l (x ∷ xs) = (l ≡ x) ⊎ Has l xs

-- a row of the table has the name r and is enabled in v; after it v is w, and these packets are sent
abbrev pub IsRow : List Line → Row → Vars → Vars → List (List ℕ) → Type 0
IsRow ls r v w sent =
    (l : Line) × Has l ls × (l.name ≡ r) × (is_enabled l v ≡ true) × (w ≡ l.after v) × (sent ≡ l.sends v)

-- the number of a row in its table
abbrev pub number : Row → ℕ
number (P n) = n
number (B n) = n
number (A n) = n
number (E n) = n

-- r is the enabled row of least number in v, and v is w after it
pub record TakesLeast (ls : List Line) (v : Vars) (r : Row) (w : Vars) : Type 0 where
  pub sent : List (List ℕ)
  pub taken : IsRow ls r v w sent
  pub least : (l : Line) → Has l ls → is_enabled l v ≡ true → number r ≤ number l.name

-- the first row that is enabled
abbrev pub first_enabled : List Line → Vars → Option Line
first_enabled [] v = None
first_enabled (l ∷ ls) v = if is_enabled l v then Some l else first_enabled ls v

-- from v a step may answer r and leave w: the first enabled row was taken, or there is none
abbrev pub TakesFirst : List Line → Vars → Option Row → Vars → Type 0
TakesFirst ls v r w =
    MatchOption (first_enabled ls v) ((r ≡ None) × (w ≡ v)) (λ l. (r ≡ Some l.name) × (w ≡ l.after v))

-- a timer has run out
abbrev pub is_zero : ℕ → Bool
is_zero zero = true
is_zero (suc n) = false

-- What chains of rows are, for examples that compute.
use Rattle.std.proofs.Common.{◌≡◌, ℕ, zero, suc, true, List, [], ◌∷◌, ◌++◌, Some, None}
use Rattle.machine_vars.specs.declared.vars.Vars.{Vars}
use Rattle.machine_vars.specs.declared.control.Times.{Times}
use Rattle.machine_vars.specs.declared.states.Row.{Row}
use Rattle.machine_defs.specs.Table.{Line}
use Rattle.machine_defs.specs.Settling.{next}

pub record Walk : Type 0 where
  pub rows : List Row
  pub packets : List (List ℕ)
  pub vars : Vars

abbrev pub before : Line → Vars → Walk → Walk
before l v w = record { rows = l.name ∷ w.rows; packets = l.sends v ++ w.packets; vars = w.vars }

-- at most n rows from a value
abbrev pub walk : ℕ → Vars → Walk
walk zero v = record { rows = []; packets = []; vars = v }
walk (suc n) v = elim (next v) [ None ↦ record { rows = []; packets = []; vars = v } | Some l ↦ before l v (walk n (l.after v)) ]

abbrev pub Walks : ℕ → Vars → List Row → List (List ℕ) → Vars → Type 0
Walks n v rows packets w = walk n v ≡ record { rows = rows; packets = packets; vars = w }

-- the next row alone
abbrev pub Steps : Vars → Row → List (List ℕ) → Vars → Type 0
Steps v row packets w = Walks 1 v (row ∷ []) packets w

abbrev pub own : List ℕ
own = 2 ∷ 0 ∷ 0 ∷ 1 ∷ 1 ∷ 1 ∷ []

abbrev pub peer : List ℕ
peer = 2 ∷ 0 ∷ 0 ∷ 0 ∷ 0 ∷ 170 ∷ []

abbrev pub times : Times
times = record { quiet = 2; server = 3; reauth_max = 1; reauth_period = 2; reauth = true }

-- the next row, what it sends, and what it changes
abbrev pub Does : Row → Vars → List (List ℕ) → (Vars → Vars) → Type 0
Does row v packets change = Steps v row packets (change v)

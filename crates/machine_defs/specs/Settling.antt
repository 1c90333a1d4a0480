-- What the four machines do together: rows are taken one after another, until none is enabled.
use Rattle.std.specs.Prelude.{◌≡◌, ℕ, List, [], ◌∷◌, ◌++◌, Option, None, Some, MatchOption}
use Rattle.machine_vars.specs.declared.vars.Vars.{Vars}
use Rattle.machine_vars.specs.declared.states.Row.{Row}
use Rattle.machine_defs.specs.Table.{Line, first_enabled}
use Rattle.machine_defs.specs.PaeTable.{pae_table}
use Rattle.machine_defs.specs.BackendTable.{backend_table}
use Rattle.machine_defs.specs.ReauthTable.{reauth_table}
use Rattle.machine_defs.specs.EapTable.{eap_table}

-- the rows in the order in which they are looked through
abbrev pub all_rows : List Line
all_rows = pae_table ++ backend_table ++ reauth_table ++ eap_table

-- the row that is taken next; there is none once the session is gone
abbrev pub next : Vars → Option Line
next v = first_enabled all_rows v

-- a chain of rows, each the next, leads from one value to another that has no next; with the packets
-- that were sent
pub data Settles : Vars → List Row → List (List ℕ) → Vars → Type 0 where
  rests : {v : Vars} → next v ≡ None → Settles v [] [] v
  takes : {v w : Vars} {rows : List Row} {sent : List (List ℕ)} (l : Line) → next v ≡ Some l →
      Settles (l.after v) rows sent w →
      Settles v (l.name ∷ rows) (l.sends v ++ sent) w

-- from v the next row may be r and leave w, or there is none
abbrev pub TakesNext : Vars → Option Row → Vars → Type 0
TakesNext v r w = MatchOption (next v) ((r ≡ None) × (w ≡ v)) (λ l. (r ≡ Some l.name) × (w ≡ l.after v))

-- what a chain leads to: the variables at its end, and the EAP packets that were sent, in order
pub record Rest : Type 0 where
  pub vars : Vars
  pub packets : List (List ℕ)

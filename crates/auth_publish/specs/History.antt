-- The rule of the history of changes, and what its one step tells.
use Rattle.std.specs.Prelude.{ℕ, ◌≡◌, ◌==◌, true, List, [], ◌∷◌, ◌++◌, length, MatchBool}
use Rattle.logbook.specs.Pages.{Cell, Step, View, Book, Named}
use Rattle.table_defs.specs.Table.{Change}
use Rattle.auth_publish.specs.Changes.{finish_is_last}

-- the first word is the length of the history. A book has two words, of which this one leaves the
-- second at 0
pub record IsKept (cells : List Cell) (log : List Change) : Type 0 where
  pub words : cells ≡ (length log, true) ∷ (0, true) ∷ []
  pub last : finish_is_last log ≡ true

abbrev pub head_of : Book → Named
head_of b = record { tracked = true; key = 0; book = b }

-- where the history was what had been seen, the change was added to it
abbrev pub Adds : Step Change → View Change ℕ → ℕ → View Change ℕ → Type 0
Adds s v found w = MatchBool (found == s.old) (w.0 ≡ v.0 ++ s.ask ∷ []) (Unit {0})

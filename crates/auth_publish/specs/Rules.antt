-- The rule of the published value, and what each step tells.
use Rattle.std.specs.Prelude.{◌≡◌, ◌⊎◌, ℕ, true, List, [], Option, Some, None}
use mathlib.Core.Option.{some}
use lib.ListN.{get_elem?}
use Rattle.logbook.specs.Pages.{Book}
use Rattle.table_defs.specs.Table.{Table, changed_by}
use Rattle.auth_publish.specs.Changes.{finish_is_last}
use Rattle.atomic_table.specs.declared.shared.Seat.{Seat}
use Rattle.left_right.specs.Sides.{view}
use Rattle.left_right.specs.declared.part.Part.{Part}
use Rattle.left_right.specs.declared.board.Doing.{Doing}
use Rattle.auth_publish.specs.declared.rule.Published.{Published}
use Rattle.auth_publish.specs.declared.rule.Opening.{Opening}

-- how the publisher of this name began
abbrev pub opening : Table → Book → Opening
opening first name = record { first = first; told = record { name = name; list = [] } }

-- the published table is the one after the published list; who knows how the publisher began knows
-- it right
pub record Stands (x : Published) (views : List (Option Opening)) : Type 0 where
  pub first : Table
  pub table_is : x.table ≡ changed_by first x.told.list
  pub last : finish_is_last x.told.list ≡ true
  pub seats : (seat : ℕ) (v : Option Opening) → get_elem? views seat ≡ some v
      → (v ≡ None) ⊎ (v ≡ Some (opening first x.told.name))

-- the table that is entered is the one after the list that is entered
pub record Sees (v : Option Opening) (y : Published) (w : Option Opening) : Type 0 where
  pub same : w ≡ v
  pub placed : (first : Table) (name : Book) → v ≡ Some (opening first name)
      → (y.table ≡ changed_by first y.told.list) × (y.told.name ≡ name)
  pub last : finish_is_last y.told.list ≡ true

-- the table before all changes; any table for a seat that does not know it
abbrev pub first_or : Option Opening → Table
first_or None = record { rows = [] }
first_or (Some o) = o.first

-- a seat of the toolchain's table, at the published value
abbrev pub Place : Type 0
Place = Seat (Option (Part Published)) (Doing Published (Option Opening))

abbrev pub known_by : Place → Option Opening
known_by s = view s

-- the table before all changes, as the seat knows it
abbrev pub first_of : Place → Table
first_of s = first_or (known_by s)

-- the seat knows how the publisher of this name began
abbrev pub IsPlaced : Book → Place → Type 0
IsPlaced name s = known_by s ≡ Some (opening (first_of s) name)

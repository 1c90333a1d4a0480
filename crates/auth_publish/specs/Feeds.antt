-- What contracts see of a publisher, a viewer and a view.
use Rattle.std.specs.Prelude.{List}
use Rattle.logbook.specs.Pages.{Book}
use Rattle.table_defs.specs.Table.{Table, Change}

-- whose changes they are, the table before all changes, and the changes: those that are published,
-- that the viewer entered or learnt, or that were entered
pub record Feed : Type 0 where
  pub name : Book
  pub first : Table
  pub list : List Change

-- What contracts see of a receipt.
use Rattle.std.specs.Prelude.{List}
use Rattle.logbook.specs.Pages.{Book}
use Rattle.table_defs.specs.Table.{Change}

-- whose list it is, and the list
pub record Told : Type 0 where
  pub name : Book
  pub list : List Change

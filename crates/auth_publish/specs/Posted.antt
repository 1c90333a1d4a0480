-- A change by what is kept of it.
use Rattle.std.specs.Prelude.{Bool, true, false, List, map}
use Rattle.table_defs.specs.declared.change.Item.{Item}
use Rattle.table_defs.specs.Table.{Change, Items, Finish}
use Rattle.table_defs.specs.Change.{item_of}

abbrev pub change_kept : (ends : Bool) → List Item → Change
change_kept true is = Finish
change_kept false is = Items (map item_of is)

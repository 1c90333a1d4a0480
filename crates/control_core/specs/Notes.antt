-- What is told of a host.
use Rattle.std.specs.Prelude.{List, map, Option}
use Rattle.switch_defs.specs.Switch.{Host}
use Rattle.switch_defs.specs.Decide.{Right}
use Rattle.turn_defs.specs.Parts as parts
use Rattle.table_defs.specs.declared.change.Item.{Item}
use Rattle.table_defs.specs.Change.{item_of}

-- what it is authorised for is told where it has changed
abbrev pub Notes : Host → (was is : Option Right) → (before after : List Item) → Type 0
Notes h was is before after = parts.Notes h was is (map item_of before) (map item_of after)

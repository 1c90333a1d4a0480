-- What items of a change mean, with numbers and lists of octets.
use Rattle.table_defs.specs.Table as table
use Rattle.table_defs.specs.declared.change.Item.{Item}
use Rattle.table_defs.specs.declared.change.Item.TheVariants as item

abbrev pub item_of : Item → table.Item
item_of (item.Link port up) = table.Link port up
item_of (item.SetControl port control) = table.SetControl port control
item_of (item.Guest port on) = table.Guest port on
item_of (item.Let port mac session vlan) = table.Let port mac.0 (record { session = session; vlan = vlan })
item_of (item.Bar port mac) = table.Bar port mac.0

-- For the ports before this one the second is done, with an item for each that lets guests in.
use Rattle.std.proofs.Common.{◌≡◌, ◌+◌, ◌≤◌, ◌++◌, map, take, drop, length}
use Rattle.table_defs.specs.Change.{item_of}
use Rattle.switch_defs.specs.Turn.{guest_second}
use Rattle.table_defs.specs.Told.{opened_guests}
use Rattle.switch_ports.proofs.ports.rows_second.Given as goal

abbrev pub invariant-loop-row : goal.invariant-loop-row
invariant-loop-row l = record {
  rows : l.rows ≡ map guest_second (take l.row-index l.initial.rows) ++ drop l.row-index l.initial.rows;
  items : map item_of l.items.items ≡ map item_of l.initial.items.items ++ opened_guests (take l.row-index l.initial.rows);
  few : length l.items.items ≤ length l.initial.items.items + l.row-index;
}

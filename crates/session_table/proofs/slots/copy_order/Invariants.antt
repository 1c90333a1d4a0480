-- So far the order is as much of the other.
use Rattle.std.specs.Prelude.{◌≡◌, take}
use Rattle.session_table.proofs.slots.copy_order.Given as goal

abbrev pub invariant-loop-place : goal.invariant-loop-place
invariant-loop-place l = l.order.items ≡ take l.place-index l.other

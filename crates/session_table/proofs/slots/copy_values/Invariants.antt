use Rattle.std.proofs.Common.{◌≡◌, length, take}
use Rattle.session_table.proofs.slots.copy_values.Given as goal

abbrev pub invariant-loop-at : goal.invariant-loop-at
invariant-loop-at g l = take l.at l.values ≡ take l.at l.other

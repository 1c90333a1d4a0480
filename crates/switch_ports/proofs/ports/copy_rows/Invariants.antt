-- The ports before this one are as the others.
use Rattle.std.proofs.Common.{◌≡◌, take}
use Rattle.switch_ports.proofs.ports.copy_rows.Given as goal

abbrev pub invariant-loop-n : goal.invariant-loop-n
invariant-loop-n l = take l.n l.rows ≡ take l.n l.others

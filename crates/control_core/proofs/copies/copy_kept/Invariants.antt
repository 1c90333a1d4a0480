-- The lists before this one are as the others.
use Rattle.std.proofs.Common.{◌≡◌, take}
use Rattle.control_core.proofs.copies.copy_kept.Given as goal

abbrev pub invariant-loop-n : goal.invariant-loop-n
invariant-loop-n l = take l.n l.kept ≡ take l.n l.others

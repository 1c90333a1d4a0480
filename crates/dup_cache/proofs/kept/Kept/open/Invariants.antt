use Rattle.std.proofs.Common.{◌≡◌, length}
use Rattle.dup_cache.proofs.kept.Kept.open.Given as goal

abbrev pub invariant-loop-n : goal.invariant-loop-n
invariant-loop-n l = (length l.slots.items ≡ l._n) × (l.slots.capacity ≡ 64)

use Rattle.std.proofs.Common.{◌≡◌, take}
use Rattle.dup_cache.proofs.kept.Kept.copy_from.Given as goal

-- the n oldest entries are copied
abbrev pub invariant-loop-n : goal.invariant-loop-n
invariant-loop-n l = l.self ≡ take l.n l.other

use Rattle.std.proofs.Common.{◌≡◌, ◌-◌, length, drop, None}
use Rattle.kept_defs.specs.Kept.{newest_reply}
use Rattle.dup_cache.proofs.kept.Kept.look.Given as goal

-- the n newest entries are no answer
abbrev pub invariant-loop-n : goal.invariant-loop-n
invariant-loop-n l = newest_reply l.sport l.request l.now (drop (length l.self - l.n) l.self) ≡ None

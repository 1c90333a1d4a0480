use Rattle.std.proofs.Common.{◌≡◌, ℕ, List, length, false, ◌++◌}
use Rattle.trace_defs.specs.Alike.{IsFed}
use Rattle.trace_lang.proofs.lines.Lines.feed_all.Given as goal

abbrev pub invariant-loop-taken : goal.invariant-loop-taken
invariant-loop-taken l =
    (l.self.ended ≡ false)
    × ((front : List ℕ) × (l.fn.piece ≡ front ++ l.rest)
    × ((fed : List ℕ) → IsFed fed l.initial.seen.items l.initial.self.text → IsFed (fed ++ front) l.seen.items l.self.text))

abbrev pub decreases-loop-taken : goal.decreases-loop-taken
decreases-loop-taken l = length l.rest

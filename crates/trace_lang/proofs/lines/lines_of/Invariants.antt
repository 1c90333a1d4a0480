use Rattle.std.proofs.Common.{◌≡◌, false, take}
use Rattle.std.specs.List.{flat_map}
use Rattle.trace_defs.specs.Alike.{IsFed}
use Rattle.trace_lang.proofs.lines.lines_of.Given as goal

abbrev pub invariant-loop-piece : goal.invariant-loop-piece
invariant-loop-piece l =
    (l.lines.ended ≡ false) × IsFed (flat_map (λ piece. piece.now) (take l.piece-index l.pieces)) l.seen.items l.lines.text

use Rattle.std.proofs.Common.{◌≡◌, ◌++◌, take}
use Rattle.trace_print.proofs.piece.push_number.Given as goal

abbrev pub invariant-loop-digit : goal.invariant-loop-digit
invariant-loop-digit l = l.text.items ≡ l.fn.text.items ++ take l.digit-index l.digit-items

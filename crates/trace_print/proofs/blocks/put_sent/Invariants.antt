use Rattle.std.proofs.Common.{◌≡◌, ◌++◌, take}
use Rattle.trace_defs.specs.Output.{sent_lines}
use Rattle.trace_print.proofs.blocks.put_sent.Given as goal

abbrev pub invariant-loop-n : goal.invariant-loop-n
invariant-loop-n l = l.out.items ≡ l.fn.out.items ++ sent_lines (take l.n l.tray.items)

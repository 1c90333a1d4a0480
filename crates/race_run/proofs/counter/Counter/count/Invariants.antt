use Rattle.std.proofs.Common.{◌≡◌, ◌+◌, length}
use Rattle.history_defs.specs.Output.{controls_in}
use Rattle.trace_defs.specs.Entered.{entered_all}
use Rattle.race_run.proofs.counter.Counter.count.Given as goal

abbrev pub invariant-loop-rest : goal.invariant-loop-rest
invariant-loop-rest l = record {
  records : l.self.records + length l.rest ≡ l.fn.self.records + length l.records;
  controls : l.self.controls + controls_in (entered_all l.rest) ≡ l.fn.self.controls + controls_in (entered_all l.records);
}

abbrev pub decreases-loop-rest : goal.decreases-loop-rest
decreases-loop-rest l = length l.rest

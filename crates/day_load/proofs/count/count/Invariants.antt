use Rattle.std.proofs.Common.{◌≡◌, ◌+◌, length}
use Rattle.history_defs.specs.Output.{controls_in}
use Rattle.trace_defs.specs.Entered.{entered_all}
use Rattle.day_load.specs.Summary.{frames_in}
use Rattle.day_load.proofs.count.count.Given as goal

abbrev pub invariant-loop-rest : goal.invariant-loop-rest
invariant-loop-rest l = record {
  controls_so_far : l.controls + controls_in (entered_all l.rest) ≡ controls_in (entered_all l.records);
  frames_so_far : l.frames + frames_in (entered_all l.rest) ≡ frames_in (entered_all l.records);
  all : l.controls + l.frames + length l.rest ≡ length l.records;
}

abbrev pub decreases-loop-rest : goal.decreases-loop-rest
decreases-loop-rest l = length l.rest

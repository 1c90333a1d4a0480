use Rattle.std.proofs.Common.{◌≡◌, ◌≤◌, ◌-◌, false}
use Rattle.race_run.specs.Run.{IsSound, given_by}
use Rattle.switch_event.specs.Config.{empty}
use Rattle.race_run.proofs.EndLemmas.{HasReached}
use Rattle.race_run.proofs.run.Run.take_all.Given as goal

abbrev pub invariant-pieces : goal.invariant-pieces
invariant-pieces g l = record {
  within : l.count ≤ l.limit;
  lines : l.self.lines ≤ l.count;
  sound : IsSound g.R.RunsPhases.fresh g.R.RunsPhases.stands l.self l.runner;
  line : l.self.line.ended ≡ false;
  reached : HasReached g.R.RunsPhases.stands (given_by g.R.RunsPhases.numbers g.R.RunsPhases.gave) l.room empty (g.S.Source.left l.fn.source) (g.S.Source.left l.source) (g.K.Sink.taken l.fn.out) (g.K.Sink.taken l.out) l.count l.self l.runner;
  same : g.R.RunsPhases.numbers l.runner ≡ g.R.RunsPhases.numbers l.fn.runner;
  source_later : g.S.Source.faults l.fn.source ≤ g.S.Source.faults l.source;
  out_later : g.K.Sink.faults l.fn.out ≤ g.K.Sink.faults l.out;
}

abbrev pub decreases-pieces : goal.decreases-pieces
decreases-pieces g l = l.limit - l.count

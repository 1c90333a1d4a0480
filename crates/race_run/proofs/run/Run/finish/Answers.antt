use Rattle.std.proofs.Common.{arith}
use Rattle.std.proofs.lemmas.Grind.{common_steps}
use Rattle.std.proofs.lemmas.List.{nil_from_length}
use Rattle.race_run.specs.Run.{given_by}
use Rattle.race_run.proofs.EndLemmas.{EndsAtEnd-none, EndsAtEnd-line, EndsAtEnd-halts}
use Rattle.race_run.proofs.run.Run.finish.Goals as goal

pub returns-then-is_empty-clause-ends : goal.returns-then-is_empty-clause-ends
returns-then-is_empty-clause-ends g c =
    EndsAtEnd-none g.R.RunsPhases.stands (given_by g.R.RunsPhases.numbers g.R.RunsPhases.gave) c.args.room _ _ c.args.self.now c.args.runner.now c.end_trace.new.runner c.end_trace.result (nil_from_length _ (grind (arith, common_steps))) (c.end_trace.ensures.ends c.args.room)

pub returns-in-Ok-clause-ends : goal.returns-in-Ok-clause-ends
returns-in-Ok-clause-ends g c =
    EndsAtEnd-line g.R.RunsPhases.stands (given_by g.R.RunsPhases.numbers g.R.RunsPhases.gave) c.args.room _ _ _ c.args.self.now c.take_line.new.self c.args.runner.now c.take_line.new.runner c.end_trace-in-Ok.new.runner c.end_trace-in-Ok.result (λ none. absurd (grind (arith, common_steps))) c.in-Ok.ensures.ok
    (c.end_trace-in-Ok.ensures.ends c.args.room)

pub returns-in-Err-clause-ends : goal.returns-in-Err-clause-ends
returns-in-Err-clause-ends g c =
    EndsAtEnd-halts g.R.RunsPhases.stands (given_by g.R.RunsPhases.numbers g.R.RunsPhases.gave) c.args.room _ _ c.args.self.now c.args.runner.now c.take_line.new.runner c.in-Err.ending (λ none. absurd (grind (arith, common_steps))) c.in-Err.ensures.err

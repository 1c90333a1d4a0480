use Rattle.wire_defs.proofs.OutsideLemmas.{Keeps-same}
use Rattle.race_run.specs.Run.{given_by}
use Rattle.race_run.proofs.EndLemmas.{EndsTrace-missing, EndsTrace-done, EndsTrace-halts}
use Rattle.race_run.proofs.run.Run.end_trace.Goals as goal

pub returns-then-not-self-clause-ends : goal.returns-then-not-self-clause-ends
returns-then-not-self-clause-ends g c = λ room. EndsTrace-missing g.R.RunsPhases.stands (given_by g.R.RunsPhases.numbers g.R.RunsPhases.gave) room _ _ c.args.self.now c.args.runner.now c.if-not-self.true (Keeps-same _)

pub returns-in-Ok-clause-ends : goal.returns-in-Ok-clause-ends
returns-in-Ok-clause-ends g c = λ room. EndsTrace-done g.R.RunsPhases.stands (given_by g.R.RunsPhases.numbers g.R.RunsPhases.gave) room _ _ c.args.self.now c.end_phase.new.self c.args.runner.now c.end_phase.new.runner c.if-not-self.false c.in-Ok.ensures.ok

pub returns-in-Err-clause-ends : goal.returns-in-Err-clause-ends
returns-in-Err-clause-ends g c = λ room. EndsTrace-halts g.R.RunsPhases.stands (given_by g.R.RunsPhases.numbers g.R.RunsPhases.gave) room _ _ c.args.self.now c.args.runner.now c.end_phase.new.runner c.in-Err.ending c.in-Err.ensures.err

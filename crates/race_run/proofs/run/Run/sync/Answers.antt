use Rattle.race_run.specs.Run.{given_by}
use Rattle.race_run.proofs.StepLemmas.{Steps-sync, Halts-sync}
use Rattle.race_run.proofs.run.Run.sync.Goals as goal

pub returns-in-Ok-clause-ok : goal.returns-in-Ok-clause-ok
returns-in-Ok-clause-ok g c = λ room. Steps-sync g.R.RunsPhases.stands (given_by g.R.RunsPhases.numbers g.R.RunsPhases.gave) room _ _ c.args.self.now c.end_phase.new.self c.args.runner.now c.end_phase.new.runner c.in-Ok.ensures.ok

pub returns-in-Err-clause-err : goal.returns-in-Err-clause-err
returns-in-Err-clause-err g c = λ room. Halts-sync g.R.RunsPhases.stands (given_by g.R.RunsPhases.numbers g.R.RunsPhases.gave) room _ _ c.args.self.now c.args.runner.now c.end_phase.new.runner c.in-Err.ending c.in-Err.ensures.err

use Rattle.switch_event.specs.Config.{empty}
use Rattle.race_run.proofs.EndLemmas.{RunEnds-none}
use Rattle.race_run.proofs.run.run_within.Goals as goal

pub returns-in-Err-clause-ends : goal.returns-in-Err-clause-ends
returns-in-Err-clause-ends g c = RunEnds-none (g.R.RunsPhases.gave (g.R.RunsPhases.numbers c.args.runner.now)) (g.R.RunsPhases.stands c.args.runner.now) c.args.limit c.args.room empty _ _

use Rattle.std.proofs.Common.{refl}
use Rattle.race_run.specs.Run.{given_by}
use Rattle.race_run.proofs.StepLemmas.{Steps-line}
use Rattle.race_run.proofs.run.Run.end_line.Goals as goal

pub returns-in-Ok-clause-ok : goal.returns-in-Ok-clause-ok
returns-in-Ok-clause-ok g c = λ line kept. Steps-line g.R.RunsPhases.stands (given_by g.R.RunsPhases.numbers g.R.RunsPhases.gave) _ _ _ c.args.self.now c.take_line.new.self _ c.args.runner.now c.take_line.new.runner (c.in-Ok.ensures.ok line kept) refl

use Rattle.std.proofs.Common.{refl}
use Rattle.race_run.specs.Run.{given_by}
use Rattle.race_run.proofs.StepLemmas.{Steps-begin}
use Rattle.race_run.proofs.SoundLemmas.{sound_begin}
use Rattle.race_run.proofs.run.Run.begin.Goals as goal

pub returns-clause-ok : goal.returns-clause-ok
returns-clause-ok g c = λ room taken. Steps-begin g.R.RunsPhases.stands (given_by g.R.RunsPhases.numbers g.R.RunsPhases.gave) room taken c.args.self.now c.args.runner.now c.open.new.self c.requires.unbegun c.in_ok-open.ensures.stands

pub returns-clause-sound : goal.returns-clause-sound
returns-clause-sound g c = (sound_begin g.R.RunsPhases.fresh g.R.RunsPhases.stands (given_by g.R.RunsPhases.numbers g.R.RunsPhases.gave) c.args.self.now c.args.runner.now c.open.new.self c.requires.sound c.requires.unbegun c.in_ok-open.ensures.stands, refl)

pub open-requires-clause-fresh : goal.open-requires-clause-fresh
open-requires-clause-fresh g c = (c.requires.sound.unbegun c.requires.unbegun).1

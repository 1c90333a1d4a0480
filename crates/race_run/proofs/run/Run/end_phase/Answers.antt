use Rattle.std.proofs.Common.{refl, ap}
use Rattle.trace_defs.specs.Entered.{entered_all}
use Rattle.race_run.specs.Run.{given_by}
use Rattle.race_run.proofs.StepLemmas.{Steps-phase, Halts-phase, given_same}
use Rattle.race_run.proofs.SoundLemmas.{may_run, sound_phase}
use Rattle.race_run.proofs.run.Run.end_phase.Goals as goal

pub run-requires-clause-fits : goal.run-requires-clause-fits
run-requires-clause-fits g c = may_run g.R.RunsPhases.fresh g.R.RunsPhases.stands (given_by g.R.RunsPhases.numbers g.R.RunsPhases.gave) c.args.self.now c.args.runner.now (entered_all c.deref.result.now) c.requires.begun (ap entered_all c.deref.ensures.value) c.requires.sound c.requires.short

pub returns-in-Ok-clause-ok : goal.returns-in-Ok-clause-ok
returns-in-Ok-clause-ok g c =
    Steps-phase g.R.RunsPhases.stands (given_by g.R.RunsPhases.numbers g.R.RunsPhases.gave) _ _ c.args.self.now _ c.args.runner.now c.run.new.self (entered_all c.deref.result.now) _ c.run.new.text.items c.deref-2.result.now c.deref-2.ensures.value
    c.requires.begun (ap entered_all c.deref.ensures.value) c.in_ok-run.ensures.ran c.new-text.ensures.items c.in-Ok.ensures.octets c.clear.ensures.items refl

pub returns-in-Ok-clause-sound : goal.returns-in-Ok-clause-sound
returns-in-Ok-clause-sound g c = (
  sound_phase g.R.RunsPhases.fresh g.R.RunsPhases.stands (given_by g.R.RunsPhases.numbers g.R.RunsPhases.gave) c.args.self.now _ c.args.runner.now c.run.new.self (entered_all c.deref.result.now) _ c.run.new.text.items
      c.requires.begun (ap entered_all c.deref.ensures.value) c.in_ok-run.ensures.ran c.clear.ensures.items refl c.requires.sound,
  refl,
)

pub returns-clause-err : goal.returns-clause-err
returns-clause-err g c =
    Halts-phase g.R.RunsPhases.stands (given_by g.R.RunsPhases.numbers g.R.RunsPhases.gave) _ _ c.args.self.now c.args.runner.now c.run.new.self (entered_all c.deref.result.now) _ c.run.new.text.items c.deref-2.result.now
    (given_same g.R.RunsPhases.numbers g.R.RunsPhases.gave c.args.runner.now c.run.new.self c.in_ok-run.ensures.same) c.deref-2.ensures.value
    c.requires.begun (ap entered_all c.deref.ensures.value) c.in_ok-run.ensures.ran c.new-text.ensures.items c.in-Err.ensures.octets

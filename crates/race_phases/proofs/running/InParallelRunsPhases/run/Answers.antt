use Rattle.std.proofs.Common.{rules, ◌≡◌, Some}
use Rattle.trace_defs.specs.Entered.{entered_all}
use Rattle.race_lanes.specs.Standing.{Run}
use Rattle.race_lanes.specs.Raced.{RacedBy}
use Rattle.race_phases.proofs.Racing.{the_run, ran_phase}
use Rattle.race_lanes.proofs.Raced.{numbers_fit, may_come, controls_fit}
use Rattle.race_phases.proofs.running.InParallelRunsPhases.run.Goals as goal

pub phase-requires-clause-numbers : goal.phase-requires-clause-numbers
phase-requires-clause-numbers g c κs within =
    let self = c.args.self.now in
    let fits = c.requires.fits in
    let is : self.race ≡ Some c.in-Some.race = search rules in
    let raced = the_run self.race c.in-Some.race (λ (z : Run). RacedBy self.lanes self.workers z fits.0 fits.1 fits.2) is fits.3 in
    numbers_fit self.lanes self.workers c.in-Some.race fits.0 fits.1 fits.2 c.args.records.now raced fits.4

pub phase-requires-clause-may_come : goal.phase-requires-clause-may_come
phase-requires-clause-may_come g c κs within =
    let self = c.args.self.now in
    let fits = c.requires.fits in
    let is : self.race ≡ Some c.in-Some.race = search rules in
    let raced = the_run self.race c.in-Some.race (λ (z : Run). RacedBy self.lanes self.workers z fits.0 fits.1 fits.2) is fits.3 in
    may_come self.lanes self.workers c.in-Some.race fits.0 fits.1 fits.2 c.args.records.now raced fits.4

pub phase-requires-clause-fits : goal.phase-requires-clause-fits
phase-requires-clause-fits g c κs within =
    let self = c.args.self.now in
    let fits = c.requires.fits in
    let is : self.race ≡ Some c.in-Some.race = search rules in
    let raced = the_run self.race c.in-Some.race (λ (z : Run). RacedBy self.lanes self.workers z fits.0 fits.1 fits.2) is fits.3 in
    controls_fit self.lanes self.workers c.in-Some.race fits.0 fits.1 fits.2 c.args.records.now raced fits.4

pub returns-clause-ran : goal.returns-clause-ran
returns-clause-ran g c config phases was h =
    let self = c.args.self.now in
    let is : self.race ≡ Some c.in-Some.race = search rules in
    let raced = the_run self.race c.in-Some.race (λ (z : Run). RacedBy self.lanes self.workers z config phases was) is h in
    let same = c.in_ok-race.ensures.same in
    let got = c.in_ok-race.ensures.stands phases was raced.stands in
    ran_phase self c.hold.new.self c.in-Some.race c.in_ok-race.race config phases (entered_all c.args.records.now) was got.0 c.args.text.now.items c.phase.new.text.items is c.hold.ensures.race
    c.hold.ensures.numbers.0 c.hold.ensures.numbers.1 h same.0 same.1 same.2 same.4 got.1 got.2

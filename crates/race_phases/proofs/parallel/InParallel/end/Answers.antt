use Rattle.legal_defs.specs.Legal.{IsBegun}
use Rattle.race_lanes.specs.Standing.{Run}
use Rattle.race_lanes.proofs.Ending.{err_any}
use Rattle.race_lanes.specs.Raced.{RacedBy}
use Rattle.race_phases.proofs.Racing.{the_run, ended_legal}
use Rattle.race_lanes.proofs.Raced.{raced_begun}
use Rattle.race_phases.proofs.parallel.InParallel.end.Goals as goal

pub returns-in-Some-clause-legal : goal.returns-in-Some-clause-legal
returns-in-Some-clause-legal g c config phases text h =
    let self = c.args.self in
    let raced = the_run self.race c.in-Some.race (λ (z : Run). RacedBy self.lanes self.workers z config phases text) c.in-Some.is h in
    ended_legal c.end.result self.lanes self.workers c.in-Some.race config phases text raced (c.end.ensures.legal phases text raced.stands)

pub returns-in-Some-clause-begun : goal.returns-in-Some-clause-begun
returns-in-Some-clause-begun g c config phases text h =
    let self = c.args.self in
    let raced = the_run self.race c.in-Some.race (λ (z : Run). RacedBy self.lanes self.workers z config phases text) c.in-Some.is h in
    err_any (IsBegun config self.lanes self.workers phases text) c.end.result (raced_begun self.lanes self.workers c.in-Some.race config phases text raced)

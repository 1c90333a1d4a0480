use Rattle.std.proofs.Common.{length, ap, arith}
use Rattle.race_tests.proofs.Simply.{simple_come, few_controls}
use Rattle.race_tests.proofs.gates.run_at.Goals as goal

pub phase-requires-clause-may_come : goal.phase-requires-clause-may_come
phase-requires-clause-may_come g c κs within = simple_come c.in_ok-race.race.config c.in_ok-race.race.number c.args.records.now c.requires.simple

pub phase-requires-clause-fits : goal.phase-requires-clause-fits
phase-requires-clause-fits g c κs within =
    let none = ap length c.in_ok-race.ensures.none.1 in
    let most = few_controls c.in_ok-race.race.number c.args.records.now in
    let few = c.requires.few in
    omega arith

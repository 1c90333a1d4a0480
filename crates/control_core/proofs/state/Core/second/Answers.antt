use Rattle.std.proofs.Common.{◌≡◌, List, length, arith, ap, refl}
use Rattle.switch_defs.specs.Switch.{Port, State}
use Rattle.switch_defs.specs.Turn.{guests_second, tick}
use Rattle.control_core.proofs.Passing.{passes_first}
use Rattle.control_core.proofs.state.Core.second.Goals as goal

pub each_second-requires-clause-may : goal.each_second-requires-clause-may
each_second-requires-clause-may c =
    let s : State = c.requires.may.0 in
    let may = c.requires.may.1 in
    (guests_second (tick s), c.tick.ensures.holds s may, passes_first c.args.self.now.made s may.few may.stands.sound)

pub returns-clause-turns : goal.returns-clause-turns
returns-clause-turns c s may =
    let d = c.each_second.ensures.does (guests_second (tick s)) (c.tick.ensures.holds s may) (passes_first c.args.self.now.made s may.few may.stands.sound) in
    record {
      holds = d.holds;
      became = refl;
      sent = d.sent;
      told = λ start told. d.told start (c.tick.ensures.told s may start told);
    }

pub returns-clause-few : goal.returns-clause-few
returns-clause-few c s may =
    let ports : length c.args.self.now.ports ≡ length s.ports = ap (λ (ps : List Port). length ps) may.stands.holds.ports in
    omega (arith, c.each_second.ensures.few (guests_second (tick s)) (c.tick.ensures.holds s may), c.tick.ensures.few, ports)

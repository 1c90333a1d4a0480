use Rattle.std.proofs.Common.{◌≡◌, ◌+◌, ◌<◌, ◌^◌, ap, ◌∙◌, arith, ◌++◌, List, map}
use Rattle.table_defs.specs.Change.{item_of}
use Rattle.switch_defs.specs.Switch.{Port, State}
use Rattle.table_defs.specs.Told.{opened_guests}
use Rattle.control_core.proofs.Passing.{clock_fits, few_guests, tells_guests}
use Rattle.control_core.proofs.state.Core.tick.Goals as goal

pub overflow_add-self : goal.overflow_add-self
overflow_add-self c =
    let s : State = c.requires.may.0 in
    let may = c.requires.may.1 in
    let fits : s.clock + 1 < 2 ^ 64 = clock_fits c.args.self.now.made s may.few may.stands.sound in
    let same : c.args.self.now.clock ≡ s.clock = may.stands.holds.clock in
    omega (arith, fits, same)

pub returns-clause-told : goal.returns-clause-told
returns-clause-told c s may =
    tells_guests c.args.self.now.made s may.stands.sound (map item_of c.args.items.now.items) (map item_of c.second.new.items.items)
    (c.second.ensures.items ∙ ap (λ (ps : List Port). map item_of c.args.items.now.items ++ opened_guests ps) may.stands.holds.ports)

pub returns-clause-few : goal.returns-clause-few
returns-clause-few c = few_guests item_of c.args.items.now.items c.second.new.items.items c.args.self.now.ports c.second.ensures.items

-- What has changed of the host's right is told.
use Rattle.std.proofs.Common.{◌∙◌, map, sym}
use Rattle.host_session.specs.Sits.{right_in}
use Rattle.switch_defs.specs.Decide.{authorised}
use Rattle.table_defs.specs.Change.{item_of}
use Rattle.turn_defs.proofs.Parts.{tells_noted}
use Rattle.control_core.proofs.state.Core.follow.Goals as goal

pub returns-clause-told : goal.returns-clause-told
returns-clause-told c = λ s t h l k b n.
    tells_noted h s t (right_in c.args.before) (right_in c.right-after.result) (map item_of c.args.items.now.items) (map item_of c.note.new.items.items) (c.note.ensures.notes h k)
    (b ∙ (λ i. authorised s (sym k.on i) (sym k.whose i))) (c.right-after.ensures t (c.arm_if.ensures.holds t l) ∙ (λ i. authorised t (sym k.on i) (sym k.whose i))) n

-- The value of a place is the entry's.
use Rattle.std.proofs.Common.{◌∙◌, sym, ap, None, get_or}
use Rattle.session_table.proofs.Kept.{value_is}
use Rattle.session_table.proofs.slots.Slots.get.Goals as goal

pub returns : goal.returns
returns g c =
    rw (← c.self.view_is)
    (c.held.ensures ∙ ap (λ vs. get_or vs c.args.at None) c.as_slice.ensures.value
    ∙ sym
    (value_is c.self.inside.hosts.items c.self.inside.values.items c.self.inside.order.items
    c.self.invariant c.args.at))

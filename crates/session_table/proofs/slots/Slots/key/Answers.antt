-- The address of a place, and the place's port, are the entry's.
use Rattle.std.proofs.Common.{◌∙◌, sym, ap}
use Rattle.std.specs.Option.{option_map}
use Rattle.session_table.specs.Rows.{host_at}
use Rattle.session_table.proofs.Kept.{key_is, keyed}
use Rattle.session_table.proofs.slots.Slots.key.Goals as goal

pub returns-in_err-mac : goal.returns-in_err-mac
returns-in_err-mac g c =
    rw (← c.self.view_is)
    (c.from_residual.ensures
    ∙ ap (option_map (keyed c.args.at))
    (c.in_err-mac.ensures ∙ ap (λ hs. host_at hs c.args.at) c.as_slice.ensures.value)
    ∙ sym
    (key_is c.self.inside.hosts.items c.self.inside.values.items c.self.inside.order.items
    c.self.invariant c.args.at))

pub returns : goal.returns
returns g c =
    rw (← c.self.view_is)
    (ap (option_map (keyed c.args.at))
    (c.in_ok-mac.ensures ∙ ap (λ hs. host_at hs c.args.at) c.as_slice.ensures.value)
    ∙ sym
    (key_is c.self.inside.hosts.items c.self.inside.values.items c.self.inside.order.items
    c.self.invariant c.args.at))

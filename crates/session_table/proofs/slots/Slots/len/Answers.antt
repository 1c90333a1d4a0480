-- The places of the entries are the order.
use Rattle.std.proofs.Common.{◌≡◌, ◌∙◌, sym, ap, length}
use Rattle.std.proofs.lemmas.List.{length-map}
use Rattle.session_table.specs.Rows.{entries_of}
use Rattle.session_table.specs.Slots.{Entry}
use Rattle.session_table.proofs.Kept.{places_are}
use Rattle.session_table.proofs.slots.Slots.len.Goals as goal

pub returns-clause-len : goal.returns-clause-len
returns-clause-len g c =
    let e : c.len.result ≡ length c.self.inside.order.items = c.len.ensures.value in
    let l : length
    (entries_of c.self.inside.hosts.items c.self.inside.values.items c.self.inside.order.items)
    ≡ length c.self.inside.order.items =
    sym
    (length-map
    (entries_of c.self.inside.hosts.items c.self.inside.values.items c.self.inside.order.items)
    (λ (e : Entry g.row.T.Denot). e.place))
    ∙ ap length
    (places_are c.self.inside.hosts.items c.self.inside.values.items c.self.inside.order.items
    c.self.invariant)
    in
    rw (← c.self.view_is) (e ∙ sym l)

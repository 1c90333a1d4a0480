-- As many entries are on a port as places of it are held.
use Rattle.std.proofs.Common.{◌≡◌, ◌∙◌, ◌*◌, sym, ap}
use Rattle.session_table.specs.Slots.{first_place}
use Rattle.session_table.specs.Rows.{count_held, is_held}
use Rattle.session_table.proofs.Counts.{most}
use Rattle.session_table.proofs.Kept.{count_is, count_none, port_in, port_out}
use Rattle.session_table.proofs.slots.Slots.count.Goals as goal

pub returns-then-port-eq0-clause-count : goal.returns-then-port-eq0-clause-count
returns-then-port-eq0-clause-count g c =
    rw (← c.self.view_is)
    (sym
    (count_none c.self.inside.hosts.items c.self.inside.values.items c.self.inside.order.items
    c.self.invariant c.args.port (port_out c.args.port c.then-port-eq0.either)))

pub returns-clause-count : goal.returns-clause-count
returns-clause-count g c =
    let same : count_held (is_held c.as_slice-hosts.result.now) (16 * c.from.result) 16
    ≡ count_held (is_held c.self.inside.hosts.items) (first_place c.args.port) 16 =
    ap (λ hs. count_held (is_held hs) (16 * c.from.result) 16) c.as_slice-hosts.ensures.value
    ∙ ap (λ n. count_held (is_held c.self.inside.hosts.items) (16 * n) 16) c.from.ensures in
    rw (← c.self.view_is)
    (c.count_in.ensures ∙ same
    ∙ sym
    (count_is c.self.inside.hosts.items c.self.inside.values.items c.self.inside.order.items
    c.self.invariant c.args.port
    (port_in c.args.port c.if-port-eq0.false c.if-port-gt-PORTS.false)))

pub returns-clause-most : goal.returns-clause-most
returns-clause-most g c =
    rw c.count_in.ensures (most (is_held c.as_slice-hosts.result.now) (16 * c.from.result) 16)

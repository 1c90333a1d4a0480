-- What is found among the port's places is found among the entries.
use Rattle.std.proofs.Common.{◌*◌, sym, ap, refl}
use Rattle.session_table.specs.Slots.{first_place}
use Rattle.session_table.specs.Rows.{holds_mac}
use Rattle.session_table.proofs.Kept.{found_is, found_same, not_a_port, port_in, port_out}
use Rattle.session_table.proofs.Changes.{table}
use Rattle.session_table.proofs.slots.Slots.find.Goals as goal

pub returns-then-port-eq0-clause-place : goal.returns-then-port-eq0-clause-place
returns-then-port-eq0-clause-place g c =
    rw (← c.self.view_is)
    (sym
    (not_a_port c.self.inside.hosts.items c.self.inside.values.items c.self.inside.order.items
    c.self.invariant c.args.port c.args.mac.0 (port_out c.args.port c.then-port-eq0.either)))

pub returns-then-port-eq0-clause-table : goal.returns-then-port-eq0-clause-table
returns-then-port-eq0-clause-table g c =
    rw (← c.self.view_is)
    (table c.self.inside.hosts.items c.self.inside.values.items c.self.inside.order.items
    c.self.invariant)

pub returns-clause-place : goal.returns-clause-place
returns-clause-place g c =
    let found =
    found_same (holds_mac c.args.mac.0) _ _ _ (first_place c.args.port) _ _
    c.as_slice-hosts.ensures.value (ap (λ n. 16 * n) c.from.ensures) refl c.find_in.ensures in
    rw (← c.self.view_is)
    (found_is c.self.inside.hosts.items c.self.inside.values.items c.self.inside.order.items
    c.self.invariant c.args.port c.args.mac.0 c.find_in.result
    (port_in c.args.port c.if-port-eq0.false c.if-port-gt-PORTS.false) found)

pub returns-clause-table : goal.returns-clause-table
returns-clause-table g c =
    rw (← c.self.view_is)
    (table c.self.inside.hosts.items c.self.inside.values.items c.self.inside.order.items
    c.self.invariant)

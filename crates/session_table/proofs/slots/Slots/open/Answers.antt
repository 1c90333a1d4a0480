-- Nothing is held at any place, and none is in the order.
use Rattle.session_table.proofs.Changes.{kept_at_first}
use Rattle.session_table.proofs.slots.Slots.open.Goals as goal

pub invariant_of-result : goal.invariant_of-result
invariant_of-result g c =
    rw c.new.ensures
    (kept_at_first c.in_ok-hosts.hosts.items c.in_ok-values.values.items c.in_ok-hosts.ensures
    c.in_ok-values.ensures)

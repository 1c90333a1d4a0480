-- The place is given up, and the order loses it.
use Rattle.std.proofs.Common.{rules, ◌≡◌, ◌∙◌, ◌<◌, sym, length, filter, not, true, false, None, arith}
use Rattle.std.specs.Prelude.{◌==◌, is_some}
use Rattle.std.proofs.lemmas.List.{get_or_default}
use Rattle.arrayvec.proofs.ArrayVecLemmas.{filter-from_retain}
use Rattle.session_table.specs.Slots.{value_at}
use Rattle.session_table.specs.Rows.{is_held}
use Rattle.session_table.proofs.Kept.{held_below, is_some-value, value_is}
use Rattle.session_table.proofs.Changes.{kept_left, left_rows, none_left, table}
use Rattle.session_table.proofs.slots.Slots.remove.Given.{Over}
use Rattle.session_table.proofs.slots.Slots.remove.Goals.{After-retain, Else-is_none}
use Rattle.session_table.proofs.slots.Slots.remove.Goals as goal

-- a host is held there
held : (g : Over) (c : Else-is_none g) → is_held c.self.inside.hosts.items c.args.at ≡ true
held g c =
    let some : is_some (value_at c.args.at c.args.self.now) ≡ true = search rules in
    sym
    (is_some-value c.self.inside.hosts.items c.self.inside.values.items c.self.inside.order.items
    c.self.invariant c.args.at)
    ∙ (rw (← c.self.view_is) at some)

-- the order without the place
kept : (g : Over) (c : After-retain g) →
    c.retain.new.self.items ≡ filter (λ q. not (q == c.args.at)) c.self.inside.order.items
kept g c = filter-from_retain _ _ _ (λ x b f' y called. search rules) _ _ c.retain.ensures.filtered

pub returns-then-is_none-clause-others : goal.returns-then-is_none-clause-others
returns-then-is_none-clause-others g c =
    let none : is_some (value_at c.args.at c.args.self.now) ≡ false = search rules in
    let free : is_held c.self.inside.hosts.items c.args.at ≡ false =
    sym
    (is_some-value c.self.inside.hosts.items c.self.inside.values.items
    c.self.inside.order.items c.self.invariant c.args.at)
    ∙ (rw (← c.self.view_is) at none) in
    rw (← c.self.view_is)
    (sym
    (none_left c.self.inside.hosts.items c.self.inside.values.items c.self.inside.order.items
    c.self.invariant c.args.at free))

pub returns-then-is_none-clause-table : goal.returns-then-is_none-clause-table
returns-then-is_none-clause-table g c =
    rw (← c.self.view_is)
    (table c.self.inside.hosts.items c.self.inside.values.items c.self.inside.order.items
    c.self.invariant)

pub index_mut-requires : goal.index_mut-requires
index_mut-requires g c =
    let below =
    held_below c.self.inside.hosts.items c.self.inside.values.items c.self.inside.order.items
    c.self.invariant c.args.at (held g (goal.at.index_mut-requires g c).Else-is_none) in
    omega (arith, below, c.self.invariant.values_size)

pub index_mut-requires-2 : goal.index_mut-requires-2
index_mut-requires-2 g c =
    let below =
    held_below c.self.inside.hosts.items c.self.inside.values.items c.self.inside.order.items
    c.self.invariant c.args.at (held g (goal.at.index_mut-requires-2 g c).Else-is_none) in
    omega (arith, below, c.self.invariant.size)

pub invariant_of-self : goal.invariant_of-self
invariant_of-self g c =
    rw (kept g c, c.take-value.ensures.after)
    (kept_left c.self.inside.hosts.items c.self.inside.values.items c.self.inside.order.items
    c.self.invariant c.args.at (held g (goal.at.invariant_of-self g c).Else-is_none))

pub returns-clause-value : goal.returns-clause-value
returns-clause-value g c =
    let below =
    held_below c.self.inside.hosts.items c.self.inside.values.items c.self.inside.order.items
    c.self.invariant c.args.at (held g (goal.at.returns-clause-value g c).Else-is_none) in
    let within : c.args.at < length c.self.inside.values.items =
    rw c.self.invariant.values_size below in
    rw (← c.self.view_is)
    (c.take-value.ensures.value ∙ c.index_mut.ensures.value
    ∙ get_or_default c.self.inside.values.items c.args.at c.index_mut.result.now None within
    ∙ sym
    (value_is c.self.inside.hosts.items c.self.inside.values.items c.self.inside.order.items
    c.self.invariant c.args.at))

pub returns-clause-others : goal.returns-clause-others
returns-clause-others g c =
    rw (← c.self.view_is, kept g c, c.take-value.ensures.after)
    (left_rows c.self.inside.hosts.items c.self.inside.values.items c.self.inside.order.items
    c.self.invariant c.args.at (held g (goal.at.returns-clause-others g c).Else-is_none))

pub returns-clause-table : goal.returns-clause-table
returns-clause-table g c =
    rw (kept g c, c.take-value.ensures.after)
    (table _ _ _
    (kept_left c.self.inside.hosts.items c.self.inside.values.items c.self.inside.order.items
    c.self.invariant c.args.at (held g (goal.at.returns-clause-table g c).Else-is_none)))

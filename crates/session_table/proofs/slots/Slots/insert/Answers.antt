-- The first free place of the port is taken, and comes last in the order.
use Rattle.std.proofs.Common.{◌≡◌, ◌*◌, ap, Some, None, lit<}
use Rattle.session_table.specs.Slots.{first_place, place_for}
use Rattle.session_table.specs.Rows.{FoundBy, entries_of, is_free}
use Rattle.session_table.proofs.Kept.{found_same}
use Rattle.session_table.proofs.Changes as change
use Rattle.session_table.proofs.slots.Slots.insert.Given.{Over}
use Rattle.session_table.proofs.slots.Slots.insert.Goals.{In-Some}
use Rattle.session_table.proofs.slots.Slots.insert.Goals as goal

-- the place that is taken was free
free : (g : Over) (c : In-Some g) →
    FoundBy (is_free c.self.inside.hosts.items) (first_place c.args.port) (Some c.in-Some.at)
free g c =
    found_same is_free _ _ _ (first_place c.args.port) _ (Some c.in-Some.at)
    c.as_slice.ensures.value (ap (λ n. 16 * n) c.from-first.ensures) c.in-Some.is c.free_in.ensures

-- the host was not held
new : (g : Over) (c : In-Some g) →
    place_for c.args.port c.args.mac.0
    (entries_of c.self.inside.hosts.items c.self.inside.values.items c.self.inside.order.items)
    ≡ None
new g c = rw (← c.self.view_is) at c.requires.new

pub returns-in_default-clause-full : goal.returns-in_default-clause-full
returns-in_default-clause-full g c =
    let none =
    found_same is_free _ _ _ (first_place c.args.port) _ None c.as_slice.ensures.value
    (ap (λ n. 16 * n) c.from-first.ensures) c.in_default.is c.free_in.ensures in
    rw (← c.self.view_is)
    (change.full c.self.inside.hosts.items c.self.inside.values.items c.self.inside.order.items
    c.self.invariant c.args.port c.requires.port none)

pub returns-in_default-clause-table : goal.returns-in_default-clause-table
returns-in_default-clause-table g c =
    rw (← c.self.view_is)
    (change.table c.self.inside.hosts.items c.self.inside.values.items c.self.inside.order.items
    c.self.invariant)

pub push-requires : goal.push-requires
push-requires g c =
    let s = (goal.at.push-requires g c).In-Some in (
      lit< tt,
      change.may_push c.self.inside.hosts.items c.self.inside.values.items c.self.inside.order.items
          c.self.invariant c.args.port c.args.mac c.args.value c.in-Some.at c.requires.port (new g s)
          (free g s),
    )

pub invariant_of-self : goal.invariant_of-self
invariant_of-self g c =
    let s = (goal.at.invariant_of-self g c).In-Some in
    rw c.push.ensures.items
    (change.kept_put c.self.inside.hosts.items c.self.inside.values.items c.self.inside.order.items
    c.self.invariant c.args.port c.args.mac c.args.value c.in-Some.at c.requires.port (new g s)
    (free g s))

pub returns-clause-taken : goal.returns-clause-taken
returns-clause-taken g c =
    let s = (goal.at.returns-clause-taken g c).In-Some in
    rw (← c.self.view_is)
    (change.taken c.self.inside.hosts.items c.self.inside.values.items c.self.inside.order.items
    c.self.invariant c.args.port c.args.mac c.args.value c.in-Some.at c.requires.port (new g s)
    (free g s))

pub returns-clause-held : goal.returns-clause-held
returns-clause-held g c =
    let s = (goal.at.returns-clause-held g c).In-Some in
    rw (← c.self.view_is, c.push.ensures.items)
    (change.put_rows c.self.inside.hosts.items c.self.inside.values.items c.self.inside.order.items
    c.self.invariant c.args.port c.args.mac c.args.value c.in-Some.at c.requires.port (new g s)
    (free g s))

pub returns-clause-room : goal.returns-clause-room
returns-clause-room g c =
    let s = (goal.at.returns-clause-room g c).In-Some in
    rw (← c.self.view_is)
    (change.room c.self.inside.hosts.items c.self.inside.values.items c.self.inside.order.items
    c.self.invariant c.args.port c.args.mac c.args.value c.in-Some.at c.requires.port (new g s)
    (free g s))

pub returns-clause-table : goal.returns-clause-table
returns-clause-table g c =
    let s = (goal.at.returns-clause-table g c).In-Some in
    rw c.push.ensures.items
    (change.table _ _ _
    (change.kept_put c.self.inside.hosts.items c.self.inside.values.items c.self.inside.order.items
    c.self.invariant c.args.port c.args.mac c.args.value c.in-Some.at c.requires.port (new g s)
    (free g s)))

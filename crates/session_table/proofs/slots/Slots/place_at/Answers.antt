-- The places of the entries are the order.
use Rattle.std.proofs.Common.{◌≡◌, ◌∙◌, sym, ap, Some, None, arith}
use Rattle.std.specs.Prelude.{slice_get}
use Rattle.std.proofs.lemmas.Grind.{common_steps}
use Rattle.std.proofs.lemmas.Option.{gets}
use Rattle.session_table.proofs.Kept.{places_are}
use Rattle.session_table.proofs.Changes.{table}
use Rattle.session_table.proofs.slots.Slots.place_at.Goals as goal

pub returns-in-Some-clause-place : goal.returns-in-Some-clause-place
returns-in-Some-clause-place g c =
    let e : Some c.from.result ≡ slice_get c.self.inside.order.items c.args.n =
    grind (arith, common_steps, gets) in
    rw (← c.self.view_is)
    (e
    ∙ ap (λ qs. slice_get qs c.args.n)
    (sym
    (places_are c.self.inside.hosts.items c.self.inside.values.items c.self.inside.order.items
    c.self.invariant)))

pub returns-in-Some-clause-table : goal.returns-in-Some-clause-table
returns-in-Some-clause-table g c =
    rw (← c.self.view_is)
    (table c.self.inside.hosts.items c.self.inside.values.items c.self.inside.order.items
    c.self.invariant)

pub returns-in-None-clause-place : goal.returns-in-None-clause-place
returns-in-None-clause-place g c =
    let e : None ≡ slice_get c.self.inside.order.items c.args.n =
    grind (arith, common_steps, gets) in
    rw (← c.self.view_is)
    (e
    ∙ ap (λ qs. slice_get qs c.args.n)
    (sym
    (places_are c.self.inside.hosts.items c.self.inside.values.items c.self.inside.order.items
    c.self.invariant)))

pub returns-in-None-clause-table : goal.returns-in-None-clause-table
returns-in-None-clause-table g c =
    rw (← c.self.view_is)
    (table c.self.inside.hosts.items c.self.inside.values.items c.self.inside.order.items
    c.self.invariant)

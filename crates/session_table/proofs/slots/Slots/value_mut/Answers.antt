-- The entry at the place has what the value there ends as.
use Rattle.std.proofs.Common.{◌≡◌, ◌∙◌, ◌<◌, sym, ap, refl, length, true, None, arith, get_or}
use Rattle.std.specs.Prelude.{is_some}
use Rattle.std.proofs.lemmas.List.{get_or_default}
use Rattle.session_table.specs.Rows.{is_held}
use Rattle.session_table.proofs.Kept.{held_below, is_some-value, value_is}
use Rattle.session_table.proofs.Changes.{renewed_rows}
use Rattle.session_table.proofs.slots.Slots.value_mut.Given.{Over}
use Rattle.session_table.proofs.slots.Slots.value_mut.Goals.{After-index_mut, After-self-1}
use Rattle.session_table.proofs.slots.Slots.value_mut.Goals as goal

-- a host is held there
held : (g : Over) (c : After-self-1 g) → is_held c.self.inside.hosts.items c.args.at ≡ true
held g c =
    sym
    (is_some-value c.self.inside.hosts.items c.self.inside.values.items c.self.inside.order.items
    c.self.invariant c.args.at)
    ∙ (rw (← c.self.view_is) at c.requires)

-- the value there, as it was
was : (g : Over) (c : After-index_mut g) → is_held c.self.inside.hosts.items c.args.at ≡ true →
    c.index_mut.result.now ≡ get_or c.self.inside.values.items c.args.at None
was g c h =
    let within : c.args.at < length c.self.inside.values.items =
    rw c.self.invariant.values_size
    (held_below c.self.inside.hosts.items c.self.inside.values.items c.self.inside.order.items
    c.self.invariant c.args.at h)
    in
    c.index_mut.ensures.value
    ∙ get_or_default c.self.inside.values.items c.args.at c.index_mut.result.now None within

pub index_mut-requires : goal.index_mut-requires
index_mut-requires g c =
    let below =
    held_below c.self.inside.hosts.items c.self.inside.values.items c.self.inside.order.items
    c.self.invariant c.args.at (held g c) in
    omega (arith, below, c.self.invariant.values_size)

pub held_mut-requires : goal.held_mut-requires
held_mut-requires g c =
    let h = held g (goal.at.held_mut-requires g c).After-self-1 in
    ap (λ o. is_some o) (was g c h) ∙ c.self.invariant.paired c.args.at ∙ h

pub returns : goal.returns
returns g c =
    let h = held g (goal.at.returns g c).After-self-1 in
    let w = was g (goal.at.returns g c).After-index_mut h in (
      (
        refl,
        λ v.
            rw (← c.self.view_is)
            (renewed_rows c.self.inside.hosts.items c.self.inside.values.items
            c.self.inside.order.items c.self.invariant c.args.at v h),
      ),
      record {
        writes_back = tt;
        value =
            rw (← c.self.view_is)
            (value_is c.self.inside.hosts.items c.self.inside.values.items c.self.inside.order.items
            c.self.invariant c.args.at
            ∙ sym w ∙ c.held_mut.ensures.value);
      },
    )

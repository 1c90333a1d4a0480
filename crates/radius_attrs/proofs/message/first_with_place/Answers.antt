use Rattle.std.proofs.Common.{subst}
use Rattle.std.proofs.lemmas.Bool.{ne_eqb}
use Rattle.radius_packet.specs.Views.{attribute}
use Rattle.radius_attrs.proofs.PlaceLemmas.{Walked, walked-next}
use Rattle.radius_attrs.proofs.message.first_with_place.Goals as goal

pub loop-kind-preserved : goal.loop-kind-preserved
loop-kind-preserved c =
    let here = subst (Walked c.args.p.now c.args.ty c.loop-kind.at) c.in-Some.ensures.steps c.loop-kind.invariant.walked in
    record {
      can_next = tt;
      is_finite = tt;
      walked = walked-next c.args.p.now c.args.ty c.loop-kind.at (attribute (c.in-Some.kind, c.in-Some.value)) c.next.new.self (ne_eqb c.in-Some.kind c.args.ty c.if-kind-ty.false) here;
    }

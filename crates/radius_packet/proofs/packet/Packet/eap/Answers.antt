use Rattle.std.proofs.Common.{length, ap, ◌∙◌, eq-eqb, arith}
use Rattle.std.proofs.lemmas.List.{length-append}
use Rattle.radius_defs.specs.Packet.{joined_values}
use Rattle.radius_defs.proofs.PacketLemmas.{joined-same, joined-few}
use Rattle.radius_packet.specs.Views.{attribute}
use Rattle.radius_packet.proofs.packet.Packet.eap.Goals as goal

-- what is joined is no longer than the attributes, for which the packet has room
pub append-requires : goal.append-requires
append-requires c =
    let left = c.next.new.self in
    let e = ap (joined_values 79) c.in-Some.ensures.steps ∙ joined-same 79 (attribute (c.in-Some.kind, c.in-Some.value)) left (eq-eqb c.in-Some.kind 79 c.if-kind-eq-EAP_MESSAGE.true) in
    omega (
      arith,
      ap length e,
      ap length c.loop-kind.invariant.joined,
      length-append c.loop-kind.out.items (joined_values 79 c.loop-kind.kind-iterator),
      length-append c.in-Some.value.now (joined_values 79 left),
      joined-few 79 c.args.self.now.attributes,
      c.attributes-kind-items.ensures.fits.body,
    )

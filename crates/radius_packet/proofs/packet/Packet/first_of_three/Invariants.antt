use Rattle.std.proofs.Common.{◌≡◌}
use Rattle.std.specs.Option.{option_or}
use Rattle.radius_defs.specs.Packet.{first_value}
use Rattle.radius_packet.specs.Views.{value_in}
use Rattle.radius_packet.proofs.packet.Packet.first_of_three.Given as goal

abbrev pub invariant-loop-kind : goal.invariant-loop-kind
invariant-loop-kind l = record {
  can_next : (goal.iterator-loop-kind).can_next l.kind-iterator;
  is_finite : (goal.iterator-loop-kind).is_finite l.kind-iterator;
  first : option_or (value_in l.first) (first_value l.a l.kind-iterator) ≡ first_value l.a l.self.attributes;
  second : option_or (value_in l.second) (first_value l.b l.kind-iterator) ≡ first_value l.b l.self.attributes;
  third : option_or (value_in l.third) (first_value l.c l.kind-iterator) ≡ first_value l.c l.self.attributes;
}

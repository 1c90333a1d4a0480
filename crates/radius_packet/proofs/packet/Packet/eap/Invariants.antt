use Rattle.std.proofs.Common.{◌≡◌, ◌||◌, ◌++◌}
use Rattle.std.specs.Prelude.{is_some}
use Rattle.radius_defs.specs.Packet.{joined_values, eap_of, first_value}
use Rattle.radius_packet.proofs.packet.Packet.eap.Given as goal

abbrev pub invariant-loop-kind : goal.invariant-loop-kind
invariant-loop-kind l = record {
  can_next : (goal.iterator-loop-kind).can_next l.kind-iterator;
  is_finite : (goal.iterator-loop-kind).is_finite l.kind-iterator;
  joined : l.out.items ++ joined_values 79 l.kind-iterator ≡ eap_of l.self.attributes;
  found : (l.is_there || is_some (first_value 79 l.kind-iterator)) ≡ is_some (first_value 79 l.self.attributes);
}

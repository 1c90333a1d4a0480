use Rattle.radius_attrs.proofs.PlaceLemmas.{Walked}
use Rattle.radius_attrs.proofs.message.first_with_place.Given as goal

abbrev pub invariant-loop-kind : goal.invariant-loop-kind
invariant-loop-kind l = record {
  can_next : (goal.iterator-loop-kind).can_next l.attributes;
  is_finite : (goal.iterator-loop-kind).is_finite l.attributes;
  walked : Walked l.p l.ty l.at l.attributes;
}

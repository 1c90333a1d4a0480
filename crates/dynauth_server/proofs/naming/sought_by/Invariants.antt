use Rattle.std.proofs.Common.{◌≡◌, ◌&&◌}
use Rattle.dynauth_defs.specs.Session.{Row, matches}
use Rattle.dynauth_server.specs.Sought.{names}
use Rattle.dynauth_server.proofs.naming.sought_by.Given as goal

abbrev pub invariant-loop-kind : goal.invariant-loop-kind
invariant-loop-kind l = record {
  can_next : (goal.iterator-loop-kind).can_next l.kind-iterator;
  is_finite : (goal.iterator-loop-kind).is_finite l.kind-iterator;
  so_far : (row : Row) → (names l.sought row && matches l.kind-iterator row) ≡ matches l.p.attributes row;
}

use Rattle.std.proofs.Common.{◌≡◌, ◌≤◌, length}
use Rattle.std.specs.List.{All}
use Rattle.radius_defs.specs.declared.attribute.TheConstants.{PROXY_STATE}
use Rattle.radius_defs.specs.declared.limit.TheConstants.{MOST_VALUE}
use Rattle.radius_defs.specs.Packet.{those_of}
use Rattle.dynauth_server.specs.Replies.{with_all}
use Rattle.dynauth_server.proofs.replying.put_proxy_states.Given as goal

abbrev pub invariant-loop-kind : goal.invariant-loop-kind
invariant-loop-kind l = record {
  can_next : (goal.iterator-loop-kind).can_next l.kind-iterator;
  is_finite : (goal.iterator-loop-kind).is_finite l.kind-iterator;
  so_far : with_all l.built (those_of PROXY_STATE l.kind-iterator) ≡ with_all l.fn.built (those_of PROXY_STATE l.request.attributes);
  short : All (λ a. length a.value ≤ MOST_VALUE) l.kind-iterator;
}

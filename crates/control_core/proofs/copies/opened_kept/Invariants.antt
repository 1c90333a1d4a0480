-- The clients before this one have an empty list each.
use Rattle.std.proofs.Common.{◌≡◌, [], map, take}
use Rattle.control_core.proofs.copies.opened_kept.Given as goal

abbrev pub invariant-loop-client : goal.invariant-loop-client
invariant-loop-client l = l.kept.items ≡ map (λ client. []) (take l._client-index l._client-items)

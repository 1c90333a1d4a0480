use Rattle.std.proofs.Common.{◌≡◌, true, length}
use Rattle.auth_publish.specs.Changes.{is_open}
use Rattle.forward_bench.proofs.post.Given as goal

-- so many changes were posted, and no Finish
abbrev pub invariant-loop : goal.invariant-loop
invariant-loop g l = (is_open l.publisher.list ≡ true) × (length l.publisher.list ≡ l.counter)

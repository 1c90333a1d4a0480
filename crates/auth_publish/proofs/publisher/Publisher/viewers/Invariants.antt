use Rattle.std.proofs.Common.{◌≡◌, ◌≤◌, length, All}
use Rattle.auth_publish.proofs.publisher.Publisher.viewers.Given as goal

-- so many viewers were made, all of this publisher
abbrev pub invariant-loop : goal.invariant-loop
invariant-loop l = (l.self ≡ l.fn.self) × (length l.all.items ≡ l.counter) × (l.counter ≤ l.count) × All (λ v. v ≡ l.fn.self) l.all.items

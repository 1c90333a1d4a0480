use Rattle.std.proofs.Common.{◌≡◌}
use Rattle.book_lock.proofs.steps.wait_and_take.Given as goal

-- nothing was changed yet
abbrev pub invariant-loop : goal.invariant-loop
invariant-loop g l = (l.chair.table_id ≡ l.fn.chair.table_id) × (l.chair.id ≡ l.fn.chair.id) × (l.chair.me ≡ l.fn.chair.me)

use Rattle.std.proofs.Common.{◌≡◌}
use Rattle.book_lock.proofs.tests.run.Given as goal

-- the seat is of the same lock, with as many parts, and knows the same book
abbrev pub invariant-loop-round : goal.invariant-loop-round
invariant-loop-round g l =
    (l.seat.chair.table_id ≡ l.fn.seat.chair.table_id)
    × (l.seat.chair.me.0.parts ≡ l.fn.seat.chair.me.0.parts)
    × (l.seat.chair.me.0.base ≡ l.fn.seat.chair.me.0.base)

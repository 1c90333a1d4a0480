use Rattle.std.proofs.Common.{◌≡◌, ◌+◌, [], length, max, All}
use Rattle.book_lock.specs.Sums.{total, gathered, top}
use Rattle.book_lock.specs.Rules.{IsFree}
use Rattle.book_lock.proofs.Gathering.{Has}
use Rattle.book_lock.proofs.lock.gather.Given as goal

-- the chair has what the seats had that were taken in
abbrev pub invariant-loop-seat : goal.invariant-loop-seat
invariant-loop-seat g l =
    (l.chair.table_id ≡ l.desk.table_id) × IsFree l.chair.me.0 × (l.chair.me.1 ≡ [])
    × All (λ s. s.chair.table_id ≡ l.desk.table_id) l.seats.items
    × (total (λ s. s.chair.me.0.parts) l.seats.items + l.chair.me.0.parts ≡ 3)
    × Has (gathered (λ s. s.chair.me.0.entries) l.fn.seats.items) (gathered (λ s. s.chair.me.0.entries) l.seats.items) l.chair.me.0.entries
    × (max (top (λ s. s.chair.me.0.mark) l.seats.items) l.chair.me.0.mark ≡ top (λ s. s.chair.me.0.mark) l.fn.seats.items)

abbrev pub decreases-loop-seat : goal.decreases-loop-seat
decreases-loop-seat g l = length l.seats.items

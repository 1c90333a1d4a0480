use Rattle.std.proofs.Common.{Some, ◌≡◌, ◌≤◌, ◌+◌, ◌-◌, [], length, map, vec_capacity, All}
use Rattle.book_lock.specs.Sums.{total, lanes_up}
use Rattle.book_lock.specs.Rules.{base_of, idle}
use Rattle.book_lock.proofs.lock.deal.Given as goal

-- the first lanes have a seat each, and the chair has the parts that are left
abbrev pub invariant-loop-lane : goal.invariant-loop-lane
invariant-loop-lane g l =
    (1 ≤ l.lane) × (l.lane ≤ l.lanes) × (l.chair.table_id ≡ l.desk.table_id)
    × (l.chair.me ≡ (idle (4 - l.lane) (base_of g.B.Booked.fixed g.B.Booked.list l.desk.key.value), []))
    × (length l.seats.items + 1 ≡ l.lane) × (vec_capacity l.seats ≡ vec_capacity l.fn.seats)
    × (total (λ s. s.chair.me.0.parts) l.seats.items + 1 ≡ l.lane)
    × All (λ s. (s.chair.table_id ≡ l.desk.table_id) × (s.chair.me.0.base ≡ Some (base_of g.B.Booked.fixed g.B.Booked.list l.desk.key.value)) × (s.chair.me.0.entries ≡ []) × (s.chair.me.0.mark ≡ 0)) l.seats.items
    × (map (λ s. s.lane) l.seats.items ≡ lanes_up (l.lane - 1))

use Rattle.std.proofs.Common.{rules, Some, ◌≡◌, ◌+◌, ◌-◌, ◌<◌, [], ◌∷◌, length, All, sym, ap, ◌∙◌, subst, arith, length-append}
use Rattle.book_lock.specs.Sums.{total, lanes_up}
use Rattle.book_lock.specs.Rules.{base_of, idle, fewer, fresh}
use Rattle.book_lock.proofs.Lists.{total_snoc, all_last, lanes_next}
use Rattle.book_lock.proofs.Keeping.{splits}
use Rattle.book_lock.proofs.lock.deal.Goals as goal

pub split_seat-part-requires : goal.split_seat-part-requires
split_seat-part-requires g c =
    let i = c.loop-lane.invariant in
    let below : c.loop-lane.lane < c.args.lanes = search rules in
    let three = c.requires.lanes.1 in
    let two : 1 < 4 - c.loop-lane.lane = omega arith in (
      i.2,
      (let w = c.requires.table.1 in omega arith),
      splits g.B.Booked.fixed g.B.Booked.list _ _ c.loop-lane.chair.me.0 (subst (λ m. 1 < m.0.parts) (sym i.3) two) (ap (λ m. m.0.turn) i.3),
    )

pub loop-lane-preserved : goal.loop-lane-preserved
loop-lane-preserved g c =
    let i = c.loop-lane.invariant in
    let below : c.loop-lane.lane < c.args.lanes = search rules in
    let three = c.requires.lanes.1 in
    let x = base_of g.B.Booked.fixed g.B.Booked.list c.args.desk.now.key.value in
    let cut = c.split_seat-part.ensures in
    let made = c.seat_of.ensures in
    let seat = c.seat_of.result in
    let part : seat.chair.me.0 ≡ idle 1 x = ap (λ (s : _). s.me.0) made.0 ∙ (ap (λ m. m.0) cut.4 ∙ ap (λ m. fresh m.0) i.3) in (
      omega arith,
      omega arith,
      cut.0 ∙ i.2,
      cut.2 ∙ ((λ k. (fewer (i.3 k).0, (i.3 k).1)) ∙ ap (λ n. (idle n x, [])) (let e : 4 - c.loop-lane.lane - 1 ≡ 4 - (c.loop-lane.lane + 1) = omega arith in e)),
      (let a = ap length c.push_reserved.ensures.items ∙ length-append c.loop-lane.seats.items (seat ∷ []) in let b = i.4 in omega arith),
      c.push_reserved.ensures.capacity ∙ i.5,
      (let a = ap (total (λ s. s.chair.me.0.parts)) c.push_reserved.ensures.items ∙ total_snoc (λ s. s.chair.me.0.parts) c.loop-lane.seats.items seat in let b : seat.chair.me.0.parts ≡ 1 = ap (λ v. v.parts) part in let d = i.6 in omega arith),
      subst (All (λ s. (s.chair.table_id ≡ c.args.desk.now.table_id) × (s.chair.me.0.base ≡ Some (base_of g.B.Booked.fixed g.B.Booked.list c.args.desk.now.key.value)) × (s.chair.me.0.entries ≡ []) × (s.chair.me.0.mark ≡ 0))) (sym c.push_reserved.ensures.items) (all_last (λ s. (s.chair.table_id ≡ c.args.desk.now.table_id) × (s.chair.me.0.base ≡ Some (base_of g.B.Booked.fixed g.B.Booked.list c.args.desk.now.key.value)) × (s.chair.me.0.entries ≡ []) × (s.chair.me.0.mark ≡ 0)) c.loop-lane.seats.items seat i.7 (ap (λ (s : _). s.table_id) made.0 ∙ (cut.3 ∙ i.2), ap (λ v. v.base) part, ap (λ v. v.entries) part, ap (λ v. v.mark) part)),
      lanes_next (λ s. s.lane) c.loop-lane.seats.items _ seat c.loop-lane.lane c.push_reserved.ensures.items made.1 i.0 i.8 ∙ ap lanes_up (let e : c.loop-lane.lane ≡ c.loop-lane.lane + 1 - 1 = omega arith in e),
    )

pub returns-clause-parts : goal.returns-clause-parts
returns-clause-parts g c =
    let i = c.loop-lane.invariant in
    let at_end : c.loop-lane.lane ≡ c.args.lanes = search rules in
    let three = c.requires.lanes.1 in
    let seat = c.seat_of-2.result in
    let parts : seat.chair.me.0.parts ≡ 4 - c.loop-lane.lane = ap (λ (s : _). s.me.0.parts) c.seat_of-2.ensures.0 ∙ ap (λ m. m.0.parts) i.3 in
    let a = ap (total (λ s. s.chair.me.0.parts)) c.push_reserved-2.ensures.items ∙ total_snoc (λ s. s.chair.me.0.parts) c.loop-lane.seats.items seat in
    let d = i.6 in
    omega arith

pub returns-clause-seats : goal.returns-clause-seats
returns-clause-seats g c =
    let i = c.loop-lane.invariant in
    let seat = c.seat_of-2.result in
    let made = c.seat_of-2.ensures in
    subst (All (λ s. (s.chair.table_id ≡ c.args.desk.now.table_id) × (s.chair.me.0.base ≡ Some (base_of g.B.Booked.fixed g.B.Booked.list c.args.desk.now.key.value)) × (s.chair.me.0.entries ≡ []) × (s.chair.me.0.mark ≡ 0))) (sym c.push_reserved-2.ensures.items) (all_last (λ s. (s.chair.table_id ≡ c.args.desk.now.table_id) × (s.chair.me.0.base ≡ Some (base_of g.B.Booked.fixed g.B.Booked.list c.args.desk.now.key.value)) × (s.chair.me.0.entries ≡ []) × (s.chair.me.0.mark ≡ 0)) c.loop-lane.seats.items seat i.7 (ap (λ (s : _). s.table_id) made.0 ∙ i.2, ap (λ (s : _). s.me.0.base) made.0 ∙ ap (λ m. m.0.base) i.3, ap (λ (s : _). s.me.0.entries) made.0 ∙ ap (λ m. m.0.entries) i.3, ap (λ (s : _). s.me.0.mark) made.0 ∙ ap (λ m. m.0.mark) i.3))

pub returns-clause-lanes : goal.returns-clause-lanes
returns-clause-lanes g c =
    let i = c.loop-lane.invariant in
    let at_end : c.loop-lane.lane ≡ c.args.lanes = search rules in
    lanes_next (λ s. s.lane) c.loop-lane.seats.items _ c.seat_of-2.result c.loop-lane.lane c.push_reserved-2.ensures.items (c.seat_of-2.ensures.1 ∙ sym at_end) i.0 i.8 ∙ ap lanes_up at_end

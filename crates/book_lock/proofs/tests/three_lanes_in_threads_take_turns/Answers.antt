use Rattle.std.proofs.Common.{rules, ◌≡◌, ◌∙◌, ap, length, slice_index_or, arith}
use Rattle.book_lock.proofs.tests.three_lanes_in_threads_take_turns.Goals as goal

pub run_lanes-requires-clause-based : goal.run_lanes-requires-clause-based
run_lanes-requires-clause-based g c κs k d l =
    let same = c.as_mut_slice.ensures.value in
    let many = ap length same in
    let seat = c.in-Ok.ensures.seats k d (omega (arith, many, l)) in
    (_, ap (λ xs. (slice_index_or xs k d).chair.me.0.base) same ∙ seat.1)

use Rattle.std.proofs.Common.{rules, ◌≡◌, List, length, slice_index_or, sym, ap, subst, arith}
use Rattle.book_lock.specs.Sums.{Each}
use Rattle.legal_defs.specs.Runs.{numbered}
use Rattle.trace_defs.specs.Entered.{entered_all}
use Rattle.switch_book.specs.declared.open_book.Fixed.{Fixed}
use Rattle.race_lanes.specs.Lanes.{LaneView, IsFresh, Done}
use Rattle.race_lanes.proofs.Turning.{each_all, written_back}
use Rattle.race_lanes.proofs.phase.run_jobs.Goals as goal

pub run_both-requires-clause-jobs : goal.run_both-requires-clause-jobs
run_both-requires-clause-jobs g c κs within =
    let same : c.as_mut_slice.result.now ≡ c.args.lane_jobs.now.items = c.as_mut_slice.ensures.value in
    let P : LaneView Fixed → Type 0 = IsFresh c.args.lock.now.table.shared.table_id (numbered c.args.first (entered_all c.args.records.now)) in
    each_all P c.as_mut_slice.result.now (subst (Each P) (sym same) c.requires.jobs)

pub returns-clause-lanes : goal.returns-clause-lanes
returns-clause-lanes g c i d l =
    let same : c.as_mut_slice.result.now ≡ c.args.lane_jobs.now.items = c.as_mut_slice.ensures.value in
    let many : length c.run_both.new.lane_jobs ≡ length c.as_mut_slice.result.now = search rules in
    let len = c.args.lane_jobs.now.ok.0 in
    let len_is : c.args.lane_jobs.now.len ≡ length c.run_both.new.lane_jobs = (let a = ap length same in omega arith) in
    let back = written_back c.run_both.new.lane_jobs c.args.lane_jobs.now.items c.args.lane_jobs.now.len len_is in
    subst (λ (z : List (LaneView Fixed) × List (LaneView Fixed)). Done c.args.lanes (numbered c.args.first (entered_all c.args.records.now)) (slice_index_or z.0 i d) (slice_index_or z.1 i d)) (λ k. (same k, sym back k)) (c.run_both.ensures.lanes i d (let a = ap length same in omega arith))

use Rattle.std.proofs.Common.{rules, ◌≡◌, ◌+◌, ◌≤◌, ◌++◌, [], List, length, map, vec_capacity, Some, sym, ap, ◌∙◌, subst, length-append, arith}
use Rattle.book_lock.specs.Sums.{Each, total}
use Rattle.book_lock.specs.Places.{times_at, Stands}
use Rattle.switch_defs.specs.Switch.{most_sessions}
use Rattle.switch_book.specs.declared.open_book.Fixed.{Fixed}
use Rattle.switch_book.specs.Locked.{based}
use Rattle.legal_defs.specs.Runs.{Numbered, numbered}
use Rattle.trace_defs.specs.Entered.{entered_all}
use Rattle.race_lanes.specs.InPhase.{PhaseOk}
use Rattle.race_lanes.specs.Lanes.{LaneView, SeatView, turned, seat_view, seat_in}
use Rattle.race_lanes.proofs.Turning.{turned_map, each_map, all_each, all_unmap, total_map, gathered_map, map_map, top_map, length_map, length_turned}
use Rattle.race_lanes.proofs.Rounds.{seats_open, ready_jobs, fresh_jobs, locks_back, parts_back, rooms_back, printed, none_full, not_so}
use Rattle.race_lanes.proofs.phase.run_locked.Goals as goal

pub run_jobs-requires-clause-jobs : goal.run_jobs-requires-clause-jobs
run_jobs-requires-clause-jobs g c κs within =
    let x = based c.args.lock.table.shared.key.value.book in
    let id = c.args.lock.table.shared.table_id in
    let rs : List Numbered = numbered c.args.first (entered_all c.args.records.now) in
    let seats : List (SeatView Fixed) = map (λ s. seat_view s.chair.table_id s.lane s.chair.me.0) c.args.seats.items in
    let js : List (LaneView Fixed) = c.jobs_of.new.jobs.items in
    let is : map seat_in js ≡ turned (λ s. s) seats = c.jobs_of.ensures.seats ∙ sym (turned_map (λ s. seat_view s.chair.table_id s.lane s.chair.me.0) (λ s. s) c.args.seats.items) in
    let told = each_map (λ s. seat_view s.chair.table_id s.lane s.chair.me.0) (λ (v : SeatView Fixed). (v.lock ≡ id) × (v.knows.base ≡ Some x) × (v.knows.entries ≡ [])) c.args.seats.items (all_each (λ s. (s.chair.table_id ≡ id) × (s.chair.me.0.base ≡ Some x) × (s.chair.me.0.entries ≡ [])) c.args.seats.items c.requires.opened) in
    let lane_numbers = map_map (λ s. seat_view s.chair.table_id s.lane s.chair.me.0) (λ (s : SeatView Fixed). s.lane) c.args.seats.items ∙ c.requires.lane_numbers in
    let ready = ready_jobs id x seats js is (seats_open id x seats told c.args.lanes c.requires.lanes.1 lane_numbers) c.jobs_of.ensures.blank in
    fresh_jobs id x rs c.requires.may_come js ready

pub gather_jobs-failed-requires-clause-room : goal.gather_jobs-failed-requires-clause-room
gather_jobs-failed-requires-clause-room g c =
    let js : List (LaneView Fixed) = c.jobs_of.new.jobs.items in
    let a = sym (length_map seat_in js) ∙ (ap length c.jobs_of.ensures.seats ∙ length_turned (λ s. seat_view s.chair.table_id s.lane s.chair.me.0) c.args.seats.items) in
    let b = c.run_jobs.ensures.count in
    let d = c.requires.count in
    let e = c.requires.room in
    let k = c.jobs_of.ensures.kept in
    let fits : length c.args.outs.now.items ≤ vec_capacity c.args.outs.now = search rules in
    let o = c.requires.outs in
    ((let r = e.1 in omega arith), (omega arith))

pub close-requires-clause-lock : goal.close-requires-clause-lock
close-requires-clause-lock g c =
    let x = based c.args.lock.table.shared.key.value.book in
    let id = c.args.lock.table.shared.table_id in
    let rs : List Numbered = numbered c.args.first (entered_all c.args.records.now) in
    let seats : List (SeatView Fixed) = map (λ s. seat_view s.chair.table_id s.lane s.chair.me.0) c.args.seats.items in
    let js : List (LaneView Fixed) = c.jobs_of.new.jobs.items in
    let is : map seat_in js ≡ turned (λ s. s) seats = c.jobs_of.ensures.seats ∙ sym (turned_map (λ s. seat_view s.chair.table_id s.lane s.chair.me.0) (λ s. s) c.args.seats.items) in
    let told = each_map (λ s. seat_view s.chair.table_id s.lane s.chair.me.0) (λ (v : SeatView Fixed). (v.lock ≡ id) × (v.knows.base ≡ Some x) × (v.knows.entries ≡ [])) c.args.seats.items (all_each (λ s. (s.chair.table_id ≡ id) × (s.chair.me.0.base ≡ Some x) × (s.chair.me.0.entries ≡ [])) c.args.seats.items c.requires.opened) in
    let lane_numbers = map_map (λ s. seat_view s.chair.table_id s.lane s.chair.me.0) (λ (s : SeatView Fixed). s.lane) c.args.seats.items ∙ c.requires.lane_numbers in
    let ready = ready_jobs id x seats js is (seats_open id x seats told c.args.lanes c.requires.lanes.1 lane_numbers) c.jobs_of.ensures.blank in
    let js' : List (LaneView Fixed) = c.run_jobs.new.lane_jobs.items in
    let many : length js' ≡ length js = c.run_jobs.ensures.count in
    let done = c.run_jobs.ensures.lanes in
    all_unmap (λ s. seat_view s.chair.table_id s.lane s.chair.me.0) (λ v. v.lock ≡ id) c.gather_jobs-failed.new.back.items (turned seat_in js') c.gather_jobs-failed.ensures.seats (locks_back id x c.args.lanes rs seats js js' is ready many done)

pub close-requires-clause-parts : goal.close-requires-clause-parts
close-requires-clause-parts g c =
    let x = based c.args.lock.table.shared.key.value.book in
    let id = c.args.lock.table.shared.table_id in
    let rs : List Numbered = numbered c.args.first (entered_all c.args.records.now) in
    let seats : List (SeatView Fixed) = map (λ s. seat_view s.chair.table_id s.lane s.chair.me.0) c.args.seats.items in
    let js : List (LaneView Fixed) = c.jobs_of.new.jobs.items in
    let is : map seat_in js ≡ turned (λ s. s) seats = c.jobs_of.ensures.seats ∙ sym (turned_map (λ s. seat_view s.chair.table_id s.lane s.chair.me.0) (λ s. s) c.args.seats.items) in
    let told = each_map (λ s. seat_view s.chair.table_id s.lane s.chair.me.0) (λ (v : SeatView Fixed). (v.lock ≡ id) × (v.knows.base ≡ Some x) × (v.knows.entries ≡ [])) c.args.seats.items (all_each (λ s. (s.chair.table_id ≡ id) × (s.chair.me.0.base ≡ Some x) × (s.chair.me.0.entries ≡ [])) c.args.seats.items c.requires.opened) in
    let lane_numbers = map_map (λ s. seat_view s.chair.table_id s.lane s.chair.me.0) (λ (s : SeatView Fixed). s.lane) c.args.seats.items ∙ c.requires.lane_numbers in
    let ready = ready_jobs id x seats js is (seats_open id x seats told c.args.lanes c.requires.lanes.1 lane_numbers) c.jobs_of.ensures.blank in
    let js' : List (LaneView Fixed) = c.run_jobs.new.lane_jobs.items in
    let many : length js' ≡ length js = c.run_jobs.ensures.count in
    let done = c.run_jobs.ensures.lanes in
    let three : total (λ (s : SeatView Fixed). s.knows.parts) seats ≡ 3 = total_map (λ s. seat_view s.chair.table_id s.lane s.chair.me.0) (λ (s : SeatView Fixed). s.knows.parts) c.args.seats.items ∙ c.requires.parts in
    sym (total_map (λ s. seat_view s.chair.table_id s.lane s.chair.me.0) (λ (s : SeatView Fixed). s.knows.parts) c.gather_jobs-failed.new.back.items)
    ∙ (ap (total (λ (s : SeatView Fixed). s.knows.parts)) c.gather_jobs-failed.ensures.seats ∙ parts_back id x c.args.lanes rs seats js js' is ready many done three)

pub returns-clause-printed : goal.returns-clause-printed
returns-clause-printed g c fine =
    let x = based c.args.lock.table.shared.key.value.book in
    let id = c.args.lock.table.shared.table_id in
    let rs : List Numbered = numbered c.args.first (entered_all c.args.records.now) in
    let seats : List (SeatView Fixed) = map (λ s. seat_view s.chair.table_id s.lane s.chair.me.0) c.args.seats.items in
    let js : List (LaneView Fixed) = c.jobs_of.new.jobs.items in
    let is : map seat_in js ≡ turned (λ s. s) seats = c.jobs_of.ensures.seats ∙ sym (turned_map (λ s. seat_view s.chair.table_id s.lane s.chair.me.0) (λ s. s) c.args.seats.items) in
    let told = each_map (λ s. seat_view s.chair.table_id s.lane s.chair.me.0) (λ (v : SeatView Fixed). (v.lock ≡ id) × (v.knows.base ≡ Some x) × (v.knows.entries ≡ [])) c.args.seats.items (all_each (λ s. (s.chair.table_id ≡ id) × (s.chair.me.0.base ≡ Some x) × (s.chair.me.0.entries ≡ [])) c.args.seats.items c.requires.opened) in
    let lane_numbers = map_map (λ s. seat_view s.chair.table_id s.lane s.chair.me.0) (λ (s : SeatView Fixed). s.lane) c.args.seats.items ∙ c.requires.lane_numbers in
    let ready = ready_jobs id x seats js is (seats_open id x seats told c.args.lanes c.requires.lanes.1 lane_numbers) c.jobs_of.ensures.blank in
    let js' : List (LaneView Fixed) = c.run_jobs.new.lane_jobs.items in
    let many : length js' ≡ length js = c.run_jobs.ensures.count in
    let done = c.run_jobs.ensures.lanes in
    let outs = c.gather_jobs-failed.new.outs.items in
    let backs : List (SeatView Fixed) = map (λ s. seat_view s.chair.table_id s.lane s.chair.me.0) c.gather_jobs-failed.new.back.items in
    let whole = c.close.ensures in
    let entries = gathered_map (λ s. seat_view s.chair.table_id s.lane s.chair.me.0) (λ (s : SeatView Fixed). s.knows.entries) c.gather_jobs-failed.new.back.items in
    let none_failed = c.gather_jobs-failed.ensures.failed (not_so c.gather_jobs-failed.result.0 fine) in
    let got = printed id x c.args.lanes rs seats js js' is ready many done c.requires.lanes.0 lane_numbers whole.log backs outs c.gather_jobs-failed.ensures.seats c.gather_jobs-failed.ensures.outs none_failed (subst (Each (Stands whole.log)) (sym entries) whole.made) (λ p. ap (times_at p) entries ∙ whole.once p) in
    let b = c.args.lock.table.shared.key.value.book in
    let list_is : c.into_book-book.result.list ≡ b.list ++ whole.log = ap (λ v. v.list) c.into_book-book.ensures.0 ∙ whole.book.1 in
    (subst (λ h. PhaseOk b.config h (length b.list) c.args.lanes rs outs) (sym list_is) got.0, ap length list_is ∙ (length-append b.list whole.log ∙ ap (λ n. length b.list + n) got.1))

pub unreachable-requires : goal.unreachable-requires
unreachable-requires g c =
    let x = based c.args.lock.table.shared.key.value.book in
    let id = c.args.lock.table.shared.table_id in
    let rs : List Numbered = numbered c.args.first (entered_all c.args.records.now) in
    let seats : List (SeatView Fixed) = map (λ s. seat_view s.chair.table_id s.lane s.chair.me.0) c.args.seats.items in
    let js : List (LaneView Fixed) = c.jobs_of.new.jobs.items in
    let is : map seat_in js ≡ turned (λ s. s) seats = c.jobs_of.ensures.seats ∙ sym (turned_map (λ s. seat_view s.chair.table_id s.lane s.chair.me.0) (λ s. s) c.args.seats.items) in
    let told = each_map (λ s. seat_view s.chair.table_id s.lane s.chair.me.0) (λ (v : SeatView Fixed). (v.lock ≡ id) × (v.knows.base ≡ Some x) × (v.knows.entries ≡ [])) c.args.seats.items (all_each (λ s. (s.chair.table_id ≡ id) × (s.chair.me.0.base ≡ Some x) × (s.chair.me.0.entries ≡ [])) c.args.seats.items c.requires.opened) in
    let lane_numbers = map_map (λ s. seat_view s.chair.table_id s.lane s.chair.me.0) (λ (s : SeatView Fixed). s.lane) c.args.seats.items ∙ c.requires.lane_numbers in
    let ready = ready_jobs id x seats js is (seats_open id x seats told c.args.lanes c.requires.lanes.1 lane_numbers) c.jobs_of.ensures.blank in
    let js' : List (LaneView Fixed) = c.run_jobs.new.lane_jobs.items in
    let many : length js' ≡ length js = c.run_jobs.ensures.count in
    let done = c.run_jobs.ensures.lanes in
    let outs = c.gather_jobs-failed.new.outs.items in
    let backs : List (SeatView Fixed) = map (λ s. seat_view s.chair.table_id s.lane s.chair.me.0) c.gather_jobs-failed.new.back.items in
    let whole = c.close.ensures in
    let entries = gathered_map (λ s. seat_view s.chair.table_id s.lane s.chair.me.0) (λ (s : SeatView Fixed). s.knows.entries) c.gather_jobs-failed.new.back.items in
    let marks = top_map (λ s. seat_view s.chair.table_id s.lane s.chair.me.0) (λ (s : SeatView Fixed). s.knows.mark) c.gather_jobs-failed.new.back.items in
    let not_full = c.gather_jobs-failed.ensures.full (none_full id x c.args.lanes rs seats js js' is ready many done c.requires.lanes.0 lane_numbers whole.log backs outs c.gather_jobs-failed.ensures.seats c.gather_jobs-failed.ensures.outs (subst (Each (Stands whole.log)) (sym entries) whole.made) (λ p. ap (times_at p) entries ∙ whole.once p) (subst (λ n. n ≤ length whole.log) (sym marks) whole.mark) c.requires.fits) in
    cc (sym c.if-full.true ∙ not_full)

pub returns-clause-trays : goal.returns-clause-trays
returns-clause-trays g c =
    let x = based c.args.lock.table.shared.key.value.book in
    let id = c.args.lock.table.shared.table_id in
    let rs : List Numbered = numbered c.args.first (entered_all c.args.records.now) in
    let seats : List (SeatView Fixed) = map (λ s. seat_view s.chair.table_id s.lane s.chair.me.0) c.args.seats.items in
    let js : List (LaneView Fixed) = c.jobs_of.new.jobs.items in
    let is : map seat_in js ≡ turned (λ s. s) seats = c.jobs_of.ensures.seats ∙ sym (turned_map (λ s. seat_view s.chair.table_id s.lane s.chair.me.0) (λ s. s) c.args.seats.items) in
    let told = each_map (λ s. seat_view s.chair.table_id s.lane s.chair.me.0) (λ (v : SeatView Fixed). (v.lock ≡ id) × (v.knows.base ≡ Some x) × (v.knows.entries ≡ [])) c.args.seats.items (all_each (λ s. (s.chair.table_id ≡ id) × (s.chair.me.0.base ≡ Some x) × (s.chair.me.0.entries ≡ [])) c.args.seats.items c.requires.opened) in
    let lane_numbers = map_map (λ s. seat_view s.chair.table_id s.lane s.chair.me.0) (λ (s : SeatView Fixed). s.lane) c.args.seats.items ∙ c.requires.lane_numbers in
    let ready = ready_jobs id x seats js is (seats_open id x seats told c.args.lanes c.requires.lanes.1 lane_numbers) c.jobs_of.ensures.blank in
    let js' : List (LaneView Fixed) = c.run_jobs.new.lane_jobs.items in
    let many : length js' ≡ length js = c.run_jobs.ensures.count in
    let done = c.run_jobs.ensures.lanes in
    subst (Each (λ o. most_sessions ≤ o.tray.sessions)) (sym c.gather_jobs-failed.ensures.outs) (rooms_back id x c.args.lanes rs seats js js' is ready many done)

pub returns-clause-outs : goal.returns-clause-outs
returns-clause-outs g c =
    let js : List (LaneView Fixed) = c.jobs_of.new.jobs.items in
    let a = sym (length_map seat_in js) ∙ (ap length c.jobs_of.ensures.seats ∙ length_turned (λ s. seat_view s.chair.table_id s.lane s.chair.me.0) c.args.seats.items) in
    let b = c.run_jobs.ensures.count in
    let d = c.requires.count in
    let e = ap length c.gather_jobs-failed.ensures.outs ∙ length_turned (λ j. j.out) c.run_jobs.new.lane_jobs.items in
    omega arith

use Rattle.std.proofs.Common.{rules, ◌≡◌, ◌≤◌, List, length, ap, sym, subst, ◌∙◌}
use mathlib.Core.List.{IsPrefix}
use Rattle.event_record.specs.Entry.{Entry}
use Rattle.table_defs.specs.Table.{Change}
use Rattle.auth_publish.specs.Changes.{front_of}
use Rattle.switch_book.specs.Book.{Book}
use Rattle.legal_defs.specs.Runs.{Numbered, numbered}
use Rattle.trace_defs.specs.Entered.{entered_all}
use Rattle.race_lanes.specs.declared.lanes.LaneOut.{LaneOut}
use Rattle.race_lanes.specs.Workers.{seen_by}
use Rattle.race_lanes.specs.Lines.{AreWhole, Merged, PhaseLines}
use Rattle.race_lanes.proofs.Phases.{known_whole, known_lines, front_told}
use Rattle.race_lanes.proofs.race.run_one.Goals as goal

pub merge-requires-clause-whole : goal.merge-requires-clause-whole
merge-requires-clause-whole g c =
    let r = c.run_phase-book in
    let rs : List Numbered = numbered c.args.number (entered_all c.args.records.now) in
    let many : length r.new.worker_jobs ≡ length c.args.jobs.now = search rules in
    let printed = r.ensures.printed c.if-not-whole.false in
    let whole = known_whole c.args.book.name c.args.book.config c.args.lanes c.args.workers (length c.args.book.list) r.result.0.list rs r.new.outs.items printed.0 c.args.jobs.now r.new.worker_jobs c.requires.count many c.requires.names
    (r.ensures.workers c.if-not-whole.false) (c.any_failed.ensures c.if-any_failed.false) in
    (c.args.number, subst (λ (z : List LaneOut). AreWhole c.args.lanes c.args.workers rs z r.new.worker_jobs) (sym c.deref.ensures.value) whole)

pub returns-in-Ok-clause-lines : goal.returns-in-Ok-clause-lines
returns-in-Ok-clause-lines g c =
    let r = c.run_phase-book in
    let rs : List Numbered = numbered c.args.number (entered_all c.args.records.now) in
    let many : length r.new.worker_jobs ≡ length c.args.jobs.now = search rules in
    let many' : length c.tell_all.new.jobs ≡ length r.new.worker_jobs = search rules in
    let printed = r.ensures.printed c.if-not-whole.false in
    let worked = r.ensures.workers c.if-not-whole.false in
    let fine = c.any_failed.ensures c.if-any_failed.false in
    let whole = known_whole c.args.book.name c.args.book.config c.args.lanes c.args.workers (length c.args.book.list) r.result.0.list rs r.new.outs.items printed.0 c.args.jobs.now r.new.worker_jobs c.requires.count many c.requires.names worked fine in
    let got = c.in-Ok.ensures.lines c.args.number (subst (λ (z : List LaneOut). AreWhole c.args.lanes c.args.workers rs z r.new.worker_jobs) (sym c.deref.ensures.value) whole) in
    let merged = subst (λ (z : List LaneOut). Merged c.args.lanes c.args.workers rs z r.new.worker_jobs got.0) c.deref.ensures.value got.3 in
    let known = known_lines c.args.book.name c.args.book.config c.args.lanes c.args.workers (length c.args.book.list) r.result.0.list rs r.new.outs.items printed.0 c.args.jobs.now r.new.worker_jobs c.requires.count many c.requires.names worked
    c.tell_all.new.jobs r.result.0.published got.0 c.requires.lanes.0 c.requires.workers.0 fine merged printed.1 many' c.tell_all.ensures.told in
    let list : r.result.0.list ≡ c.tell_all.new.book.list = sym (ap (λ (b : Book). b.list) c.tell_all.ensures.same) in (
      got.0,
      got.1,
      got.2,
      subst (λ (h : List Entry). PhaseLines c.args.book.config c.args.lanes c.args.workers (length c.args.book.list) h rs (seen_by c.args.jobs.now) (seen_by c.tell_all.new.jobs) got.0) list known.0,
    )

pub returns-in-Ok-clause-told : goal.returns-in-Ok-clause-told
returns-in-Ok-clause-told g c k l =
    let r = c.run_phase-book in
    let rs : List Numbered = numbered c.args.number (entered_all c.args.records.now) in
    let many : length r.new.worker_jobs ≡ length c.args.jobs.now = search rules in
    let many' : length c.tell_all.new.jobs ≡ length r.new.worker_jobs = search rules in
    let printed = r.ensures.printed c.if-not-whole.false in
    let worked = r.ensures.workers c.if-not-whole.false in
    let fine = c.any_failed.ensures c.if-any_failed.false in
    let whole = known_whole c.args.book.name c.args.book.config c.args.lanes c.args.workers (length c.args.book.list) r.result.0.list rs r.new.outs.items printed.0 c.args.jobs.now r.new.worker_jobs c.requires.count many c.requires.names worked fine in
    let got = c.in-Ok.ensures.lines c.args.number (subst (λ (z : List LaneOut). AreWhole c.args.lanes c.args.workers rs z r.new.worker_jobs) (sym c.deref.ensures.value) whole) in
    let merged = subst (λ (z : List LaneOut). Merged c.args.lanes c.args.workers rs z r.new.worker_jobs got.0) c.deref.ensures.value got.3 in
    let known = known_lines c.args.book.name c.args.book.config c.args.lanes c.args.workers (length c.args.book.list) r.result.0.list rs r.new.outs.items printed.0 c.args.jobs.now r.new.worker_jobs c.requires.count many c.requires.names worked
    c.tell_all.new.jobs r.result.0.published got.0 c.requires.lanes.0 c.requires.workers.0 fine merged printed.1 many' c.tell_all.ensures.told in
    let one = known.1 k l in
    let same = c.tell_all.ensures.same in
    let front : length c.tell_all.new.book.list ≤ front_of (seen_by c.tell_all.new.jobs k) = front_told c.tell_all.new.book (seen_by c.tell_all.new.jobs k) c.tell_all.ensures.tells
    (ap (λ (b : Book). b.finished) same ∙ r.ensures.same.2) (subst (λ (z : List Change). IsPrefix z (seen_by c.tell_all.new.jobs k)) (sym (ap (λ (b : Book). b.published) same)) one.1) in
    (one.0, front)

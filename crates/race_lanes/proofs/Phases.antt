-- From the jobs of a phase to its lines.
use Rattle.std.proofs.Common.{◌≡◌, ℕ, ◌+◌, ◌<◌, ◌≤◌, false, List, length, All, slice_index_or, sym, ◌∙◌, subst, arith}
use mathlib.Core.List.{IsPrefix}
use Rattle.book_lock.proofs.Lists.{each_widens}
use Rattle.logbook.specs.Pages.{Book as Name}
use Rattle.race_lanes.proofs.Ordering.{pairs_many, are_whole, phase_lines}
use Rattle.switch_event.specs.Config.{Config}
use Rattle.event_record.specs.Entry.{Entry}
use Rattle.table_defs.specs.Table.{Table, Change, opening_table}
use Rattle.auth_publish.specs.Changes.{front_of}
use Rattle.switch_book.specs.Book.{Book, IsTold}
use Rattle.switch_book.proofs.Telling.{told_front, told_alone}
use Rattle.race_lanes.proofs.Hearing.{front_grows}
use Rattle.forward_worker.proofs.Closing.{prefix_trans}
use Rattle.legal_defs.specs.Runs.{Numbered, controls_in}
use Rattle.legal_defs.specs.Blocks.{Shown, Line}
use Rattle.race_lanes.specs.declared.lanes.LaneOut.{LaneOut}
use Rattle.race_lanes.specs.declared.workers.WorkerJob.{WorkerJob}
use Rattle.race_lanes.specs.Shares.{datas_of}
use Rattle.race_lanes.specs.InPhase.{PhaseOk}
use Rattle.race_lanes.specs.Workers.{Saw, Hears, Worked, Told, IsFor, seen_by}
use Rattle.race_lanes.specs.Lines.{AreWhole, Merged, SawFrom, PhaseLines}
use Rattle.race_lanes.proofs.Seeing.{saw_stays, seen_at, some_job}

-- what tells of a history has its length as its front
pub front_told : (b : Book) (seen : List Change) → IsTold b → b.finished ≡ false → IsPrefix b.published seen → length b.list ≤ front_of seen
front_told b seen t f p =
    let a = told_front b.config b.published b.list (told_alone b f t) in let g = front_grows b.published seen p in omega arith

module _ (name : Name) (config : Config) (lanes workers from : ℕ) (h : List Entry) (records : List Numbered) (outs : List LaneOut) (k : PhaseOk config h from lanes records outs) (old new : List WorkerJob)
    (count : length old ≡ workers) (same : length new ≡ length old) (names : All (IsFor name config) old)
    (worked : (i : ℕ) (d : WorkerJob) → i < length old → Worked workers i records (slice_index_or old i d) (slice_index_or new i d)) where
  pub known_whole : All (λ (j : WorkerJob). j.failed ≡ false) new → AreWhole lanes workers records outs new
  known_whole fine = are_whole config h from lanes records outs k workers new (same ∙ count) (λ i d inn.
      let w = worked i d (omega arith) in
      let hears = w.heard (fine i d (omega arith)) in
      pairs_many (Saw (slice_index_or old i d).worker.first (slice_index_or old i d).worker.list (slice_index_or new i d).worker.list) (datas_of workers i records) (slice_index_or new i d).decided hears.0)

  -- the lines, when every worker was told afterwards
  pub known_lines : (last : List WorkerJob) (published : List Change) (ls : List Line) → 0 < lanes → 0 < workers → All (λ (j : WorkerJob). j.failed ≡ false) new → Merged lanes workers records outs new ls
      → length h ≡ from + controls_in records → length last ≡ length new → ((i : ℕ) (d : WorkerJob) → i < length new → Told published (slice_index_or new i d) (slice_index_or last i d))
      → PhaseLines config lanes workers from h records (seen_by old) (seen_by last) ls
      × ((i : ℕ) → i < workers → IsPrefix (seen_by old i) (seen_by last i) × IsPrefix published (seen_by last i))
      × All (IsFor name config) last
  known_lines last published ls above some fine m many ended told =
      let first = opening_table config in
      let got = phase_lines config h from lanes records outs k workers new ls m above some (seen_by old) (seen_by new) first many (λ i inn.
      let l : i < length old = omega arith in
      let d = some_job old i l in
      let w = worked i d l in
      let hears = w.heard (fine i d (omega arith)) in
      subst (λ (z : Table × List Change × List Change × List Shown). Hears z.0 z.1 z.2 (datas_of workers i records) z.3)
      (λ j. ((names i d l).1 j, sym (seen_at old i l d) j, sym (seen_at new i (omega arith) d) j, sym (m.heard i d inn) j)) hears) in
      let grows : (i : ℕ) → i < workers → IsPrefix (seen_by new i) (seen_by last i) = λ i inn.
      let d = some_job old i (omega arith) in
      let t = told i d (omega arith) in
      subst (λ (z : List Change × List Change). IsPrefix z.0 z.1) (λ j. (sym (seen_at new i (omega arith) d) j, sym (seen_at last i (omega arith) d) j)) t.grows in (
        record {
          each = m.each;
          replies = got.0;
          saw = each_widens (SawFrom first workers (seen_by old) (seen_by new)) (SawFrom first workers (seen_by old) (seen_by last)) ls (saw_stays first workers (seen_by old) (seen_by new) (seen_by last) some grows) got.1;
          order = got.2;
          once = got.3;
          none_before = got.4;
          count = many;
        },
        (λ i inn.
            let l : i < length old = omega arith in
            let d = some_job old i l in
            let w = worked i d l in
            let t = told i d (omega arith) in
            let g : IsPrefix (seen_by old i) (seen_by new i) = subst (λ (z : List Change × List Change). IsPrefix z.0 z.1) (λ j. (sym (seen_at old i l d) j, sym (seen_at new i (omega arith) d) j)) w.grows in
            (prefix_trans (seen_by old i) (seen_by new i) (seen_by last i) g (grows i inn), subst (λ z. IsPrefix published z) (sym (seen_at last i (omega arith) d)) t.told)),
        (λ i d l.
            let w = worked i d (omega arith) in
            let t = told i d (omega arith) in
            let n = names i d (omega arith) in
            (t.name ∙ (w.name ∙ n.0), t.first ∙ (w.first ∙ n.1))),
      )

use Rattle.std.proofs.Common.{refl, ◌≡◌, ◌+◌, ◌≤◌, ◌<◌, ◌++◌, ℕ, List, length, take, drop, All, ap, ◌∙◌, subst, sym, arith}
use Rattle.std.proofs.lemmas.Result.{IfOk-at_ok}
use mathlib.Core.List.{IsPrefix}
use Rattle.auth_publish.specs.Changes.{front_of}
use Rattle.switch_event.specs.Config.{Config}
use Rattle.logbook.specs.Pages.{Book as Name}
use Rattle.legal_defs.specs.Runs.{Numbered, numbered}
use Rattle.legal_defs.specs.Blocks.{Line, text_of, forwarded_in}
use Rattle.trace_defs.specs.Entered.{entered, entered_all}
use Rattle.race_lanes.specs.declared.workers.WorkerJob.{WorkerJob}
use Rattle.race_lanes.specs.Workers.{IsFor, seen_by}
use Rattle.race_lanes.specs.Lines.{PhaseLines}
use Rattle.race_lanes.specs.Standing.{Run, Stands}
use Rattle.race_lanes.proofs.Turning.{length_map, written_back}
use Rattle.race_lanes.proofs.Keeping.{stands_more}
use Rattle.race_lanes.proofs.Ending.{stands_begun}
use Rattle.race_lanes.proofs.race.Race.phase.Goals as goal

pub invariant_of-result : goal.invariant_of-result
invariant_of-result g c =
    let r = c.run_one-book in
    let inv = c.self.invariant in
    let book = c.self.inside.book in
    let jobs = c.self.inside.jobs in
    let new : List WorkerJob = r.new.jobs in
    let len = jobs.ok.0 in
    let count = r.ensures.count in
    let len_is : jobs.len ≡ length new = (let a = inv.5 in omega arith) in
    let back : take jobs.len (new ++ drop (length new) jobs.items) ≡ new = written_back new jobs.items jobs.len len_is in
    let names : All (IsFor book.name book.config) new = IfOk-at_ok (λ n. All (IsFor book.name book.config) new) c.in-Ok.is r.ensures.names in
    let few : c.in-Ok.more ≤ length c.args.records.now = IfOk-at_ok (λ (n : ℕ). n ≤ length c.args.records.now) c.in-Ok.is r.ensures.few in (
      r.ensures.same.2,
      inv.1,
      inv.2,
      inv.3,
      inv.4,
      ap length back ∙ count,
      subst (λ (z : Name × Config × List WorkerJob). All (IsFor z.0 z.1) z.2) (λ i. (sym r.ensures.same.1 i, sym r.ensures.same.0 i, sym back i)) names,
      r.ensures.outs,
      (let a = inv.8 in omega arith),
      r.ensures.trays,
    )

pub returns-in-Ok-clause-stands : goal.returns-in-Ok-clause-stands
returns-in-Ok-clause-stands g c phases was s =
    let r = c.run_one-book in
    let inv = c.self.invariant in
    let book = c.self.inside.book in
    let jobs = c.self.inside.jobs in
    let lanes = c.self.inside.lanes in
    let workers = c.self.inside.workers in
    let rs : List Numbered = numbered c.self.inside.number (entered_all c.args.records.now) in
    let old : List WorkerJob = c.as_mut_slice.result.now in
    let new : List WorkerJob = r.new.jobs in
    let len = jobs.ok.0 in
    let count = r.ensures.count in
    let len_is : jobs.len ≡ length new = (let a = inv.5 in omega arith) in
    let back : take jobs.len (new ++ drop (length new) jobs.items) ≡ new = written_back new jobs.items jobs.len len_is in
    let same : old ≡ jobs.items = c.as_mut_slice.ensures.value in
    let got = IfOk-at_ok (λ (n : ℕ). (ls : List Line) × (r.new.text.items ≡ c.args.text.now.items ++ text_of ls) × (n ≡ forwarded_in ls)
    × PhaseLines book.config lanes workers (length book.list) r.result.0.list rs (seen_by old) (seen_by new) ls) c.in-Ok.is r.ensures.lines in
    let lines = subst (λ (z : List WorkerJob × List WorkerJob). PhaseLines book.config lanes workers (length book.list) r.result.0.list rs (seen_by z.0) (seen_by z.1) got.0) (λ i. (same i, sym back i)) got.3 in
    let told = subst (λ (z : List WorkerJob × List WorkerJob). (k : ℕ) → k < workers → IsPrefix (seen_by z.0 k) (seen_by z.1 k) × (length r.result.0.list ≤ front_of (seen_by z.1 k))) (λ i. (same i, sym back i))
    (IfOk-at_ok (λ n. (k : ℕ) → k < workers → IsPrefix (seen_by old k) (seen_by new k) × (length r.result.0.list ≤ front_of (seen_by new k))) c.in-Ok.is r.ensures.told) in
    let stood = subst (λ (run : Run). Stands run phases was) (sym c.self.view_is) s in
    let many : c.self.inside.number + length c.args.records.now ≡ c.self.inside.number + length (entered_all c.args.records.now) = ap (λ n. c.self.inside.number + n) (sym (length_map entered c.args.records.now)) in
    let count_is : c.self.inside.forwarded + c.in-Ok.more ≡ c.self.inside.forwarded + forwarded_in got.0 = ap (λ n. c.self.inside.forwarded + n) got.2 in (
      text_of got.0,
      got.1,
      stands_more _ _ phases (entered_all c.args.records.now) was got.0 inv.3 r.ensures.same.0 refl refl many count_is lines r.ensures.grows told stood,
    )

pub returns-in-Err-clause-begun : goal.returns-in-Err-clause-begun
returns-in-Err-clause-begun g c phases was s = stands_begun c.args.self phases was s

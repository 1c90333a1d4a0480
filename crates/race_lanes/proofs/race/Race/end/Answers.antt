use Rattle.std.proofs.Common.{◌≡◌, ◌++◌, ◌∷◌, [], ℕ, List, IfOk, All, subst}
use mathlib.Core.List.{IsPrefix}
use Rattle.table_defs.specs.Table.{Finish}
use Rattle.trace_defs.specs.Line.{Record}
use Rattle.std.proofs.lemmas.Result.{IfOk-weaker}
use Rattle.legal_defs.specs.Legal.{LegalBy, IsBegun}
use Rattle.race_lanes.specs.declared.workers.WorkerJob.{WorkerJob}
use Rattle.race_lanes.specs.Standing.{Run, Stands}
use Rattle.race_lanes.proofs.Ending.{stands_legal, stands_begun, all_closed, err_any}
use Rattle.race_lanes.proofs.race.Race.end.Goals as goal

pub returns-clause-legal : goal.returns-clause-legal
returns-clause-legal g c =
    let r = c.finish_all-closed in
    let P : Run → Type 0 = λ run. (phases : List (List Record)) (text : List ℕ) → Stands run phases text → IfOk r.result (λ x. LegalBy run.config run.lanes run.workers phases text run.history run.forwarded) in
    let inv = c.self.invariant in
    let jobs = c.self.inside.jobs.items in
    let same : c.as_mut_slice.result.now ≡ jobs = c.as_mut_slice.ensures.value in
    subst P c.self.view_is (λ phases text s. IfOk-weaker r.result _ _ (λ u h.
    let closed = subst (λ (js : List WorkerJob). All (λ (j : WorkerJob). IsPrefix j.worker.list (h.0 ++ Finish ∷ [])) js) same h.2 in
    stands_legal _ h.0 phases text inv.3 h.1 (all_closed (h.0 ++ Finish ∷ []) jobs c.self.inside.workers inv.5 closed) s) r.ensures)

pub returns-clause-begun : goal.returns-clause-begun
returns-clause-begun g c phases text s = err_any (IsBegun c.args.self.config c.args.self.lanes c.args.self.workers phases text) c.finish_all-closed.result (stands_begun c.args.self phases text s)

-- What the workers have seen.
use Rattle.std.proofs.Common.{◌≡◌, ℕ, zero, suc, ◌-◌, ◌%◌, ◌<◌, mod-lt, List, [], ◌∷◌, length, slice_index_or, refl, arith}
use mathlib.Core.List.{IsPrefix}
use Rattle.table_defs.specs.Table.{Table, Change}
use Rattle.legal_defs.specs.Runs.{served_by}
use Rattle.legal_defs.specs.Blocks.{Line}
use Rattle.legal_defs.specs.Blocks.Line.{Reply, Decision}
use Rattle.race_lanes.specs.declared.workers.WorkerJob.{WorkerJob}
use Rattle.race_lanes.specs.Workers.{seen_by}
use Rattle.race_lanes.specs.Lines.{SawFrom}
use Rattle.race_lanes.proofs.Hearing.{saw_later}

pub saw_stays : (first : Table) (workers : ℕ) (least most most' : ℕ → List Change) → 0 < workers → ((k : ℕ) → k < workers → IsPrefix (most k) (most' k)) → (l : Line) → SawFrom first workers least most l → SawFrom first workers least most' l
saw_stays first workers least most most' some grow (Reply e s) w = tt
saw_stays first workers least most most' some grow (Decision x d) w = saw_later first (least (served_by workers x.port)) (most (served_by workers x.port)) (most' (served_by workers x.port)) x d (grow ((x.port - 1) % workers) (mod-lt (x.port - 1) some)) w

pub seen_at : (jobs : List WorkerJob) (k : ℕ) → k < length jobs → (d : WorkerJob) → seen_by jobs k ≡ (slice_index_or jobs k d).worker.list
seen_at [] k l d = absurd (omega arith)
seen_at (j ∷ jobs) zero l d = refl
seen_at (j ∷ jobs) (suc k) l d = seen_at jobs k (omega arith) d

pub some_job : (jobs : List WorkerJob) (k : ℕ) → k < length jobs → WorkerJob
some_job [] k l = absurd (omega arith)
some_job (j ∷ jobs) k l = j

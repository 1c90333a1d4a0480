-- What is known of a worker while it runs.
use Rattle.std.specs.Prelude.{◌≡◌, ℕ, zero, suc, false, List, [], ◌∷◌, ◌++◌, map}
use mathlib.Core.List.{IsPrefix}
use Rattle.logbook.specs.Pages.{Book as Name}
use Rattle.switch_event.specs.Config.{Config}
use Rattle.switch_event.specs.declared.decision.Decision.{Decision as Decided}
use Rattle.table_defs.specs.Table.{Table, Change, changed_by, decide_table, opening_table}
use Rattle.auth_publish.specs.Changes.{front_of}
use Rattle.trace_defs.specs.Output.{data_block}
use Rattle.legal_defs.specs.Runs.{DataRecord, Numbered}
use Rattle.legal_defs.specs.Blocks.{Shown, forwards_one}
use Rattle.race_lanes.specs.declared.workers.WorkerJob.{WorkerJob}
use Rattle.race_lanes.specs.Shares.{datas_of}
use Rattle.race_lanes.specs.InPhase.{Pairs, NoFall, counts}

-- what is decided by this list of changes
abbrev pub list_decides : Table → List Change → DataRecord → Decided
list_decides first list x = decide_table (changed_by first list) x.port x.octets

-- and its block
abbrev pub list_text : Table → List Change → DataRecord → (front : ℕ) → List ℕ
list_text first list x front =
    data_block x.number front (list_decides first list x) x.octets

-- the decision was made by a list between these two
pub record Saw (first : Table) (least most : List Change) (x : DataRecord)
    (d : Shown) : Type 0 where
  pub list : List Change
  pub begins : IsPrefix least list
  pub within : IsPrefix list most
  pub front : d.count ≡ front_of list
  pub text : d.text ≡ list_text first list x d.count
  pub forwards : d.forwards ≡ forwards_one (list_decides first list x)

-- what a worker decided on these
abbrev pub Hears : Table → (least most : List Change) → List DataRecord → List Shown → Type 0
Hears first least most xs ds = Pairs (Saw first least most) xs ds × NoFall (counts ds)

-- the worker decided on this record, by the list that it has then seen
pub record Heard (first : Table) (list : List Change) (x : DataRecord)
    (old new : List Shown) : Type 0 where
  pub shown : Shown
  pub is : new ≡ old ++ shown ∷ []
  pub front : shown.count ≡ front_of list
  pub text : shown.text ≡ list_text first list x shown.count
  pub forwards : shown.forwards ≡ forwards_one (list_decides first list x)

-- the worker has decided on these records
pub record Worked (workers k : ℕ) (records : List Numbered) (old new : WorkerJob) : Type 0 where
  pub name : new.worker.name ≡ old.worker.name
  pub first : new.worker.first ≡ old.worker.first
  pub grows : IsPrefix old.worker.list new.worker.list
  pub heard : new.failed ≡ false
      → Hears old.worker.first old.worker.list new.worker.list
      (datas_of workers k records) new.decided

-- the worker was told of this published list
pub record Told (published : List Change) (old new : WorkerJob) : Type 0 where
  pub name : new.worker.name ≡ old.worker.name
  pub first : new.worker.first ≡ old.worker.first
  pub grows : IsPrefix old.worker.list new.worker.list
  pub told : IsPrefix published new.worker.list

-- a worker of this book
abbrev pub IsFor : Name → Config → WorkerJob → Type 0
IsFor name c j = (j.worker.name ≡ name) × (j.worker.first ≡ opening_table c)

-- of some lists that of a worker
abbrev pub at_worker : List (List Change) → ℕ → List Change
at_worker [] k = []
at_worker (l ∷ ls) zero = l
at_worker (l ∷ ls) (suc k) = at_worker ls k

-- the longest list that each worker has seen
abbrev pub lists_seen : List WorkerJob → List (List Change)
lists_seen jobs = map (λ (j : WorkerJob). j.worker.list) jobs

abbrev pub seen_by : List WorkerJob → ℕ → List Change
seen_by jobs k = at_worker (lists_seen jobs) k

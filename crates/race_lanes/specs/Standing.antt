-- How far a parallel run has come.
use Rattle.std.specs.Prelude.{◌≡◌, ℕ, ◌+◌, ◌<◌, ◌≤◌, List, [], ◌∷◌, length}
use Rattle.switch_event.specs.Config.{Config}
use Rattle.event_record.specs.Entry.{Entry}
use Rattle.table_defs.specs.Table.{Change, opening_table}
use Rattle.auth_publish.specs.Changes.{front_of}
use Rattle.trace_defs.specs.Line.{Record}
use Rattle.legal_defs.specs.Runs.{Place, places}
use Rattle.legal_defs.specs.Blocks.{Block, lines_of, text_of, forwarded_in}
use Rattle.legal_defs.specs.Legal.{Each, Ordered}
use Rattle.race_lanes.specs.Workers.{at_worker}
use Rattle.race_lanes.specs.Lines.{SawFrom}

-- what contracts see of a run between two phases: its settings, how many lanes and workers it has,
-- the number of the next record, the history, the longest list of changes that each worker has
-- seen, and how many frames were forwarded
pub record Run : Type 0 where
  pub config : Config
  pub lanes : ℕ
  pub workers : ℕ
  pub number : ℕ
  pub history : List Entry
  pub seen : List (List Change)
  pub forwarded : ℕ

abbrev pub records_in : List (List Record) → ℕ
records_in [] = 0
records_in (p ∷ ps) = length p + records_in ps

-- what was printed of some records is in order by this history, each decision was made by a
-- beginning of what its worker has seen, and each worker was told of the whole history
pub record Kept (c : Config) (lanes workers : ℕ) (at : List Place) (h : List Entry)
    (seen : ℕ → List Change) (blocks : List Block) : Type 0 where
  pub ordered : Ordered c lanes workers at h blocks
  pub saw : Each (λ (b : Block). SawFrom (opening_table c) workers (λ k. []) seen b.line) blocks
  pub told : (k : ℕ) → k < workers → length h ≤ front_of (seen k)

-- the run has printed this text for these phases
pub record Stands (r : Run) (phases : List (List Record)) (text : List ℕ) : Type 0 where
  pub number : r.number ≡ 1 + records_in phases
  pub blocks : List Block
  pub kept : Kept r.config r.lanes r.workers (places phases) r.history (at_worker r.seen) blocks
  pub printed : text ≡ text_of (lines_of blocks)
  pub forwarded : r.forwarded ≡ forwarded_in (lines_of blocks)

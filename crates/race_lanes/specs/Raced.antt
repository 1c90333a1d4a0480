-- What a run on lanes and workers has given.
use Rattle.std.specs.Prelude.{◌≡◌, ℕ, List, length}
use Rattle.switch_event.specs.Config.{Config}
use Rattle.trace_defs.specs.Line.{Record}
use Rattle.history_defs.specs.Output.{controls_in, records_of}
use Rattle.race_lanes.specs.Standing.{Run, Stands}

-- the run on these lanes and workers has printed this text for these phases
pub record RacedBy (lanes workers : ℕ) (r : Run) (c : Config) (phases : List (List Record))
    (text : List ℕ) : Type 0 where
  pub config : r.config ≡ c
  pub lanes_are : r.lanes ≡ lanes
  pub workers_are : r.workers ≡ workers
  pub stands : Stands r phases text
  pub count : length r.history ≡ controls_in (records_of phases)

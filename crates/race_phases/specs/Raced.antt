-- What a run on lanes and workers gives, and how it ends.
use Rattle.std.specs.Prelude.{ℕ, List, Option, MatchOption, slice_index_or}
use Rattle.switch_event.specs.Config.{Config}
use Rattle.legal_defs.specs.Legal.{IsLegal, IsBegun}
use Rattle.race_lanes.specs.Standing.{Run}
use Rattle.race_lanes.specs.Raced.{RacedBy}
use Rattle.race_run.specs.Runs.{Phased}
use Rattle.race_run.specs.Ending.{RunEnds}
use Rattle.race_run.specs.declared.ending.Ending.{Ending}
use Rattle.race_run.specs.declared.ending.Ending.TheVariants.{NoMemory}
use Rattle.race_phases.specs.declared.parallel.InParallel.{InParallel}

-- the text is legal for these phases
abbrev pub legal_by : (lanes workers : ℕ) → Phased
legal_by lanes workers c phases text = IsLegal c lanes workers phases text

-- or has begun so
abbrev pub begun_by : (lanes workers : ℕ) → Phased
begun_by lanes workers c phases text = IsBegun c lanes workers phases text

-- the same, where the lanes and the workers stand in a list
abbrev pub gave : List ℕ → Phased
gave numbers = begun_by (slice_index_or numbers 0 0) (slice_index_or numbers 1 0)

abbrev pub HasRaced : InParallel → Phased
HasRaced p c phases text =
    MatchOption p.race ⊥ (λ (r : Run). RacedBy p.lanes p.workers r c phases text)

-- How a run ends. What a sink took is legal for the phases that were ended, and where there was no
-- memory it has begun so, as at some end of a run.
abbrev pub RaceEnds : (lanes workers limit room : ℕ) → Config
    → (before left origin after : Option (List ℕ))
    → Ending → Type 0
RaceEnds lanes workers limit room config before left origin after NoMemory =
    (ending : Ending)
    × RunEnds (begun_by lanes workers)
    (begun_by lanes workers) limit room config before left origin after ending
RaceEnds lanes workers limit room config before left origin after ending =
    RunEnds (begun_by lanes workers)
    (legal_by lanes workers) limit room config before left origin after ending

-- How a day ends that is run as a whole.
use Rattle.std.specs.Prelude.{◌≡◌, ◌<◌, ℕ, List, [], length, take, Option}
use Rattle.std.specs.Io.KnownBytes.{Appends}
use Rattle.race_run.specs.declared.ending.Ending.{Ending}
use Rattle.race_run.specs.declared.ending.Ending.TheVariants.{Done, NoMemory, WriteFault}
use Rattle.day_defs.specs.Day.{recorded_day}
use Rattle.day_load.specs.declared.summary.Summary.{Summary}
use Rattle.day_load.specs.Summary.{Sums, summary_text}

-- a sink took the line that tells what the day came to
pub record TellsAll (hosts : ℕ) (origin after : Option (List ℕ)) : Type 0 where
  pub summary : Summary
  pub sums : Sums (recorded_day hosts) summary
  pub taken : Appends origin after (summary_text hosts summary)

-- or a proper part of it
pub record TellsPart (hosts : ℕ) (origin after : Option (List ℕ)) : Type 0 where
  pub summary : Summary
  pub sums : Sums (recorded_day hosts) summary
  pub n : ℕ
  pub proper : n < length (summary_text hosts summary)
  pub taken : Appends origin after (take n (summary_text hosts summary))

-- no other ending comes
abbrev pub LoadEnds : (hosts : ℕ) → (origin after : Option (List ℕ)) → Ending → Type 0
LoadEnds hosts origin after Done = TellsAll hosts origin after
LoadEnds hosts origin after WriteFault = TellsPart hosts origin after
LoadEnds hosts origin after NoMemory = Appends origin after []
LoadEnds hosts origin after ending = ⊥

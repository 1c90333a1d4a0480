-- How a run ends that counts the records of a trace.
use Rattle.std.specs.Prelude.{◌≡◌, ◌<◌, ◌++◌, ℕ, List, [], length, take, Option}
use Rattle.std.specs.Io.KnownBytes.{Appends, Consumes, IsAtEnd}
use Rattle.switch_event.specs.Config.{Config}
use Rattle.trace_defs.specs.Trace.{fate, whole}
use Rattle.history_defs.specs.Output.{counts_text}
use Rattle.race_run.specs.Ending.{OfText, IsRefusedAt}
use Rattle.race_run.specs.declared.ending.Ending.{Ending}
use Rattle.race_run.specs.declared.ending.Ending.TheVariants.{Done, NoMemory, Refused, ReadFault, WriteFault, Full, TooLong}

-- the numbers of records and of control records of a text
abbrev pub counts_of : ℕ → ℕ → Config → List ℕ → List ℕ
counts_of limit room config text = counts_text (whole limit room config text)

-- the text was read to its end, it is one that runs, and a proper part of its numbers was taken
pub record HalfCounted (limit room : ℕ) (config : Config) (given : List ℕ)
    (left origin after : Option (List ℕ)) : Type 0 where
  pub n : ℕ
  pub fated : fate limit room config given ≡ 0
  pub at_end : IsAtEnd left
  pub proper : n < length (counts_of limit room config given)
  pub taken : Appends origin after (take n (counts_of limit room config given))

-- the status is that of the text, and nothing was taken
pub record FailsByFate (limit room : ℕ) (config : Config) (text : List ℕ)
    (origin after : Option (List ℕ)) (status : ℕ) : Type 0 where
  pub fated : fate limit room config text ≡ status
  pub nothing : Appends origin after []

-- all was read, and the numbers were taken
pub record CountsAll (limit room : ℕ) (config : Config) (text : List ℕ)
    (origin after : Option (List ℕ)) : Type 0 where
  pub fated : fate limit room config text ≡ 0
  pub output : Appends origin after (counts_of limit room config text)

abbrev pub CountEndsAfter : ℕ → ℕ → Config → List ℕ → Option (List ℕ) → Option (List ℕ)
    → Option (List ℕ) → Ending → Type 0
CountEndsAfter limit room config given left origin after Done =
    IsAtEnd left × CountsAll limit room config given origin after
CountEndsAfter limit room config given left origin after (Refused line why) =
    OfText left (λ rest. FailsByFate limit room config (given ++ rest) origin after 3
    × IsRefusedAt limit room config (given ++ rest) line why)
CountEndsAfter limit room config given left origin after Full =
    OfText left (λ rest. FailsByFate limit room config (given ++ rest) origin after 6)
CountEndsAfter limit room config given left origin after TooLong =
    OfText left (λ rest. FailsByFate limit room config (given ++ rest) origin after 8)
CountEndsAfter limit room config given left origin after ReadFault = Appends origin after []
CountEndsAfter limit room config given left origin after WriteFault =
    HalfCounted limit room config given left origin after
CountEndsAfter limit room config given left origin after NoMemory = Appends origin after []

-- how it ends, by what the source had left and has left
abbrev pub CountEnds : ℕ → ℕ → Config → Option (List ℕ) → Option (List ℕ) → Option (List ℕ)
    → Option (List ℕ) → Ending → Type 0
CountEnds limit room config before left origin after ending =
    (given : List ℕ) × Consumes before left given
    × CountEndsAfter limit room config given left origin after ending

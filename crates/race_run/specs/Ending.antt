-- How a run ends: its status, what it has written by then, and what is said.
use Rattle.std.specs.Prelude.{◌≡◌, ◌⊎◌, ◌<◌, ◌≤◌, ◌+◌, ◌++◌, ◌∷◌, [], ℕ, List, length, take, Option, None, Some, Ok, Err, Result}
use Rattle.std.specs.Io.KnownBytes.{Appends, Consumes, IsAtEnd}
use Rattle.wire_defs.specs.Outside.{Rose}
use Rattle.switch_event.specs.Config.{Config}
use Rattle.trace_defs.specs.Line.{Record}
use Rattle.trace_defs.specs.Reading.{HasRead, ended_reading}
use Rattle.trace_defs.specs.Trace.{Progress, after_line, fate, whole, trace_of, progress_of, reason_of}
use Rattle.trace_defs.specs.Trace.Reading.{Going}
use Rattle.history_defs.specs.Status.{status_text, refusal_text}
use Rattle.race_run.specs.Runs.{Phased, IsGiven}
use Rattle.race_run.specs.declared.ending.Ending.{Ending}
use Rattle.race_run.specs.declared.ending.Ending.TheVariants.{Done, NoMemory, Refused, ReadFault, WriteFault, Full, TooLong}

abbrev pub status_of : Ending → ℕ
status_of Done = 0
status_of NoMemory = 1
status_of (Refused line why) = 3
status_of ReadFault = 4
status_of WriteFault = 5
status_of Full = 6
status_of TooLong = 8

-- what is said of an ending
abbrev pub ending_text : Ending → List ℕ
ending_text (Refused line why) = refusal_text line why
ending_text ending = status_text (status_of ending)

-- the count never falls, and a write fault comes only where it rose
pub record HasEndingCause {T : Type 0} (before now : ℕ) (result : Result T Ending) : Type 0 where
  pub later : before ≤ now
  pub failed : result ≡ Err WriteFault → Rose before now
  pub no_read : result ≡ Err ReadFault → ⊥

abbrev pub EndingCause : ℕ → ℕ → Ending → Type 0
EndingCause before now ending = HasEndingCause {T = ℕ} before now (Err ending)

-- this holds of the octets that a source has, where it tells them, and else of some octets
abbrev pub OfText : Option (List ℕ) → (List ℕ → Type 0) → Type 0
OfText None P = (text : List ℕ) × P text
OfText (Some text) P = P text

-- what a sink took was given for these phases
pub record TakesPhases (ran : Phased) (origin after : Option (List ℕ)) (config : Config)
    (phases : List (List Record)) : Type 0 where
  pub text : List ℕ
  pub for_phases : IsGiven ran config phases text
  pub taken : Appends origin after text

-- it was given for the phases that were ended
abbrev pub TakesEnded : Phased → Option (List ℕ) → Option (List ℕ) → Progress → Type 0
TakesEnded ran origin after p = TakesPhases ran origin after p.config p.done

-- It is what was given for the phases that were ended, and a proper part of what was then given for
-- the open one.
pub record TakesPart (gave ran : Phased) (origin after : Option (List ℕ)) (p : Progress) : Type 0 where
  pub was : List ℕ
  pub more : List ℕ
  pub n : ℕ
  pub before : IsGiven gave p.config p.done was
  pub for_phases : ran p.config (p.done ++ p.current ∷ []) (was ++ more)
  pub proper : n < length more
  pub taken : Appends origin after (was ++ take n more)

-- the status is that of the text, and what the sink took was given for the whole phases of the text
pub record EndsByFate (ran : Phased) (limit room : ℕ) (config : Config) (text : List ℕ)
    (origin after : Option (List ℕ)) (status : ℕ) : Type 0 where
  pub fated : fate limit room config text ≡ status
  pub output : TakesPhases ran origin after (progress_of (trace_of limit room config text)).config
      (whole limit room config text)

-- this line of the text is refused, for this reason
pub record IsRefusedAt (limit room : ℕ) (config : Config) (text : List ℕ)
    (line why : ℕ) : Type 0 where
  pub line_is : line ≡ (progress_of (trace_of limit room config text)).lines + 1
  pub why_is : why ≡ reason_of (trace_of limit room config text)

-- what is said of the line that is refused
abbrev pub refusal_of : ℕ → ℕ → Config → List ℕ → List ℕ
refusal_of limit room config text =
    refusal_text ((progress_of (trace_of limit room config text)).lines + 1)
    (reason_of (trace_of limit room config text))

-- what the sink took was given for the phases whose last line ended in the octets
abbrev pub TakesGiven : Phased → ℕ → Config → List ℕ → Option (List ℕ) → Option (List ℕ) → Type 0
TakesGiven ran room config given origin after =
    TakesEnded ran origin after (progress_of (ended_reading room config given))

-- The octets end with a line that ends a phase, and this stands behind the line. The lines before
-- it lead to `p`.
pub record EndsPhase (room : ℕ) (config : Config) (given : List ℕ) (p : Progress)
    (feed : List ℕ) : Type 0 where
  pub before : List ℕ
  pub line : List ℕ
  pub q : Progress
  pub split : given ≡ before ++ feed
  pub read : HasRead room config before p line
  pub next : after_line room p line ≡ Ok q
  pub phase : q.done ≡ p.done ++ p.current ∷ []

-- A phase was not written as a whole: the octets end with the line that ends it, or it ends where
-- the text does.
pub record HalfWritten (gave ran : Phased) (limit room : ℕ) (config : Config) (given : List ℕ)
    (left origin after : Option (List ℕ)) : Type 0 where
  pub p : Progress
  pub place : EndsPhase room config given p (10 ∷ [])
      ⊎ (IsAtEnd left × (EndsPhase room config given p []
      ⊎ (trace_of limit room config given ≡ Going p)))
  pub part : TakesPart gave ran origin after p
  pub short : length given ≤ limit

-- the lines that ended before the last octet lead to this progress
pub record ComesAfter (room : ℕ) (config : Config) (given : List ℕ) (p : Progress) : Type 0 where
  pub before : List ℕ
  pub last : List ℕ
  pub split : given ≡ before ++ last
  pub one : length last ≤ 1
  pub lines : ended_reading room config before ≡ Going p

-- There was no memory for the last line or for the phase that it ends: the phases before it were
-- written as a whole.
pub record StopsShort (gave : Phased) (limit room : ℕ) (config : Config) (given : List ℕ)
    (left origin after : Option (List ℕ)) : Type 0 where
  pub p : Progress
  pub place : ComesAfter room config given p
      ⊎ (IsAtEnd left × (trace_of limit room config given ≡ Going p))
  pub output : TakesEnded gave origin after p
  pub short : length given ≤ limit

-- How a run ends, by the octets that it was given and those that are left. Where there was no memory,
-- and of the phases before one that was not written as a whole, the first relation tells what was
-- given, and else the second.
abbrev pub EndsAfter : (gave ran : Phased) → ℕ → ℕ → Config → List ℕ → Option (List ℕ)
    → Option (List ℕ) → Option (List ℕ) → Ending → Type 0
EndsAfter gave ran limit room config given left origin after Done =
    IsAtEnd left × EndsByFate ran limit room config given origin after 0
EndsAfter gave ran limit room config given left origin after (Refused line why) =
    OfText left (λ rest. EndsByFate ran limit room config (given ++ rest) origin after 3
    × IsRefusedAt limit room config (given ++ rest) line why)
EndsAfter gave ran limit room config given left origin after Full =
    OfText left (λ rest. EndsByFate ran limit room config (given ++ rest) origin after 6)
EndsAfter gave ran limit room config given left origin after TooLong =
    OfText left (λ rest. EndsByFate ran limit room config (given ++ rest) origin after 8)
EndsAfter gave ran limit room config given left origin after ReadFault =
    TakesGiven ran room config given origin after
EndsAfter gave ran limit room config given left origin after WriteFault =
    HalfWritten gave ran limit room config given left origin after
EndsAfter gave ran limit room config given left origin after NoMemory =
    StopsShort gave limit room config given left origin after

-- how a run ends, by what the source had left and has left
abbrev pub RunEnds : (gave ran : Phased) → ℕ → ℕ → Config → Option (List ℕ) → Option (List ℕ)
    → Option (List ℕ) → Option (List ℕ) → Ending → Type 0
RunEnds gave ran limit room config before left origin after ending =
    (given : List ℕ) × Consumes before left given
    × EndsAfter gave ran limit room config given left origin after ending

-- What the contract of the top call cites.
use Rattle.std.specs.Prelude.{◌≡◌, ◌+◌, ◌≤◌, ℕ, ◌==◌, if◌then◌else◌, [], ◌∷◌, ◌⊎◌, List, Option, Some, None}
use Rattle.std.specs.Io.KnownBytes.{Appends, Consumes}
use Rattle.switch_event.specs.Config.{Config, empty}
use Rattle.trace_defs.specs.Trace.{fate, progress_of, reason_of}
use Rattle.history_defs.specs.Output.{controls_in}
use Rattle.history_defs.specs.Status.{refusal_text, status_text}
use Rattle.outside_link.specs.Clock.{moment_of, moments_after}
use Rattle.outside_link.specs.Link.{Incoming}
use Rattle.day_load.specs.Ending.{TellsAll, TellsPart}
use Rattle.race_run.specs.Runs.{Phased}
use Rattle.race_run.specs.declared.ending.Ending.{Ending}
use Rattle.race_run.specs.Ending.{OfText, EndsByFate, TakesGiven, HalfWritten, RunEnds}
use Rattle.race_run.specs.Counts.{counts_of, HalfCounted}
use Rattle.serve_defs.specs.Settings.{settings_of, settings_fate}
use Rattle.serve_defs.specs.Served.{served as served_records}
use Rattle.serve_loop.specs.declared.ending.Ending.{Ending as Served}
use Rattle.serve_loop.specs.declared.ending.Ending.TheVariants as served
use Rattle.serve_loop.specs.Ending.{status_of as served_status}
use Rattle.serve_loop.specs.Ends.{Ends, Told, clocked}

-- the statuses that the text alone decides
abbrev pub IsByText : ℕ → Type 0
IsByText status = (status ≡ 0) ⊎ (status ≡ 3) ⊎ (status ≡ 6) ⊎ (status ≡ 8)

-- and those of want of memory, of the words and of the outside
abbrev pub IsStatus : ℕ → Type 0
IsStatus status = IsByText status ⊎ (status ≡ 1) ⊎ (status ≡ 2) ⊎ (status ≡ 4) ⊎ (status ≡ 5)
    ⊎ (status ≡ 7)

-- this holds of the octets that a source gave
abbrev pub OfGiven : Option (List ℕ) → Option (List ℕ) → (List ℕ → Type 0) → Type 0
OfGiven before left P = (given : List ℕ) × Consumes before left given × P given

-- what is written of a text whose records are counted: their numbers where it runs, and else
-- nothing
abbrev pub counted : ℕ → ℕ → Config → List ℕ → (status : ℕ) → List ℕ
counted limit room config text status =
    if status == 0 then counts_of limit room config text else []

-- the status is that of the text, and what was written are the numbers of its records
pub record CountsByFate (limit room : ℕ) (config : Config) (text : List ℕ)
    (origin after : Option (List ℕ)) (status : ℕ) : Type 0 where
  pub fated : fate limit room config text ≡ status
  pub output : Appends origin after (counted limit room config text status)

-- What a run wrote of a trace: what was given for the whole phases of the text; after a read fault
-- for those that were read as a whole; after a write fault for those before the last, and a part of
-- the text of that one.
pub record Writes (gave ran : Phased) (limit room : ℕ) (config : Config)
    (before left origin after : Option (List ℕ)) (status : ℕ) : Type 0 where
  pub by_text : IsByText status
      → OfText before (λ b. EndsByFate ran limit room config b origin after status)
  pub read_fault : status ≡ 4
      → OfGiven before left (λ given. TakesGiven ran room config given origin after)
  pub write_fault : status ≡ 5
      → OfGiven before left (λ given. HalfWritten gave ran limit room config given left origin after)

-- What a count wrote of a trace: the numbers of its records where it runs, after a write fault a
-- part of them, and else nothing.
pub record Counts (limit room : ℕ) (config : Config) (before left origin after : Option (List ℕ))
    (status : ℕ) : Type 0 where
  pub by_text : IsByText status
      → OfText before (λ b. CountsByFate limit room config b origin after status)
  pub nothing : (status ≡ 1) ⊎ (status ≡ 4) → Appends origin after []
  pub write_fault : status ≡ 5
      → OfGiven before left (λ given. HalfCounted limit room config given left origin after)

-- what a run of several threads wrote that ended for want of memory: as at some end of a run
pub record RaceShort (gave : Phased) (limit room : ℕ) (config : Config)
    (before left origin after : Option (List ℕ)) : Type 0 where
  pub ending : Ending
  pub ends : RunEnds gave gave limit room config before left origin after ending

-- a source tells a trace that runs: each line of it is right, and it is not too long
abbrev pub TellsTrace : (limit room : ℕ) → (left : Option (List ℕ)) → Type 0
TellsTrace limit room None = ⊥
TellsTrace limit room (Some text) = fate limit room empty text ≡ 0

-- What the run of a day wrote, by its status: the whole line that tells what the day came to, a
-- proper part of it, or nothing where there was no memory. No other status comes.
pub record Loads (hosts : ℕ) (origin after : Option (List ℕ)) (status : ℕ) : Type 0 where
  pub no_other : (status ≡ 0) ⊎ (status ≡ 1) ⊎ (status ≡ 5)
  pub whole : status ≡ 0 → TellsAll hosts origin after
  pub nothing : status ≡ 1 → Appends origin after []
  pub write_fault : status ≡ 5 → TellsPart hosts origin after

-- what is said of the end of a server's run
abbrev pub served_text : Served → List ℕ
served_text (served.Refused line why) = refusal_text line why
served_text ending = status_text (served_status ending)

-- what is said of the line of a server's settings that is refused
abbrev pub settings_refusal : ℕ → List ℕ → List ℕ
settings_refusal limit text =
    refusal_text ((progress_of (settings_of limit text)).lines + 1) (reason_of (settings_of limit text))

-- the ports of a server's channels: those of the frames, of the first socket of the RADIUS client, of
-- dynamic requests, and of the other three sockets
abbrev pub ports_of : (frames radius dynamic : ℕ) → List ℕ
ports_of frames radius dynamic =
    frames ∷ radius ∷ dynamic ∷ (radius + 1) ∷ (radius + 2) ∷ (radius + 3) ∷ []

-- what a server's run at these ports did: how it ended, by its status
pub record Serves (limit room turns : ℕ) (ports : List ℕ) (old new : Told) (status : ℕ) :
    Type 0 where
  pub ending : Served
  pub status_is : status ≡ served_status ending
  pub ends : Ends limit room turns ports old new ending

-- a source tells settings of a server: each line of them is right, they end, and they are not too
-- long
abbrev pub TellsSettings : (limit : ℕ) → (left : Option (List ℕ)) → Type 0
TellsSettings limit None = ⊥
TellsSettings limit (Some text) = settings_fate limit text ≡ 0

-- the settings of a text, with the first of these moments as their clock
abbrev pub settings_at : (limit : ℕ) → List ℕ → (moments : List ℕ) → Config
settings_at limit text moments =
    clocked (progress_of (settings_of limit text)).config (moment_of moments)

-- Source, clock and link tell what a server makes of it in so many turns, and a history has room
-- for these control records.
abbrev pub HasRoom : (limit room turns : ℕ) → (left : Option (List ℕ)) →
    (moments : Option (List ℕ)) → (waits : Option (List (List Incoming))) → Type 0
HasRoom limit room turns None moments waits = ⊥
HasRoom limit room turns (Some text) None waits = ⊥
HasRoom limit room turns (Some text) (Some moments) None = ⊥
HasRoom limit room turns (Some text) (Some moments) (Some waits) =
    controls_in
    (served_records (settings_at limit text moments) (moments_after moments) waits turns) ≤ room

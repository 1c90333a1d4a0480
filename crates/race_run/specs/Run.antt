-- How far a run is, and how it goes on.
use Rattle.std.specs.Prelude.{◌≡◌, ◌≤◌, ◌+◌, ◌++◌, ◌∷◌, [], ℕ, List, length, Option, Result, Ok, Err, true, false}
use Rattle.std.specs.List.{AllByRecursion}
use Rattle.std.specs.Io.KnownBytes.{Appends, IsAtEnd}
use Rattle.switch_event.specs.Config.{Config, empty}
use Rattle.event_record.specs.declared.TheConstants.{MOST_EVENTS}
use Rattle.trace_defs.specs.Settings.{IsRead}
use Rattle.trace_defs.specs.Alike.{ReadAlike}
use Rattle.trace_defs.specs.Line.{Record}
use Rattle.trace_defs.specs.Reading.{HasRead}
use Rattle.trace_defs.specs.Trace.{Progress, Stop, trace_of}
use Rattle.trace_defs.specs.Trace.Reading.{Going}
use Rattle.trace_defs.specs.Trace.Stop.{Refused as IsRefused, Full as IsFull}
use Rattle.history_defs.specs.Output.{controls_in, records_of}
use Rattle.event_record.specs.declared.trace_record.TraceRecord.{TraceRecord}
use Rattle.trace_defs.specs.Entered.{entered_all}
use Rattle.race_run.specs.declared.run.Run.{Run}
use Rattle.race_run.specs.declared.ending.Ending.{Ending}
use Rattle.race_run.specs.declared.ending.Ending.TheVariants.{NoMemory, Refused, WriteFault, Full}
use Rattle.race_run.specs.Runs.{Phased, IsGiven, MayCome}
use Rattle.race_run.specs.Ending.{TakesEnded, TakesPart, EndsAfter}

-- a run before the first octet
pub record IsStart (run : Run) : Type 0 where
  pub config : run.config ≡ empty
  pub given : run.given ≡ 0
  pub begun : run.begun ≡ false
  pub lines : run.lines ≡ 0
  pub controls : run.controls ≡ 0
  pub line : run.line ≡ record { text = []; ended = false }
  pub records : run.records.items ≡ []

-- a record joined the open phase, and there are so many control records now
pub record Joins (old new : Run) (r : TraceRecord) (controls : ℕ) : Type 0 where
  pub records : new.records.items ≡ old.records.items ++ r ∷ []
  pub rest : new ≡ record old { records = new.records; controls = controls; lines = old.lines + 1 }

-- before the word that ends the settings no phase stands, and nothing was given
pub record IsUnbegun (p : Progress) (text : List ℕ) : Type 0 where
  pub done : p.done ≡ []
  pub current : p.current ≡ []
  pub nothing : text ≡ []

-- what was given by the numbers of what runs the phases
abbrev pub given_by : {R : Type 0} → (R → List ℕ) → (List ℕ → Phased) → R → Phased
given_by numbers gave s = gave (numbers s)

-- a run is as far as this, and since the origin the sink has taken what was given for the phases
-- that were ended
pub record IsAt {R : Type 0} (stands gave : R → Phased) (origin taken : Option (List ℕ))
    (run : Run) (s : R) (p : Progress) : Type 0 where
  pub config : run.config ≡ p.config
  pub given : run.given ≡ p.given
  pub begun : run.begun ≡ p.begun
  pub lines : run.lines ≡ p.lines
  pub controls : run.controls ≡ p.controls
  pub records : entered_all run.records.items ≡ p.current
  pub text : List ℕ
  pub unbegun : p.begun ≡ false → IsUnbegun p text
  pub ran : p.begun ≡ true → stands s p.config p.done text
  pub for_phases : IsGiven (gave s) p.config p.done text
  pub written : Appends origin taken text

-- the open phase may be run: its records may come, and they and those before are no more than lines
-- and control records were taken
pub record IsReady {R : Type 0} (stands : R → Phased) (run : Run) (s : R) : Type 0 where
  pub phases : List (List Record)
  pub text : List ℕ
  pub ran : stands s run.config phases text
  pub few : length (records_of phases) + length (entered_all run.records.items) ≤ run.lines
  pub fit : controls_in (records_of phases) + controls_in (entered_all run.records.items)
      ≤ run.controls
  pub events : AllByRecursion (MayCome run.config) (entered_all run.records.items)

-- what holds of every run: what runs the phases may be opened, and from then on the open phase may
-- be run; no more control records were taken than a history has room for; and the settings are such
-- that lines can write
pub record IsSound {R : Type 0} (fresh : R → Type 0) (stands : R → Phased) (run : Run)
    (s : R) : Type 0 where
  pub unbegun : run.begun ≡ false → (run.records.items ≡ []) × fresh s
  pub ready : run.begun ≡ true → IsReady stands run s
  pub most : run.controls ≤ MOST_EVENTS
  pub read : IsRead run.config run.given

-- the run goes on
abbrev pub Steps : {R : Type 0} → (stands gave : R → Phased) → (Progress → Result Progress Stop)
    → (taken after : Option (List ℕ)) → (old new : Run) → (s t : R) → Type 0
Steps stands gave next taken after old new s t =
    (origin : Option (List ℕ)) (p : Progress) → IsAt stands gave origin taken old s p
    → (q : Progress) × (next p ≡ Ok q) × IsAt stands gave origin after new t q

-- the run ends here
abbrev pub Halts : {R : Type 0} → (stands gave : R → Phased) → (Progress → Result Progress Stop)
    → (taken after : Option (List ℕ)) → (old : Run) → (s t : R) → Ending → Type 0
Halts stands gave next taken after old s t (Refused line why) =
    (origin : Option (List ℕ)) (p : Progress) → IsAt stands gave origin taken old s p
    → (next p ≡ Err (IsRefused why)) × (line ≡ p.lines + 1)
    × TakesEnded (stands t) origin after p
Halts stands gave next taken after old s t Full =
    (origin : Option (List ℕ)) (p : Progress) → IsAt stands gave origin taken old s p
    → (next p ≡ Err IsFull) × TakesEnded (stands t) origin after p
Halts stands gave next taken after old s t WriteFault =
    (origin : Option (List ℕ)) (p : Progress) → IsAt stands gave origin taken old s p
    → (q : Progress) × (next p ≡ Ok q) × (q.done ≡ p.done ++ p.current ∷ [])
    × TakesPart (gave t) (stands t) origin after p
Halts stands gave next taken after old s t NoMemory =
    (origin : Option (List ℕ)) (p : Progress) → IsAt stands gave origin taken old s p
    → TakesEnded (gave t) origin after p
Halts stands gave next taken after old s t ending = ⊥

-- the lines that ended in the octets lead to this progress, and the run holds what is kept of the
-- line that follows them
pub record HoldsLine (room : ℕ) (config : Config) (given : List ℕ) (p : Progress)
    (run : Run) : Type 0 where
  pub part : List ℕ
  pub kept : ReadAlike run.line.text part
  pub read : HasRead room config given p part

-- this holds of the open line, of which the run holds what is kept
abbrev pub OfLine : Run → (List ℕ → Type 0) → Type 0
OfLine run P = (line : List ℕ) → ReadAlike run.line.text line → P line

-- a piece of a line was taken
abbrev pub TakesPiece : {R : Type 0} → (stands gave : R → Phased) → (room : ℕ) → (piece : List ℕ)
    → (taken after : Option (List ℕ)) → (old new : Run) → (s t : R) → Type 0
TakesPiece stands gave room piece taken after old new s t =
    (config : Config) (origin : Option (List ℕ)) (given : List ℕ) (p : Progress)
    → IsAt stands gave origin taken old s p → HoldsLine room config given p old
    → (q : Progress) × IsAt stands gave origin after new t q
    × HoldsLine room config (given ++ piece) q new

-- the run ends at a piece of a line
abbrev pub StopsAtPiece : {R : Type 0} → (stands gave : R → Phased) → (room : ℕ)
    → (piece : List ℕ) → (taken after : Option (List ℕ)) → (old : Run) → (s t : R)
    → Ending → Type 0
StopsAtPiece stands gave room piece taken after old s t ending =
    (limit : ℕ) (config : Config) (origin : Option (List ℕ)) (given : List ℕ) (p : Progress)
    → IsAt stands gave origin taken old s p → HoldsLine room config given p old
    → length given + length piece ≤ limit → (left : Option (List ℕ))
    → EndsAfter (gave t) (stands t) limit room config (given ++ piece) left origin after ending

-- the run ends where no octet is left
abbrev pub EndsAtEnd : {R : Type 0} → (stands gave : R → Phased) → (room : ℕ)
    → (taken after : Option (List ℕ)) → (old : Run) → (s t : R) → Ending → Type 0
EndsAtEnd stands gave room taken after old s t ending =
    (limit : ℕ) (config : Config) (origin : Option (List ℕ)) (given : List ℕ) (p : Progress)
    → IsAt stands gave origin taken old s p → HoldsLine room config given p old
    → length given ≤ limit → (left : Option (List ℕ)) → IsAtEnd left
    → EndsAfter (gave t) (stands t) limit room config given left origin after ending

-- the run ends after the last line
abbrev pub EndsTrace : {R : Type 0} → (stands gave : R → Phased) → (room : ℕ)
    → (taken after : Option (List ℕ)) → (old : Run) → (s t : R) → Ending → Type 0
EndsTrace stands gave room taken after old s t ending =
    (limit : ℕ) (config : Config) (origin : Option (List ℕ)) (text : List ℕ) (p : Progress)
    → IsAt stands gave origin taken old s p → trace_of limit room config text ≡ Going p
    → length text ≤ limit → (left : Option (List ℕ)) → IsAtEnd left
    → EndsAfter (gave t) (stands t) limit room config text left origin after ending

-- the open phase is ended
abbrev pub ended : Progress → Progress
ended p = record p { done = p.done ++ p.current ∷ []; current = [] }

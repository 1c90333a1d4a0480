-- The law of the log: it is a trace, which reads as the settings and the records that it tells of.
use Rattle.std.specs.Prelude.{◌≡◌, ℕ, ◌≤◌, true, List, [], ◌∷◌, length, Ok}
use Rattle.std.specs.List.{AllByRecursion}
use Rattle.switch_event.specs.Config.{Config, empty}
use Rattle.trace_defs.specs.Line.{Record, line_of}
use Rattle.trace_defs.specs.Line.Line.{Entry}
use Rattle.trace_defs.specs.Trace.{Progress, start, read_lines, trace_of, progress_of, fate, whole}
use Rattle.trace_defs.specs.Trace.Reading.{Going}
use Rattle.history_defs.specs.Output.{controls_in}
use Rattle.serve_defs.specs.declared.TheConstants.{LAST_MOMENT}
use Rattle.serve_defs.specs.Log.{log}

-- settings that some lines write, from another moment on
pub record AreSettings (c : Config) : Type 0 where
  pub room : ℕ
  pub lines : List (List ℕ)
  pub p : Progress
  pub reads : read_lines room (start empty) lines ≡ Going p
  pub begun : p.begun ≡ true
  pub same : c ≡ record p.config { clock = c.clock }
  pub moment : c.clock ≤ LAST_MOMENT

-- a record that some line writes under these settings
abbrev pub IsWritten : Config → Record → Type 0
IsWritten c r = (given : ℕ) × (line : List ℕ) × (line_of c given true line ≡ Ok (Entry r))

-- a text of at most so many octets and so many control records is a trace of these settings and of
-- these records, in one phase
pub record IsTraceOf (limit room : ℕ) (c : Config) (rs : List Record) (text : List ℕ) : Type 0 where
  pub fated : fate limit room empty text ≡ 0
  pub settings : (progress_of (trace_of limit room empty text)).config ≡ c
  pub phases : whole limit room empty text ≡ rs ∷ []

-- the log of these settings and records is a trace of them: so a run of it writes the blocks that it
-- shows as comments
abbrev pub ReadsBack : Config → List Record → Type 0
ReadsBack c rs = (limit room : ℕ) → controls_in rs ≤ room → length (log c rs) ≤ limit →
    IsTraceOf limit room c rs (log c rs)

-- that is so where lines can write the settings and the records
abbrev pub LogsAreTraces : Type 0
LogsAreTraces = (c : Config) (rs : List Record) →
    AreSettings c → AllByRecursion (IsWritten c) rs → ReadsBack c rs

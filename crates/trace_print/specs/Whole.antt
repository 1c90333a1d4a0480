-- A whole trace, as it is printed and read back.
use Rattle.std.specs.Prelude.{◌≡◌, ℕ, List, [], ◌∷◌, ◌++◌}
use Rattle.std.specs.List.{flat_map}
use Rattle.switch_event.specs.Config.{Config, empty}
use Rattle.trace_defs.specs.Line.{Record as Entered}
use Rattle.trace_defs.specs.Text.{config_text}
use Rattle.trace_defs.specs.Trace.{trace_of, fate, whole, progress_of}
use Rattle.trace_defs.specs.declared.line.Line.{Line}
use Rattle.trace_defs.specs.declared.line.Line.TheVariants.{Blank, Begin, Sync, Setting, Control, Data}
use Rattle.trace_defs.specs.Line.Record.{Control as ControlEntry, Data as DataEntry}
use Rattle.event_record.specs.Record.{event_of}
use Rattle.trace_print.specs.Printing.{line_text}

-- the text of a line behind the settings: of a record or of the end of a phase
abbrev pub entry_text : Line → List ℕ
entry_text Blank = []
entry_text Begin = []
entry_text Setting = []
entry_text entry = line_text entry

-- the settings, and the lines behind them
abbrev pub trace_text : Config → List Line → List ℕ
trace_text config lines = config_text config ++ flat_map entry_text lines

-- the records of a line: one or none
abbrev pub records_of : Line → List Entered
records_of (Control lane what) = ControlEntry lane (event_of what) ∷ []
records_of (Data port octets) = DataEntry port octets ∷ []
records_of other = []

-- the phases that have ended, and the open one with the records that follow up to the next `sync`,
-- and so on
abbrev pub phases_after : (ended : List (List Entered)) → (current : List Entered) → List Line
    → List (List Entered)
phases_after ended current [] = ended ++ current ∷ []
phases_after ended current (Sync ∷ lines) = phases_after (ended ++ current ∷ []) [] lines
phases_after ended current (line ∷ lines) = phases_after ended (current ++ records_of line) lines

-- the phases of the lines behind the settings
abbrev pub phases_of : List Line → List (List Entered)
phases_of lines = phases_after [] [] lines

-- a text of at most so many octets and so many control records is a trace of these settings and of
-- these phases
pub record ReadsAsTrace (limit room : ℕ) (config : Config) (phases : List (List Entered))
    (text : List ℕ) : Type 0 where
  pub fated : fate limit room empty text ≡ 0
  pub settings : (progress_of (trace_of limit room empty text)).config ≡ config
  pub phases_are : whole limit room empty text ≡ phases

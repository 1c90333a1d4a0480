-- What is printed.
use Rattle.std.specs.Prelude.{◌≡◌, ℕ, ◌≤◌, List, [], ◌∷◌, ◌++◌, Option, Some, None, Ok, codes, length, true}
use Rattle.wire_defs.specs.Text.{ended_lines}
use Rattle.switch_event.specs.Config.{Config, empty}
use Rattle.trace_defs.specs.Trace.{Progress, read_lines, start}
use Rattle.trace_defs.specs.Trace.Reading.{Going}
use Rattle.trace_defs.specs.Line.{Record as Entered, all_given, line_of}
use Rattle.trace_defs.specs.Line.Line.{Entry}
use Rattle.trace_defs.specs.Line.Record.{Control as ControlEntry, Data as DataEntry}
use Rattle.trace_defs.specs.Text.{text_line, record_text, config_lines}
use Rattle.trace_defs.specs.declared.line.Line.{Line}
use Rattle.trace_defs.specs.declared.line.Line.TheVariants.{Blank, Begin, Sync, Setting, Control, Data}
use Rattle.event_record.specs.Record.{event_of}

-- the text of a line other than a setting, which is printed with the others
abbrev pub line_text : Line → List ℕ
line_text Blank = text_line []
line_text Begin = text_line (codes "begin" ∷ [])
line_text Sync = text_line (codes "sync" ∷ [])
line_text Setting = []
line_text (Control lane what) = record_text (ControlEntry lane (event_of what))
line_text (Data port octets) = record_text (DataEntry port octets)

-- the record that a line is
abbrev pub record_of : Line → Option Entered
record_of (Control lane what) = Some (ControlEntry lane (event_of what))
record_of (Data port octets) = Some (DataEntry port octets)
record_of other = None

-- a control event is in one of the three lanes
abbrev pub HasLane : Line → Type 0
HasLane (Control lane what) = (1 ≤ lane) × (lane ≤ 3)
HasLane other = Unit {0}

-- what was appended to a text
abbrev pub Appended : List ℕ → List ℕ → (List ℕ → Type 0) → Type 0
Appended old new P = (text : List ℕ) × (new ≡ old ++ text) × P text

-- settings that were read, once their printed text is read: each was given
abbrev pub printed_settings : Config → Progress
printed_settings c =
    record (start c) { given = all_given; begun = true; lines = length (config_lines c) }

-- the text of settings reads as these settings
abbrev pub ReadsAsSettings : Config → List ℕ → Type 0
ReadsAsSettings c text =
    (room : ℕ) → read_lines room (start empty) (ended_lines text) ≡ Going (printed_settings c)

-- the text is one line, which reads as this record
abbrev pub ReadsAsRecord : Config → Entered → List ℕ → Type 0
ReadsAsRecord config r text =
    (line : List ℕ) × (text ≡ line ++ 10 ∷ [])
    × ((given : ℕ) → line_of config given true line ≡ Ok (Entry r))

-- The log of a server: the settings, then for each record its line, and its block as comment lines.
-- So the log is a trace, and a run of it writes the blocks.
use Rattle.std.specs.Prelude.{ℕ, ◌-◌, nat_lt, if◌then◌else◌, List, [], ◌∷◌, ◌++◌, codes}
use Rattle.std.specs.List.{flat_map}
use Rattle.wire_defs.specs.Text.{ended_lines}
use Rattle.switch_event.specs.Config.{Config}
use Rattle.trace_defs.specs.Line.{Record}
use Rattle.trace_defs.specs.Line.Record.{Control, Data}
use Rattle.trace_defs.specs.Text.{config_text, record_text}
use Rattle.history_defs.specs.Output.{Place, block, first_place, next_place}

-- a line of a text behind a number sign and a space
abbrev pub comment_line : List ℕ → List ℕ
comment_line line = codes "# " ++ line ++ 10 ∷ []

-- each line of a text so
abbrev pub commented : List ℕ → List ℕ
commented text = flat_map comment_line (ended_lines text)

-- a record at its place: its line, and its block
abbrev pub logged : Place → Record → List ℕ
logged at r = record_text r ++ commented (block at r)

abbrev pub all_logged : Place → List Record → List ℕ
all_logged at [] = []
all_logged at (r ∷ rest) = logged at r ++ all_logged (next_place at r) rest

-- the log of these settings and of these records
abbrev pub log : Config → List Record → List ℕ
log c rs = config_text c ++ all_logged (first_place c) rs

-- the records before the control record for which there is no room
abbrev pub cut : (room : ℕ) → List Record → List Record
cut room [] = []
cut room (Data port octets ∷ rest) = Data port octets ∷ cut room rest
cut room (Control lane event ∷ rest) =
    if nat_lt 0 room then Control lane event ∷ cut (room - 1) rest else []

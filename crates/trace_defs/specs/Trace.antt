-- A trace: its phases, and the line that stops it.
use Rattle.std.specs.Prelude.{ℕ, ◌+◌, ◌&&◌, nat_le, nat_lt, Bool, false, true, not, if◌then◌else◌, List, [], ◌∷◌, ◌++◌, length, take, Result, Ok, Err}
use Rattle.wire_defs.specs.Text.{ended_lines, open_line, last_line}
use Rattle.switch_event.specs.Config.{Config}
use Rattle.trace_defs.specs.declared.reason.TheConstants.{MISSING}
use Rattle.trace_defs.specs.Line.{Record, Line, line_of}
use Rattle.trace_defs.specs.Line.Record.{Control, Data}
use Rattle.trace_defs.specs.Line.Line.{Blank, Begin, Sync, Setting, Entry}

-- how far a trace was read: its settings, those that were given, whether they are ended, its lines,
-- its control records, the phases that were ended, and the phase that is open
pub record Progress : Type 0 where
  pub config : Config
  pub given : ℕ
  pub begun : Bool
  pub lines : ℕ
  pub controls : ℕ
  pub done : List (List Record)
  pub current : List Record

-- a line stops a trace where it is refused, or where the history has no room for its event
pub data Stop : Type 0 where
  Refused : (reason : ℕ) → Stop
  Full : Stop

abbrev pub start : Config → Progress
start config =
    record {
      config = config;
      given = 0;
      begun = false;
      lines = 0;
      controls = 0;
      done = [];
      current = [];
    }

-- the progress after an entry, where the history has room for so many control records
abbrev pub add_record : ℕ → Progress → Record → Result Progress Stop
add_record room p (Control lane event) =
    if nat_lt p.controls room then
    Ok (record p {
      lines = p.lines + 1;
      controls = p.controls + 1;
      current = p.current ++ Control lane event ∷ [];
    })
    else Err Full
add_record room p (Data port octets) =
    Ok (record p { lines = p.lines + 1; current = p.current ++ Data port octets ∷ [] })

abbrev pub add_line : ℕ → Progress → Result Line ℕ → Result Progress Stop
add_line room p (Err reason) = Err (Refused reason)
add_line room p (Ok Blank) = Ok (record p { lines = p.lines + 1 })
add_line room p (Ok Begin) = Ok (record p { lines = p.lines + 1; begun = true })
add_line room p (Ok Sync) =
    Ok (record p { lines = p.lines + 1; done = p.done ++ p.current ∷ []; current = [] })
add_line room p (Ok (Setting config given)) =
    Ok (record p { lines = p.lines + 1; config = config; given = given })
add_line room p (Ok (Entry r)) = add_record room p r

abbrev pub after_line : ℕ → Progress → List ℕ → Result Progress Stop
after_line room p line = add_line room p (line_of p.config p.given p.begun line)

-- a trace was read to its end, or up to the line that stops it
pub data Reading : Type 0 where
  Going : Progress → Reading
  Stopped : Progress → Stop → Reading

abbrev pub go_on : Progress → Result Progress Stop → (Progress → Reading) → Reading
go_on p (Ok q) more = more q
go_on p (Err stop) more = Stopped p stop

abbrev pub read_lines : ℕ → Progress → List (List ℕ) → Reading
read_lines room p [] = Going p
read_lines room p (line ∷ lines) = go_on p (after_line room p line) (λ q. read_lines room q lines)

-- the lines that count, where a trace may have so many octets
abbrev pub counted_lines : ℕ → List ℕ → List (List ℕ)
counted_lines limit text =
    if nat_le (length text) limit then ended_lines text ++ last_line (open_line text)
    else ended_lines (take limit text)

-- a text that is read from these settings on, with so many octets and so many control records at
-- the most
abbrev pub trace_of : ℕ → ℕ → Config → List ℕ → Reading
trace_of limit room config text = read_lines room (start config) (counted_lines limit text)

abbrev pub fate_of : (fits : Bool) → Reading → ℕ
fate_of fits (Stopped p (Refused reason)) = 3
fate_of fits (Stopped p Full) = 6
fate_of fits (Going p) = if not fits then 8 else if p.begun then 0 else 3

-- the status of a run over a text, where nothing outside fails: 0, 3 for a refused line or a text
-- that does not end its settings, 6 for too many control records, 8 for too many octets
abbrev pub fate : ℕ → ℕ → Config → List ℕ → ℕ
fate limit room config text = fate_of (nat_le (length text) limit) (trace_of limit room config text)

abbrev pub whole_of : (fits : Bool) → Reading → List (List Record)
whole_of fits (Stopped p stop) = p.done
whole_of fits (Going p) = if fits && p.begun then p.done ++ p.current ∷ [] else p.done

-- the phases that end before the line that stops the text
abbrev pub whole : ℕ → ℕ → Config → List ℕ → List (List Record)
whole limit room config text =
    whole_of (nat_le (length text) limit) (trace_of limit room config text)

abbrev pub progress_of : Reading → Progress
progress_of (Going p) = p
progress_of (Stopped p stop) = p

-- the number of the line that is refused, and the reason: the line that stops the text, or the end
-- of a text that does not end its settings
abbrev pub reason_of : Reading → ℕ
reason_of (Stopped p (Refused reason)) = reason
reason_of (Stopped p Full) = 0
reason_of (Going p) = MISSING

-- What a datagram is taken for.
use Rattle.std.specs.Prelude.{◌≡◌, true, false, Bool, List, [], ◌∷◌, Option, Some, None}
use Rattle.switch_event.specs.Event.{happening}
use Rattle.trace_defs.specs.Line.{Record}
use Rattle.trace_defs.specs.Line.Record.{Control as ControlRecord, Data as DataRecord}
use Rattle.trace_defs.specs.Text.{record_text}
use Rattle.trace_defs.specs.declared.line.Line.{Line}
use Rattle.trace_print.specs.Printing.{HasLane, line_text}
use Rattle.serve_defs.specs.Served as served
use Rattle.serve_loop.specs.declared.arrived.Entry.{Entry}
use Rattle.serve_loop.specs.declared.arrived.Entry.TheVariants.{Event, Data}
use Rattle.serve_loop.specs.declared.arrived.Arrived.{Arrived}

-- the record that it is
abbrev pub entry_of : Entry → Record
entry_of (Event event) = served.event (happening event)
entry_of (Data port octets) = DataRecord port octets.now

abbrev pub arrival_of : Arrived → served.Arrival
arrival_of a = record { entry = entry_of a.entry; from = a.from }

-- one that came, or none
abbrev pub arrivals_in : Option Arrived → List served.Arrival
arrivals_in None = []
arrivals_in (Some a) = arrival_of a ∷ []

abbrev pub is_control_record : Record → Bool
is_control_record (ControlRecord lane event) = true
is_control_record (DataRecord port octets) = false

-- a line of the trace language that is printed as this record
pub record IsLine (line : Line) (r : Record) : Type 0 where
  pub lane : HasLane line
  pub text : line_text line ≡ record_text r

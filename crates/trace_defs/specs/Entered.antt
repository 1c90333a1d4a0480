-- The records of a trace that own their octets, as lines say them.
use Rattle.std.specs.Prelude.{List, map}
use Rattle.event_record.specs.Record.{event_of}
use Rattle.trace_defs.specs.Line.{Record}
use Rattle.trace_defs.specs.Line.Record.{Control as ControlEntry, Data as DataEntry}
use Rattle.event_record.specs.declared.trace_record.TraceRecord.{TraceRecord}
use Rattle.event_record.specs.declared.trace_record.TraceRecord.TheVariants.{Control, Data}

abbrev pub entered : TraceRecord → Record
entered (Control lane what) = ControlEntry lane (event_of what)
entered (Data port octets) = DataEntry port octets

abbrev pub entered_all : List TraceRecord → List Record
entered_all records = map entered records

-- Records that may come under any settings.
use Rattle.std.specs.Prelude.{List, [], ◌∷◌}
use Rattle.event_record.specs.declared.record.Record.TheVariants.{Second, Frame, Radius, Dynamic, Link, SetControl}
use Rattle.event_record.specs.declared.trace_record.TraceRecord.{TraceRecord}
use Rattle.event_record.specs.declared.trace_record.TraceRecord.TheVariants.{Control, Data}

-- seconds and data frames alone
abbrev pub AreSimple : List TraceRecord → Type 0
AreSimple [] = Unit {0}
AreSimple (Control lane Second ∷ rs) = AreSimple rs
AreSimple (Control lane (Frame port octets) ∷ rs) = ⊥
AreSimple (Control lane (Radius socket octets) ∷ rs) = ⊥
AreSimple (Control lane (Dynamic from octets) ∷ rs) = ⊥
AreSimple (Control lane (Link port up) ∷ rs) = ⊥
AreSimple (Control lane (SetControl port control) ∷ rs) = ⊥
AreSimple (Data port octets ∷ rs) = AreSimple rs

-- What is printed reads back.
use Rattle.std.proofs.Common.{◌≡◌, ℕ, true, List, [], ◌++◌, Some, Result, Ok, Err, OnOk, unwrap_or, sym, ap, ◌∙◌, subst, append-nil}
use Rattle.wire_defs.specs.Text.{ended_lines}
use Rattle.switch_event.specs.Config.{Config, empty}
use Rattle.trace_defs.specs.Line.{Record as Entered, line_of}
use Rattle.trace_defs.specs.Line.Line.{Entry}
use Rattle.trace_defs.specs.Line.Record.{Control as ControlEntry, Data as DataEntry}
use Rattle.event_record.specs.Record.{event_of}
use Rattle.trace_defs.specs.Text.{config_text, record_text}
use Rattle.trace_defs.specs.Trace.{Progress, read_lines, start}
use Rattle.trace_defs.specs.Trace.Reading.{Going}
use Rattle.trace_defs.specs.declared.line.Line.{Line}
use Rattle.trace_defs.specs.declared.line.Line.TheVariants.{Blank, Begin, Sync, Setting, Control, Data}
use Rattle.trace_defs.proofs.ConfigBack.{config_text-back}
use Rattle.trace_defs.proofs.TraceFacts.{reading_sound}
use Rattle.trace_defs.proofs.RecordBack.{record_reads_back}
use Rattle.trace_print.specs.Printing.{line_text, record_of, Appended, ReadsAsSettings, ReadsAsRecord, printed_settings}

on_ok : {P Q : Type 0} {T E : Type 0} (r : Result T E) → (P → Q) → OnOk r P → OnOk r Q
on_ok (Ok x) f h = f h
on_ok (Err e) f h = tt

-- settings that were read read back
pub settings_back : {T E : Type 0} (r : Result T E) (c : Config) (old new : List ℕ) (room : ℕ) (lines : List (List ℕ)) (p : Progress) → read_lines room (start empty) lines ≡ Going p → p.begun ≡ true → p.config ≡ c
    → OnOk r (new ≡ old ++ config_text c) → OnOk r (Appended old new (ReadsAsSettings c))
settings_back r c old new room lines p read begun same =
    let h = reading_sound room lines p read in
    on_ok r (λ e. (
      config_text c,
      e,
      λ later. subst (λ c. read_lines later (start empty) (ended_lines (config_text c)) ≡ Going (printed_settings c)) same
          (ap (λ text. read_lines later (start empty) (ended_lines text)) (sym (append-nil (config_text p.config))) ∙ config_text-back later p.config p.given [] h.read (h.begun begun)),
    ))

-- and so does a record
pub record_back : {T E : Type 0} (result : Result T E) (l : Line) (old new : List ℕ) (config : Config) (given : ℕ) (line : List ℕ) (r : Entered) → record_of l ≡ Some r
    → line_of config given true line ≡ Ok (Entry r) → OnOk result (new ≡ old ++ line_text l) → OnOk result (Appended old new (ReadsAsRecord config r))
record_back result (Control lane what) old new config given line r is read = on_ok result (λ e.
    let back = record_reads_back config given line r read in
    (record_text r, e ∙ ap (λ x. old ++ record_text (unwrap_or x (ControlEntry lane (event_of what)))) is, (back.0, back.1, back.2)))
record_back result (Data port octets) old new config given line r is read = on_ok result (λ e.
    let back = record_reads_back config given line r read in
    (record_text r, e ∙ ap (λ x. old ++ record_text (unwrap_or x (DataEntry port octets))) is, (back.0, back.1, back.2)))
record_back result Blank old new config given line r is read = absurd (cc)
record_back result Begin old new config given line r is read = absurd (cc)
record_back result Sync old new config given line r is read = absurd (cc)
record_back result Setting old new config given line r is read = absurd (cc)

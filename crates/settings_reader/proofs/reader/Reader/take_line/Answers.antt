use Rattle.std.proofs.Common.{◌∙◌, false, refl, sym, ap}
use Rattle.wire_defs.specs.Text.{ended_lines}
use Rattle.trace_defs.specs.Line.{line_of}
use Rattle.settings_reader.proofs.Reached.{leads_begin, leads_blank, leads_setting}
use Rattle.settings_reader.proofs.reader.Reader.take_line.Goals as goal

pub returns-in-Ok-Begin-clause-takes : goal.returns-in-Ok-Begin-clause-takes
returns-in-Ok-Begin-clause-takes c = λ given at.
    let old = c.args.self.now in
    let reads = rw c.in-Ok-Begin.field-0-is at c.in-Ok-Begin.ensures.reads in
    leads_begin old _ given at (ap (line_of old.config old.given false) (sym c.line.ensures.value) ∙ reads.0) reads.1.same_config reads.1.same_given refl

pub returns-in-Ok-Begin-clause-valid : goal.returns-in-Ok-Begin-clause-valid
returns-in-Ok-Begin-clause-valid c = λ given at ends.
    let valid = c.in-Ok-Begin.ensures.valid 0 (ended_lines given) at.p at.read.lines (sym at.config) (sym at.noted) in
    rw c.in-Ok-Begin.field-0-is at valid

pub returns-in-Ok-Blank-clause-takes : goal.returns-in-Ok-Blank-clause-takes
returns-in-Ok-Blank-clause-takes c = λ given at.
    let old = c.args.self.now in
    let reads = rw c.in-Ok-Blank.field-0-is at c.in-Ok-Blank.ensures.reads in
    leads_blank old _ given at (ap (line_of old.config old.given false) (sym c.line.ensures.value) ∙ reads.0) reads.1.same_config reads.1.same_given refl

pub returns-in-Ok-Setting-clause-takes : goal.returns-in-Ok-Setting-clause-takes
returns-in-Ok-Setting-clause-takes c = λ given at.
    let old = c.args.self.now in
    let reads = rw c.in-Ok-Setting.field-0-is at c.in-Ok-Setting.ensures.reads in
    leads_setting old _ given at (ap (line_of old.config old.given false) (sym c.line.ensures.value) ∙ reads) refl

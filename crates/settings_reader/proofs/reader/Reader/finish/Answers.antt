use Rattle.std.proofs.Common.{arith, ap, Ok}
use Rattle.std.proofs.lemmas.Grind.{common_steps}
use Rattle.std.proofs.lemmas.List.{nil_from_length}
use Rattle.settings_reader.proofs.Reached.{nowhere, unended, ends_settled, ends_line}
use Rattle.settings_reader.proofs.reader.Reader.finish.Goals as goal

pub returns-then-is_empty-clause-ends : goal.returns-then-is_empty-clause-ends
returns-then-is_empty-clause-ends c = nowhere c.args.self.now c.args.self.now c.missing.result (nil_from_length _ (grind (arith, common_steps))) c.missing.ensures

pub returns-in-Ok-true-clause-ends : goal.returns-in-Ok-true-clause-ends
returns-in-Ok-true-clause-ends c =
    let takes = rw c.in-Ok-true.field-0-test at c.in-Ok-true.ensures.takes in
    ends_settled c.args.self.now c.take_line.new.self takes

pub returns-in-Ok-true-clause-valid : goal.returns-in-Ok-true-clause-valid
returns-in-Ok-true-clause-valid c = λ given at. c.in-Ok-true.ensures.valid given at (ap Ok c.in-Ok-true.field-0-test)

pub returns-in-Ok-false-clause-ends : goal.returns-in-Ok-false-clause-ends
returns-in-Ok-false-clause-ends c =
    let takes = rw c.in-Ok-false.field-0-test at c.in-Ok-false.ensures.takes in
    unended c.args.self.now c.take_line.new.self c.missing-in-Ok-false.result (λ none. absurd (grind (arith, common_steps))) takes c.missing-in-Ok-false.ensures

pub returns-in-Err-clause-ends : goal.returns-in-Err-clause-ends
returns-in-Err-clause-ends c = ends_line c.args.self.now c.take_line.new.self c.in-Err.e (λ none. absurd (grind (arith, common_steps))) c.in-Err.ensures.takes

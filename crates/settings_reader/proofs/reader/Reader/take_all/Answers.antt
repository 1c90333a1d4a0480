use Rattle.std.proofs.Common.{arith, ap, Ok}
use Rattle.settings_reader.proofs.Reached.{reached_none, reached_more, end_fault, end_long, end_octet, end_stops, end_text}
use Rattle.settings_reader.proofs.reader.Reader.take_all.Goals as goal

pub octets-init : goal.octets-init
octets-init g c = record {
  within = omega arith;
  lines = omega (arith, c.requires.lines);
  sound = c.requires.sound;
  line = c.requires.line;
  reached = reached_none _ c.args.self.now c.requires.at;
  later = omega arith;
}

pub returns-in-Err-clause-ends : goal.returns-in-Err-clause-ends
returns-in-Err-clause-ends g c = end_fault c.args.limit _ _ _ c.octets.count c.octets.self c.octets.invariant.reached c.in-Err.ensures.octets

pub returns-in-Ok-None-clause-ends : goal.returns-in-Ok-None-clause-ends
returns-in-Ok-None-clause-ends g c =
    let none = rw c.in-Ok-None.field-0-is at c.in-Ok-None.ensures.octets in
    end_text c.args.limit _ _ _ c.octets.count c.octets.self c.finish.new.self c.finish.result c.octets.invariant.reached c.octets.invariant.within none.0 none.1 c.finish.ensures.ends

pub returns-in-Ok-None-clause-valid : goal.returns-in-Ok-None-clause-valid
returns-in-Ok-None-clause-valid g c = c.finish.ensures.valid c.octets.invariant.reached.given c.octets.invariant.reached.at

pub returns-then-count-limit-clause-ends : goal.returns-then-count-limit-clause-ends
returns-then-count-limit-clause-ends g c =
    let one = rw c.in-Ok-Some.field-0-is at c.in-Ok-Some.ensures.octets in
    end_long c.args.limit _ _ _ c.octets.count c.in-Ok-Some.octet c.octets.self c.octets.invariant.reached c.if-count-limit.true one

pub returns-in-Ok-true-clause-ends : goal.returns-in-Ok-true-clause-ends
returns-in-Ok-true-clause-ends g c =
    let one = rw c.in-Ok-Some.field-0-is at c.in-Ok-Some.ensures.octets in
    let takes = rw c.in-Ok-true.field-0-test at c.in-Ok-true.ensures.takes in
    end_octet c.args.limit _ _ _ c.octets.count c.in-Ok-Some.octet c.octets.self c.take_octet.new.self c.octets.invariant.reached (omega (arith, c.octets.invariant.within, c.if-count-limit.false)) one takes

pub returns-in-Ok-true-clause-valid : goal.returns-in-Ok-true-clause-valid
returns-in-Ok-true-clause-valid g c = c.in-Ok-true.ensures.valid c.octets.invariant.reached.given c.octets.invariant.reached.at (ap Ok c.in-Ok-true.field-0-test)

pub octets-preserved : goal.octets-preserved
octets-preserved g c =
    let one = rw c.in-Ok-Some.field-0-is at c.in-Ok-Some.ensures.octets in
    let takes = rw c.in-Ok-false.field-0-test at c.in-Ok-false.ensures.takes in record {
      within = omega (arith, c.octets.invariant.within, c.if-count-limit.false);
      lines = omega (arith, c.octets.invariant.lines, c.in-Ok-false.ensures.lines);
      sound = c.in-Ok-false.ensures.sound;
      line = c.in-Ok-false.ensures.open;
      reached = reached_more _ _ _ c.octets.count c.in-Ok-Some.octet c.octets.self c.take_octet.new.self c.octets.invariant.reached one takes;
      later = omega (arith, c.octets.invariant.later, c.read_octet.ensures.cause.later);
    }

pub returns-in-Err-take_octet-clause-ends : goal.returns-in-Err-take_octet-clause-ends
returns-in-Err-take_octet-clause-ends g c =
    let one = rw c.in-Ok-Some.field-0-is at c.in-Ok-Some.ensures.octets in
    end_stops c.args.limit _ _ _ c.octets.count c.in-Ok-Some.octet c.octets.self c.take_octet.new.self c.in-Err-take_octet.e c.octets.invariant.reached (omega (arith, c.octets.invariant.within, c.if-count-limit.false)) one
    c.in-Err-take_octet.ensures.takes

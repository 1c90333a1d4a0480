use Rattle.std.proofs.Common.{◌++◌, refl, subst}
use Rattle.switch_event.specs.Config.{empty}
use Rattle.trace_defs.specs.Alike.{ReadAlike}
use Rattle.trace_defs.proofs.TraceLemmas.{HasRead-other}
use Rattle.settings_reader.proofs.Reached.{fed_alone, takes_other, takes_feed}
use Rattle.settings_reader.proofs.reader.Reader.take_octet.Goals as goal

pub returns-then-octet-ne10-clause-takes : goal.returns-then-octet-ne10-clause-takes
returns-then-octet-ne10-clause-takes c =
    let alone = fed_alone c.args.octet c.if-octet-ne10.true in
    takes_other c.args.octet c.args.self.now _ refl refl refl (λ given part p read. HasRead-other 0 empty given p part c.args.octet read c.if-octet-ne10.true)
    (λ line kept. subst (λ l. ReadAlike c.feed-whole.new.self.text (line ++ l)) alone.0 (c.feed-whole.ensures.text line kept))

pub returns-clause-takes : goal.returns-clause-takes
returns-clause-takes c =
    takes_feed c.args.octet c.args.self.now c.args.self.now c.take_line.new.self _ c.in_ok-ends.ends c.if-octet-ne10.false (λ given at. at) c.in_ok-ends.ensures.takes refl refl refl c.next.ensures

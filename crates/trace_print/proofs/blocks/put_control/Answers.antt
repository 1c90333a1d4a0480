use Rattle.trace_print.proofs.Texts.{on_err, begins_more}
use Rattle.trace_print.proofs.blocks.put_control.Goals as goal

pub returns-clause-begins : goal.returns-clause-begins
returns-clause-begins c = on_err c.put_sent.result (begins_more c.args.out.now.items _ c.put_line.new.out.items c.put_sent.new.out.items c.in_ok-put_line.ensures.printed) c.put_sent.ensures.begins

use Rattle.trace_print.proofs.Texts.{on_err, begins_more}
use Rattle.trace_print.proofs.trace.put_trace.Goals as goal

pub returns-clause-begins : goal.returns-clause-begins
returns-clause-begins c =
    on_err c.put_entries.result (
    begins_more c.args.out.now.items _ c.print_config.new.out.items c.put_entries.new.out.items c.in_ok-print_config.ensures.printed
    ) c.put_entries.ensures.begins

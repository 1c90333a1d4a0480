use Rattle.trace_print.proofs.WholeBack.{trace_back}
use Rattle.trace_print.proofs.trace.print_trace.Goals as goal

pub returns-clause-back : goal.returns-clause-back
returns-clause-back c = λ limit room text h. trace_back c.append_trace.result c.args.c.now c.args.lines.now c.args.out.now.items _ c.append_trace.ensures.printed limit room text h

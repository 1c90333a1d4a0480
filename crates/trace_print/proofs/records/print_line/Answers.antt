use Rattle.trace_print.proofs.Back.{record_back}
use Rattle.trace_print.proofs.records.print_line.Goals as goal

pub returns-clause-back : goal.returns-clause-back
returns-clause-back c = λ config given line r is read. record_back c.append_line.result c.args.l.now c.args.out.now.items _ config given line r is read c.append_line.ensures.printed

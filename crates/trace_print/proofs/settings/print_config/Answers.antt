use Rattle.trace_print.proofs.Back.{settings_back}
use Rattle.trace_print.proofs.settings.print_config.Goals as goal

pub returns-clause-back : goal.returns-clause-back
returns-clause-back c = λ room lines p read begun same. settings_back c.append_config.result c.args.c.now c.args.out.now.items _ room lines p read begun same c.append_config.ensures.printed

use Rattle.trace_lang.proofs.Valid.{begins_valid}
use Rattle.trace_lang.proofs.line.read_line.Goals as goal

pub returns-clause-valid : goal.returns-clause-valid
returns-clause-valid c = λ room lines p read config given.
    begins_valid c.read_any.result c.args.c.now c.read_any.new.c c.args.given.now c.read_any.new.given c.args.begun c.args.line.now c.read_any.ensures.reads c.read_any.ensures.place room lines p read config given

use Rattle.std.proofs.Common.{sym, ap}
use Rattle.std.specs.Fmt.{digits}
use Rattle.history_defs.specs.Status.{status_text}
use Rattle.race_run.proofs.refusal.status_words.Goals as goal

pub returns-in-6 : goal.returns-in-6
unfolding digits
returns-in-6 c = ap status_text (sym c.in-6.is)

pub returns-in-8 : goal.returns-in-8
unfolding digits
returns-in-8 c = ap status_text (sym c.in-8.is)

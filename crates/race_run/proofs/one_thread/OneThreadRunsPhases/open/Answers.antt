use Rattle.std.proofs.Common.{refl}
use Rattle.race_run.proofs.one_thread.OneThreadRunsPhases.open.Goals as goal

pub returns-clause-stands : goal.returns-clause-stands
returns-clause-stands g c = record { place = c.in_ok-open.ensures; output = refl }

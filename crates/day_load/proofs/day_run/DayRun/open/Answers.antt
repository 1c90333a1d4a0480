use Rattle.std.proofs.Common.{ap, ◌∙◌}
use Rattle.switch_event.specs.Config.{is_valid}
use Rattle.day_defs.proofs.Frames.{settings-valid}
use Rattle.day_load.proofs.day_run.DayRun.open.Goals as goal

pub open-requires-2-clause-valid : goal.open-requires-2-clause-valid
open-requires-2-clause-valid g c = ap is_valid c.settings-2.ensures ∙ settings-valid

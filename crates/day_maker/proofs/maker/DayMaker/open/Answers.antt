use Rattle.std.proofs.Common.{ap, ◌∙◌}
use Rattle.switch_event.specs.Config.{is_valid}
use Rattle.day_defs.proofs.Frames.{settings-valid}
use Rattle.day_maker.proofs.maker.DayMaker.open.Goals as goal

pub open-requires : goal.open-requires
open-requires g c = ap is_valid c.requires ∙ settings-valid

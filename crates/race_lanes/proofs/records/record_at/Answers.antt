use Rattle.race_lanes.proofs.Placing.{placed_at}
use Rattle.race_lanes.proofs.records.record_at.Goals as goal

pub returns : goal.returns
returns c first = placed_at c.args.records.now first c.args.i c.entry_at.result.now c.entry_at.ensures

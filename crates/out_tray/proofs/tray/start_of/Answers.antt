use Rattle.out_tray.proofs.Append.{start_before, start_first}
use Rattle.out_tray.proofs.tray.start_of.Goals as goal

pub returns-then-n-eq0 : goal.returns-then-n-eq0
returns-then-n-eq0 c = start_first c.args.entries.now c.args.n c.if-n-eq0.true

pub returns-else-n-eq0 : goal.returns-else-n-eq0
returns-else-n-eq0 c = start_before c.args.entries.now c.args.n _ c.if-n-eq0.false c.requires

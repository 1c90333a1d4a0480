use Rattle.std.proofs.Common.{arith}
use Rattle.book_lock.proofs.Keeping.{draws}
use Rattle.book_lock.proofs.steps.draw.Goals as goal

pub fetch_add-requires : goal.fetch_add-requires
fetch_add-requires g c = (c.requires.table.0, (let w = c.requires.table.1 in omega arith), draws g.B.Booked.fixed g.B.Booked.list _ _ _ c.args.chair.now.me c.requires.free.0 c.requires.free.2)

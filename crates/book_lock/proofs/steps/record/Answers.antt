use Rattle.std.proofs.Common.{arith}
use Rattle.book_lock.proofs.Keeping.{records}
use Rattle.book_lock.proofs.steps.record.Goals as goal

pub fetch_add-requires : goal.fetch_add-requires
fetch_add-requires g c = (c.requires.table.0, (let w = c.requires.table.1 in omega arith), records g.B.Booked.fixed g.B.Booked.list _ _ _ c.args.chair.now.me g.J.Recording.entry c.requires.turn.0 c.requires.room c.requires.turn.1)

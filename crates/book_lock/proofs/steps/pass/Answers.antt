use Rattle.std.proofs.Common.{arith}
use Rattle.book_lock.proofs.Keeping.{passes}
use Rattle.book_lock.proofs.steps.pass.Goals as goal

pub fetch_add-requires : goal.fetch_add-requires
fetch_add-requires g c = let h = c.requires.holds in
    (c.requires.table.0, (let w = c.requires.table.1 in omega arith), passes g.B.Booked.fixed g.B.Booked.list _ _ _ c.args.chair.now.me h.b c.args.chair.now.me.0.mark h.on h.some_part h.is h.book (λ n below _. below))

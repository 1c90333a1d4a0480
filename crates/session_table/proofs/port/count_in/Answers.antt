-- No more are held than there are.
use Rattle.std.proofs.Common.{arith}
use Rattle.session_table.specs.Rows.{is_held}
use Rattle.session_table.proofs.Counts.{most}
use Rattle.session_table.proofs.port.count_in.Goals as goal

pub overflow_add-held : goal.overflow_add-held
overflow_add-held c =
    omega (arith, c.loop-k.invariant, most (is_held c.args.hosts.now) c.args.first c.loop-k.k)

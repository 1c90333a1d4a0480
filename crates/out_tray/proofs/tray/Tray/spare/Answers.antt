use Rattle.std.proofs.Common.{arith}
use Rattle.out_tray.proofs.Append.{taken_from}
use Rattle.out_tray.proofs.tray.Tray.spare.Goals as goal

pub returns : goal.returns
returns c =
    rw (← c.self.view_is, c.len.ensures, c.len-2.ensures) (omega (arith, c.self.invariant.counted, taken_from 0 c.self.inside.entries.items c.self.inside.octets.items c.self.invariant.rises))

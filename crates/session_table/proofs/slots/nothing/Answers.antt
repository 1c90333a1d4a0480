-- All 960 places are made.
use Rattle.std.proofs.Common.{rules, ◌≡◌, refl}
use Rattle.session_table.proofs.slots.nothing.Goals as goal

pub returns : goal.returns
returns g c = let n : c.loop.counter ≡ 960 = search rules in rw (c.loop.invariant, n) refl

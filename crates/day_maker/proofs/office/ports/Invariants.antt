use Rattle.std.proofs.Common.{◌≡◌, map}
use Rattle.std.specs.List.{range_with_len}
use Rattle.day_defs.specs.Office.{port_conf}
use Rattle.day_maker.proofs.office.ports.Given as goal

abbrev pub invariant-loop-n : goal.invariant-loop-n
invariant-loop-n l = l.ports.items ≡ map port_conf (range_with_len 1 l.n)

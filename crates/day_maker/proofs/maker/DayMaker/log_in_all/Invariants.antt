use Rattle.std.specs.List.{flat_map, range_with_len}
use Rattle.day_defs.specs.Day.{log_in}
use Rattle.day_maker.specs.Making.{Makes}
use Rattle.day_maker.proofs.maker.DayMaker.log_in_all.Given as goal

abbrev pub invariant-loop-n : goal.invariant-loop-n
invariant-loop-n g l =
    Makes g.A.Authenticator.stands g.A.Authenticator.made l.initial.self l.self (flat_map log_in (range_with_len 1 l.n)) l.initial.records.items l.records.items

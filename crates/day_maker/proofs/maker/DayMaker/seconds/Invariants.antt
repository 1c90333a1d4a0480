use Rattle.std.proofs.Common.{replicate}
use Rattle.day_defs.specs.Day.{Second}
use Rattle.day_maker.specs.Making.{Makes}
use Rattle.day_maker.proofs.maker.DayMaker.seconds.Given as goal

abbrev pub invariant-loop-n : goal.invariant-loop-n
invariant-loop-n g l =
    Makes g.A.Authenticator.stands g.A.Authenticator.made l.initial.self l.self (replicate l._n Second) l.initial.records.items l.records.items

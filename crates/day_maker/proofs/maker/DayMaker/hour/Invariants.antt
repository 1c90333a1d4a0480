use Rattle.std.specs.List.{flat_map, range_with_len}
use Rattle.day_defs.specs.Day.{seconds_and_frames}
use Rattle.day_maker.specs.Making.{Makes}
use Rattle.day_maker.proofs.maker.DayMaker.hour.Given as goal

abbrev pub invariant-loop-part : goal.invariant-loop-part
invariant-loop-part g l =
    Makes g.A.Authenticator.stands g.A.Authenticator.made l.initial.self l.self (flat_map (λ part. seconds_and_frames l.initial.self.hosts) (range_with_len 0 l._part)) l.initial.records.items l.records.items

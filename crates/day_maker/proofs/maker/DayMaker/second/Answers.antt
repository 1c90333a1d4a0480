use Rattle.std.proofs.Common.{refl}
use Rattle.day_defs.specs.Day.{Second}
use Rattle.day_maker.proofs.Making.{on_both, makes-one}
use Rattle.day_maker.proofs.maker.DayMaker.second.Goals as goal

pub returns : goal.returns
returns g c = on_both c.control.result c.control.ensures.adds c.control.ensures.turns
    (λ adds few. makes-one g.A.Authenticator.stands g.A.Authenticator.made c.args.self.now c.control.new.self Second _ c.args.records.now.items c.control.new.records.items adds (λ d s. refl) few)

use Rattle.std.proofs.Common.{refl}
use Rattle.day_defs.specs.Day.{LinkUp}
use Rattle.day_defs.proofs.Frames.{port-there}
use Rattle.day_maker.proofs.Making.{on_both, makes-one}
use Rattle.day_maker.proofs.maker.DayMaker.link_up.Goals as goal

pub control-requires-clause-event : goal.control-requires-clause-event
control-requires-clause-event g c = port-there c.args.port c.requires.least c.requires.most

pub returns : goal.returns
returns g c = on_both c.control.result c.control.ensures.adds c.control.ensures.turns
    (λ adds few. makes-one g.A.Authenticator.stands g.A.Authenticator.made c.args.self.now c.control.new.self (LinkUp c.args.port) _ c.args.records.now.items c.control.new.records.items adds (λ d s. refl) few)

use Rattle.std.proofs.Common.{◌∷◌, []}
use Rattle.day_defs.specs.Day.{Respond, Answer, Send}
use Rattle.day_maker.proofs.Making.{on_ok, makes-then}
use Rattle.day_maker.proofs.maker.DayMaker.renew.Goals as goal

pub returns : goal.returns
returns g c =
    let host = c.args.host in
    let first = makes-then g.A.Authenticator.stands g.A.Authenticator.made c.args.self.now c.respond.new.self c.answer.new.self (Respond host ∷ []) (Answer host ∷ []) c.args.records.now.items c.respond.new.records.items c.answer.new.records.items
    c.in_ok-respond.ensures c.in_ok-answer.ensures in
    on_ok c.send.result c.send.ensures
    (makes-then g.A.Authenticator.stands g.A.Authenticator.made c.args.self.now c.answer.new.self c.send.new.self (Respond host ∷ Answer host ∷ []) (Send host ∷ []) c.args.records.now.items c.answer.new.records.items c.send.new.records.items first)

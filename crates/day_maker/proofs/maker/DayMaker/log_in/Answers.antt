use Rattle.std.proofs.Common.{◌∷◌, []}
use Rattle.day_defs.specs.Day.{Start, Respond, Answer}
use Rattle.day_maker.proofs.Making.{on_ok, makes-then}
use Rattle.day_maker.proofs.maker.DayMaker.log_in.Goals as goal

pub answer-requires-clause-day : goal.answer-requires-clause-day
answer-requires-clause-day g c =
    let day = c.requires.day in
    (_, c.in_ok-respond.ensures.goes _ (c.in_ok-start.ensures.goes day.0 day.1))

pub returns : goal.returns
returns g c =
    let host = c.args.host in
    let first = makes-then g.A.Authenticator.stands g.A.Authenticator.made c.args.self.now c.start.new.self c.respond.new.self (Start host ∷ []) (Respond host ∷ []) c.args.records.now.items c.start.new.records.items c.respond.new.records.items
    c.in_ok-start.ensures c.in_ok-respond.ensures in
    on_ok c.answer.result c.answer.ensures
    (makes-then g.A.Authenticator.stands g.A.Authenticator.made c.args.self.now c.respond.new.self c.answer.new.self (Start host ∷ Respond host ∷ []) (Answer host ∷ []) c.args.records.now.items c.respond.new.records.items c.answer.new.records.items first)

use Rattle.std.proofs.Common.{◌+◌, refl, arith}
use Rattle.day_defs.specs.Day.{log_in}
use Rattle.day_defs.proofs.Going.{length-each}
use Rattle.day_maker.proofs.Making.{makes-next, each-more}
use Rattle.day_maker.proofs.maker.DayMaker.log_in_all.Goals as goal

pub log_in-requires-clause-few : goal.log_in-requires-clause-few
log_in-requires-clause-few g c = omega (arith, c.loop-n.invariant.turns, length-each log_in 3 (λ h. refl) 1 c.loop-n.n)

pub loop-n-preserved : goal.loop-n-preserved
loop-n-preserved g c =
    let n = c.loop-n.n in
    makes-next g.A.Authenticator.stands g.A.Authenticator.made c.args.self.now c.loop-n.self c.log_in.new.self _ _ (log_in (n + 1)) c.args.records.now.items c.loop-n.records.items c.log_in.new.records.items
    (each-more log_in 1 n (n + 1) (omega arith)) c.loop-n.invariant c.in_ok-log_in.ensures

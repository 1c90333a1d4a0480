use Rattle.std.proofs.Common.{ℕ, map, subst}
use Rattle.day_defs.specs.Office.{hosts}
use Rattle.day_defs.specs.Day.{Send, seconds}
use Rattle.day_maker.specs.Making.{Makes}
use Rattle.day_maker.proofs.Making.{on_ok, makes-then}
use Rattle.day_maker.proofs.maker.DayMaker.seconds_and_frames.Goals as goal

pub returns : goal.returns
returns g c =
    on_ok c.send_all.result c.send_all.ensures
    (λ sends. makes-then g.A.Authenticator.stands g.A.Authenticator.made c.args.self.now c.seconds.new.self c.send_all.new.self seconds (map Send (hosts c.args.self.now.hosts)) c.args.records.now.items c.seconds.new.records.items c.send_all.new.records.items
    c.in_ok-seconds.ensures
    (subst (λ (n : ℕ). Makes g.A.Authenticator.stands g.A.Authenticator.made c.seconds.new.self c.send_all.new.self (map Send (hosts n)) c.seconds.new.records.items c.send_all.new.records.items) c.in_ok-seconds.ensures.hosts sends))

use Rattle.std.proofs.Common.{ℕ, subst, arith}
use Rattle.std.specs.List.{flat_map}
use Rattle.day_defs.specs.Office.{hosts}
use Rattle.day_defs.specs.Day.{links, log_in, arrival}
use Rattle.day_defs.proofs.Going.{length-links, length-arrival}
use Rattle.day_maker.specs.Making.{Makes}
use Rattle.day_maker.proofs.Making.{on_ok, makes-then}
use Rattle.day_maker.proofs.maker.DayMaker.arrival.Goals as goal

pub links_up-requires-clause-few : goal.links_up-requires-clause-few
links_up-requires-clause-few g c = omega (arith, length-arrival c.args.self.now.hosts)

pub log_in_all-requires-clause-few : goal.log_in_all-requires-clause-few
log_in_all-requires-clause-few g c =
    omega (arith, length-arrival c.args.self.now.hosts, c.in_ok-links_up.ensures.turns, c.in_ok-links_up.ensures.hosts, length-links)

pub returns : goal.returns
unfolding arrival
returns g c =
    on_ok c.log_in_all.result c.log_in_all.ensures
    (λ logs. makes-then g.A.Authenticator.stands g.A.Authenticator.made c.args.self.now c.links_up.new.self c.log_in_all.new.self links (flat_map log_in (hosts c.args.self.now.hosts)) c.args.records.now.items c.links_up.new.records.items c.log_in_all.new.records.items
    c.in_ok-links_up.ensures
    (subst (λ (n : ℕ). Makes g.A.Authenticator.stands g.A.Authenticator.made c.links_up.new.self c.log_in_all.new.self (flat_map log_in (hosts n)) c.links_up.new.records.items c.log_in_all.new.records.items) c.in_ok-links_up.ensures.hosts logs))

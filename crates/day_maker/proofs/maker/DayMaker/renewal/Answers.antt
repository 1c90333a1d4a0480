use Rattle.std.proofs.Common.{◌≡◌, ◌+◌, ℕ, refl, subst, arith}
use Rattle.std.specs.List.{flat_map, range_with_len}
use Rattle.day_defs.specs.Day.{renew, renewal}
use Rattle.day_defs.proofs.Going.{length-each, length-renewal}
use Rattle.day_maker.specs.Making.{Makes}
use Rattle.day_maker.proofs.Making.{makes-next, each-more}
use Rattle.day_maker.proofs.maker.DayMaker.renewal.Goals as goal

pub renew-requires-clause-few : goal.renew-requires-clause-few
renew-requires-clause-few g c =
    omega (arith, c.loop-n.invariant.turns, length-each renew 3 (λ h. refl) 1 c.loop-n.n, length-renewal c.args.self.now.hosts)

pub loop-n-preserved : goal.loop-n-preserved
loop-n-preserved g c =
    let n = c.loop-n.n in
    makes-next g.A.Authenticator.stands g.A.Authenticator.made c.args.self.now c.loop-n.self c.renew.new.self _ _ (renew (n + 1)) c.args.records.now.items c.loop-n.records.items c.renew.new.records.items
    (each-more renew 1 n (n + 1) (omega arith)) c.loop-n.invariant c.in_ok-renew.ensures

pub returns : goal.returns
unfolding renewal
returns g c =
    let all : c.loop-n.n ≡ c.args.self.now.hosts = omega arith in
    subst (λ (n : ℕ). Makes g.A.Authenticator.stands g.A.Authenticator.made c.args.self.now c.loop-n.self (flat_map renew (range_with_len 1 n)) c.args.records.now.items c.loop-n.records.items) all c.loop-n.invariant

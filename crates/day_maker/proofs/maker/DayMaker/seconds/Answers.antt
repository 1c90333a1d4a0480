use Rattle.std.proofs.Common.{◌≡◌, ◌∷◌, [], ℕ, replicate, subst, sym, arith}
use Rattle.std.proofs.lemmas.List.{replicate_more}
use Rattle.day_defs.specs.Day.{Second, seconds}
use Rattle.day_maker.specs.Making.{Makes}
use Rattle.day_maker.proofs.Making.{makes-next}
use Rattle.day_maker.proofs.maker.DayMaker.seconds.Goals as goal

pub loop-n-preserved : goal.loop-n-preserved
loop-n-preserved g c =
    let n = c.loop-n._n in
    makes-next g.A.Authenticator.stands g.A.Authenticator.made c.args.self.now c.loop-n.self c.second.new.self _ _ (Second ∷ []) c.args.records.now.items c.loop-n.records.items c.second.new.records.items
    (sym (replicate_more n Second)) c.loop-n.invariant c.in_ok-second.ensures

pub returns : goal.returns
unfolding seconds
returns g c =
    let all : c.loop-n._n ≡ 360 = omega arith in
    subst (λ (n : ℕ). Makes g.A.Authenticator.stands g.A.Authenticator.made c.args.self.now c.loop-n.self (replicate n Second) c.args.records.now.items c.loop-n.records.items) all c.loop-n.invariant

use Rattle.std.proofs.Common.{◌≡◌, ◌+◌, ◌∷◌, [], map, ℕ, subst, arith}
use Rattle.std.specs.List.{range_with_len}
use Rattle.std.proofs.lemmas.List.FromFn.{map-range_with_len_more, length-map-range_with_len}
use Rattle.day_defs.specs.Day.{LinkUp, links}
use Rattle.day_maker.specs.Making.{Makes}
use Rattle.day_maker.proofs.Making.{makes-next}
use Rattle.day_maker.proofs.maker.DayMaker.links_up.Goals as goal

pub link_up-requires-clause-few : goal.link_up-requires-clause-few
link_up-requires-clause-few g c = omega (arith, c.loop-n.invariant.turns, length-map-range_with_len LinkUp 1 c.loop-n.n)

pub loop-n-preserved : goal.loop-n-preserved
loop-n-preserved g c =
    let n = c.loop-n.n in
    makes-next g.A.Authenticator.stands g.A.Authenticator.made c.args.self.now c.loop-n.self c.link_up.new.self _ _ (LinkUp (n + 1) ∷ []) c.args.records.now.items c.loop-n.records.items c.link_up.new.records.items
    (map-range_with_len_more LinkUp 1 n (n + 1) (omega arith)) c.loop-n.invariant c.in_ok-link_up.ensures

pub returns : goal.returns
unfolding links
returns g c =
    let all : c.loop-n.n ≡ 60 = omega arith in
    subst (λ (n : ℕ). Makes g.A.Authenticator.stands g.A.Authenticator.made c.args.self.now c.loop-n.self (map LinkUp (range_with_len 1 n)) c.args.records.now.items c.loop-n.records.items) all c.loop-n.invariant

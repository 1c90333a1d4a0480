use Rattle.std.proofs.Common.{rules, ◌≡◌, ◌+◌, List, take, length, ◌∙◌, subst, sym, arith}
use Rattle.legal_defs.specs.Runs.{Numbered, numbered, with_number}
use Rattle.trace_defs.specs.Entered.{entered, entered_all}
use Rattle.race_lanes.specs.Lanes.{Ran, Counted, MayCome}
use Rattle.race_lanes.proofs.Placing.{as_many, all_at}
use Rattle.race_lanes.proofs.Speaking.{same_lane, itself, ran_on, ran_none, counted_on, counted_none, take_zero, take_all}
use Rattle.race_lanes.proofs.lanes.LaneJob+OpenBook+A.run.Goals as goal

pub loop-i-init : goal.loop-i-init
loop-i-init g c =
    let rs : List Numbered = numbered c.args.first (entered_all c.args.records.now) in (
      itself c.args.self.now,
      (λ x base. subst (λ done. Ran x.fixed.config x.opening c.args.lanes c.args.self.now.lane done c.args.self.now.out.failed c.args.self.now.knows.entries c.args.self.now.out.said) (sym (take_zero rs)) (ran_none x.fixed.config x.opening c.args.lanes c.args.self.now.lane _ _ _ c.requires.fresh.entries c.requires.fresh.said)),
      (λ x base. counted_none x.opening c.args.lanes c.args.self.now.lane (take 0 rs) c.args.self.now.out.failed c.args.self.now.out.full c.args.self.now.knows.mark c.args.self.now.knows.entries c.requires.fresh.entries c.requires.fresh.full),
    )

pub take-requires-clause-lock : goal.take-requires-clause-lock
take-requires-clause-lock g c κs within = c.loop-i.invariant.0.lock ∙ c.requires.fresh.lock_is

pub take-requires-clause-based : goal.take-requires-clause-based
take-requires-clause-based g c κs within =
    let fresh = c.requires.fresh in (
      fresh.base,
      c.loop-i.invariant.0.base ∙ fresh.based,
      all_at (MayCome fresh.base.fixed.config) (numbered c.args.first (entered_all c.args.records.now)) c.loop-i.i _ fresh.come (c.record_at-what.ensures c.args.first),
    )

pub take-requires-clause-room : goal.take-requires-clause-room
take-requires-clause-room g c κs within = let a = c.loop-i.invariant.0.room in let b = c.requires.fresh.room in omega arith

pub take-requires-clause-lane : goal.take-requires-clause-lane
take-requires-clause-lane g c κs within =
    let same = c.loop-i.invariant.0 in
    let fresh = c.requires.fresh in (
      same.out_lane ∙ (fresh.lane_is ∙ sym same.lane),
      (let a = same.lane in let b = fresh.lane_low in omega arith),
      (let a = same.lane in let b = fresh.lane_high in omega arith),
    )

pub loop-i-preserved : goal.loop-i-preserved
loop-i-preserved g c =
    let inv = c.loop-i.invariant in
    let rs : List Numbered = numbered c.args.first (entered_all c.args.records.now) in
    let r = with_number (c.args.first + c.loop-i.i) (entered c.record_at-what.result.now) in
    let at = c.record_at-what.ensures c.args.first in (
      same_lane _ _ _ inv.0 c.take.ensures.same,
      (λ x base. ran_on x.fixed.config x.opening c.args.lanes c.args.self.now.lane c.loop-i.self.lane rs c.loop-i.i r _ _ _ _ _ _ inv.0.lane at
          (c.take.ensures.ran x (take c.loop-i.i rs) (inv.0.base ∙ base)) (inv.1 x base)),
      (λ x base. counted_on x.opening c.args.lanes c.args.self.now.lane c.loop-i.self.lane rs c.loop-i.i r _ _ _ _ _ _ _ _ inv.0.lane at
          (c.take.ensures.counted x (take c.loop-i.i rs) (inv.0.base ∙ base)) (inv.2 x base)),
    )

pub returns : goal.returns
returns g c =
    let inv = c.loop-i.invariant in
    let rs : List Numbered = numbered c.args.first (entered_all c.args.records.now) in
    let at_end : c.loop-i.i ≡ length c.args.records.now = search rules in
    let all : c.loop-i.i ≡ length rs = at_end ∙ sym (as_many c.args.first c.args.records.now) in
    record {
      same = inv.0;
      ran = λ x base. subst (λ done. Ran x.fixed.config x.opening c.args.lanes c.args.self.now.lane done c.loop-i.self.out.failed c.loop-i.self.knows.entries c.loop-i.self.out.said) (take_all c.loop-i.i rs all) (inv.1 x base);
      counted = λ x base. subst (λ done. Counted x.opening c.args.lanes c.args.self.now.lane done c.loop-i.self.out.failed c.loop-i.self.out.full c.loop-i.self.knows.mark c.loop-i.self.knows.entries) (take_all c.loop-i.i rs all) (inv.2 x base);
    }

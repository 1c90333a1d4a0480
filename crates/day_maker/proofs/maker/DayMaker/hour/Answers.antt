use Rattle.std.proofs.Common.{◌≡◌, ◌+◌, ◌≤◌, ℕ, subst, arith}
use Rattle.std.proofs.Math.Nat.{mul-le-mul_left}
use Rattle.std.specs.List.{flat_map, range_with_len}
use Rattle.day_defs.specs.Day.{seconds_and_frames, hour}
use Rattle.day_defs.proofs.Going.{length-each, length-seconds_and_frames, length-hour}
use Rattle.day_maker.specs.Making.{Makes}
use Rattle.day_maker.proofs.Making.{makes-next, each-more}
use Rattle.day_maker.proofs.maker.DayMaker.hour.Goals as goal

pub seconds_and_frames-requires-clause-few : goal.seconds_and_frames-requires-clause-few
seconds_and_frames-requires-clause-few g c =
    let hosts = c.args.self.now.hosts in
    let each = length-each (λ part. seconds_and_frames hosts) (360 + hosts) (λ part. length-seconds_and_frames hosts) 0 c.loop-part._part in
    let next : c.loop-part._part + 1 ≤ 10 = omega arith in
    omega (arith, c.loop-part.invariant.turns, each, length-hour hosts, mul-le-mul_left (360 + hosts) next)

pub loop-part-preserved : goal.loop-part-preserved
loop-part-preserved g c =
    let n = c.loop-part._part in
    makes-next g.A.Authenticator.stands g.A.Authenticator.made c.args.self.now c.loop-part.self c.seconds_and_frames.new.self _ _ (seconds_and_frames c.args.self.now.hosts) c.args.records.now.items c.loop-part.records.items c.seconds_and_frames.new.records.items
    (each-more (λ part. seconds_and_frames c.args.self.now.hosts) 0 n n (omega arith)) c.loop-part.invariant
    (subst (λ (n : ℕ). Makes g.A.Authenticator.stands g.A.Authenticator.made c.loop-part.self c.seconds_and_frames.new.self (seconds_and_frames n) c.loop-part.records.items c.seconds_and_frames.new.records.items) c.loop-part.invariant.hosts c.in_ok-seconds_and_frames.ensures)

pub returns : goal.returns
unfolding hour
returns g c =
    let all : c.loop-part._part ≡ 10 = omega arith in
    subst (λ (n : ℕ). Makes g.A.Authenticator.stands g.A.Authenticator.made c.args.self.now c.loop-part.self (flat_map (λ part. seconds_and_frames c.args.self.now.hosts) (range_with_len 0 n)) c.args.records.now.items c.loop-part.records.items) all c.loop-part.invariant

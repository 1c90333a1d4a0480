use Rattle.std.proofs.Common.{◌+◌, ◌∷◌, [], arith}
use Rattle.std.proofs.lemmas.List.FromFn.{map-range_with_len_more}
use Rattle.day_defs.specs.Day.{Send}
use Rattle.day_maker.proofs.Making.{makes-next}
use Rattle.day_maker.proofs.maker.DayMaker.send_all.Goals as goal

pub loop-n-preserved : goal.loop-n-preserved
loop-n-preserved g c =
    let n = c.loop-n.n in
    makes-next g.A.Authenticator.stands g.A.Authenticator.made c.args.self.now c.loop-n.self c.send.new.self _ _ (Send (n + 1) ∷ []) c.args.records.now.items c.loop-n.records.items c.send.new.records.items
    (map-range_with_len_more Send 1 n (n + 1) (omega arith)) c.loop-n.invariant c.in_ok-send.ensures

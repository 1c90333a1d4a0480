use Rattle.std.proofs.Common.{◌≡◌, ◌-◌, length, ◌∙◌, sym, arith, length-drop}
use Rattle.dup_cache.proofs.Newest.{passed, answered}
use Rattle.dup_cache.proofs.kept.Kept.look.Goals as goal

pub returns-then-is_repeat-clause-reply : goal.returns-then-is_repeat-clause-reply
returns-then-is_repeat-clause-reply c =
    let used : length c.args.self.now ≡ c.self.inside.len = rw (← c.self.view_is, length-drop (length c.self.inside.slots.items - c.self.inside.len) c.self.inside.slots.items) (omega (arith, c.self.invariant.0, c.self.invariant.2)) in
    rw c.reply.ensures.value
    (sym (answered c.args.sport c.args.request.now c.args.now c.args.self.now c.loop-n.n _ c.entry-slot.result.now (omega (arith, used, c.loop-n-test.true)) c.entry-slot.ensures
    (sym c.is_repeat.ensures ∙ c.if-is_repeat.true) c.loop-n.invariant))

pub loop-n-preserved : goal.loop-n-preserved
loop-n-preserved c =
    let used : length c.args.self.now ≡ c.self.inside.len = rw (← c.self.view_is, length-drop (length c.self.inside.slots.items - c.self.inside.len) c.self.inside.slots.items) (omega (arith, c.self.invariant.0, c.self.invariant.2)) in
    passed c.args.sport c.args.request.now c.args.now c.args.self.now c.loop-n.n _ c.entry-slot.result.now (omega (arith, used, c.loop-n-test.true)) c.entry-slot.ensures
    (sym c.is_repeat.ensures ∙ c.if-is_repeat.false) c.loop-n.invariant

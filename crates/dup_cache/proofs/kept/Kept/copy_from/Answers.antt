use Rattle.std.proofs.Common.{◌≡◌, refl, ◌+◌, ◌-◌, ◌≤◌, ◌∷◌, [], ◌++◌, length, take, ap, ◌∙◌, arith, length-take, length-drop}
use Rattle.circular_buffer.specs.Buffer.{keep_last}
use Rattle.dup_cache.proofs.Lists.{keep_few, take_more}
use Rattle.dup_cache.proofs.kept.Kept.copy_from.Goals as goal

pub loop-n-preserved : goal.loop-n-preserved
loop-n-preserved c =
    let few : length c.args.other.now ≤ 64 = rw (← c.other.view_is, length-drop (length c.other.inside.slots.items - c.other.inside.len) c.other.inside.slots.items) (omega (arith, c.other.invariant.0, c.other.invariant.2)) in
    let copied : c.loop-n.self ++ c.entry-slot.result.now ∷ [] ≡ take (c.loop-n.n + 1) c.args.other.now =
    rw c.loop-n.invariant (take_more c.args.other.now c.loop-n.n c.entry-slot.result.now c.entry-slot.ensures) in
    let kept : c.keep.new.self ≡ keep_last 64 (c.loop-n.self ++ c.entry-slot.result.now ∷ []) =
    rw (c.keep.ensures, c.moment.ensures, c.sport.ensures, c.request.ensures.value, c.reply.ensures.value) refl
    in kept ∙ ap (keep_last 64) copied ∙ keep_few 64 (take (c.loop-n.n + 1) c.args.other.now) (rw (length-take (c.loop-n.n + 1) c.args.other.now) (omega (arith, few)))

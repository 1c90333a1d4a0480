use Rattle.std.proofs.Common.{◌∙◌, ap, ap₂, sym, drop}
use Rattle.outside_link.specs.Link.{first}
use Rattle.outside_link.proofs.Queues.{popped, queue_of, changed, with_waits}
use Rattle.outside_link.proofs.mem_link.MemLink.take.Goals as goal

pub returns : goal.returns
returns c =
    let inside = c.self.inside in
    let waits = ap (λ v. v.waits) c.self.view_is in
    let seen = queue_of inside.waits c.args.self.now.waits c.args.channel c.from.result c.index-self-from.result waits c.from.ensures c.self.invariant.0 c.requires in (
      popped c.pop_front.result _ _ c.pop_front.ensures.items c.pop_front.ensures.rest ∙ ap first (sym seen),
      ap₂ with_waits c.self.view_is (changed inside.waits c.args.self.now.waits c.args.channel c.from.result _ _ waits c.from.ensures (c.pop_front.ensures.rest ∙ ap (drop 1) (sym seen))),
    )

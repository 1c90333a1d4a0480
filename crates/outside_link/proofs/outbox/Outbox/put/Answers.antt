use Rattle.std.proofs.Common.{◌+◌, ◌-◌, ◌++◌, ◌∷◌, [], ap, ap₂, ◌∙◌, refl, length}
use Rattle.outside_link.proofs.Stores.{sent_more}
use Rattle.outside_link.proofs.outbox.Outbox.put.Goals as goal

pub returns : goal.returns
returns c =
    let inside = c.self.inside in
    ap₂ (λ s r. record { sent = s; room = r - (16 + length c.args.piece.now) })
    (sent_more inside.octets.items _ c.args.piece.now inside.heads.items _ _ c.self.invariant.0 c.append.ensures.items c.push_reserved.ensures.items (ap length c.as_slice-at.ensures.value) refl ∙ ap (λ v. v.sent ++ record { channel = c.args.channel; to = c.args.to; octets = c.args.piece.now } ∷ []) c.self.view_is)
    (ap (λ v. v.room) c.self.view_is)

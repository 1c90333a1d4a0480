use Rattle.std.proofs.Common.{◌∙◌, ◌++◌, ◌∷◌, [], ap, ap₂, sym}
use Rattle.std.proofs.Math.Seq.{map-set_same}
use Rattle.outside_link.proofs.Queues.{queue_of, changed, with_waits}
use Rattle.outside_link.proofs.mem_link.MemLink.give.Goals as goal

pub returns-in_err-push_back-clause-err : goal.returns-in_err-push_back-clause-err
returns-in_err-push_back-clause-err c = λ failed.
    let inside = c.self.inside in
    ap₂ with_waits c.self.view_is (map-set_same (λ q. q.items) inside.waits c.from.result _ c.index-self-from.result c.in_err-push_back.ensures.items ∙ ap (λ v. v.waits) c.self.view_is)

pub returns-clause-ok : goal.returns-clause-ok
returns-clause-ok c =
    let inside = c.self.inside in
    let waits = ap (λ v. v.waits) c.self.view_is in
    let seen = queue_of inside.waits c.args.self.now.waits c.args.channel c.from.result c.index-self-from.result waits c.from.ensures c.self.invariant.0 c.requires in
    ap₂ with_waits c.self.view_is
    (changed inside.waits c.args.self.now.waits c.args.channel c.from.result _ _ waits c.from.ensures
    (c.in_ok-push_back.ensures.items ∙ ap₂ (λ l x. l ++ x ∷ []) (sym seen) c.in_ok-letter.ensures))

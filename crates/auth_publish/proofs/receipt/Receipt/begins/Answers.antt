use Rattle.std.proofs.Common.{ap, refl, subst, List}
use mathlib.Core.List.{IsPrefix}
use Rattle.table_defs.specs.Table.{Change}
use Rattle.auth_publish.proofs.Lists.{prefix_compare}
use Rattle.auth_publish.proofs.receipt.Receipt.begins.Goals as goal

pub returns : goal.returns
returns c =
    let both = c.learn.new.self.log in
    let this : IsPrefix c.self.inside.seen.log both = subst (λ (l : List Change). IsPrefix l both) (ap (λ s. s.log) c.again-both.ensures) c.learn.ensures.2 in
    rw (← c.self.view_is, ← c.other.view_is, c.self.invariant.0, c.other.invariant.0) (prefix_compare c.self.inside.seen.log c.other.inside.seen.log both this c.learn.ensures.3 _ refl)

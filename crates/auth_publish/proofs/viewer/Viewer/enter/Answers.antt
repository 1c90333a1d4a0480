use Rattle.std.proofs.Common.{Some, ap, sym, ◌∙◌}
use Rattle.auth_publish.specs.Rules.{first_or, opening}
use Rattle.table_defs.specs.Table.{changed_by}
use Rattle.auth_publish.proofs.Steps.{enters}
use Rattle.auth_publish.proofs.viewer.Viewer.enter.Goals as goal

pub enter_as-requires : goal.enter_as-requires
enter_as-requires c = enters _ _

pub begins-requires : goal.begins-requires
begins-requires c = ap (λ p. p.told.name) c.get.ensures ∙ (c.in-Ok.ensures.1.placed _ _ c.self.invariant).1

pub invariant_of-result : goal.invariant_of-result
invariant_of-result c =
    let r = c.in-Ok.reading in
    let sees = c.in-Ok.ensures.1 in
    let placed = sees.placed _ _ c.self.invariant in
    let first = ap first_or sees.same in (
      sees.same ∙ (c.self.invariant ∙ (λ i. Some (opening (sym first i) (sym placed.1 i)))),
      placed.0 ∙ ap (λ t. changed_by t r.part.value.told.list) (sym first),
      sees.last,
    )

pub returns-then-begins-clause-same : goal.returns-then-begins-clause-same
returns-then-begins-clause-same c = ((c.in-Ok.ensures.1.placed _ _ c.self.invariant).1 ∙ ap (λ f. f.name) c.self.view_is, ap first_or c.in-Ok.ensures.1.same ∙ ap (λ f. f.first) c.self.view_is)

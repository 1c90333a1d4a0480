use Rattle.std.proofs.Common.{fold, sym, ap, ◌∙◌, subst}
use Rattle.crossbeam_utils.specs.Register.{TurnsAt}
use Rattle.auth_publish.specs.declared.rule.Published.{Published}
use Rattle.auth_publish.specs.Deeds.{done}
use Rattle.auth_publish.specs.Rules.{Stands}
use Rattle.auth_publish.proofs.Steps.{posts, Same}
use Rattle.auth_publish.proofs.publisher.show.Goals as goal

pub publish_as-requires : goal.publish_as-requires
publish_as-requires g c next is =
    let w = c.args.writer in
    let now = w.desk.shown.value in
    subst (λ (y : Published). TurnsAt Stands w.desk.place.id w.desk.place.me.0.client now y Same) (sym (is ∙ ap (fold done now) c.requires.1.1))
    (posts c.requires.1.0 _ _ now c.requires.0)

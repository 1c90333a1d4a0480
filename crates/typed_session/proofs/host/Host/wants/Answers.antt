use Rattle.std.proofs.Common.{◌∙◌, ap, sym, subst}
use Rattle.machine_vars.specs.declared.wants.Wants.{Wants}
use Rattle.machine_defs.specs.Live.{cleared}
use Rattle.typed_session.specs.declared.host.Host.{Host}
use Rattle.typed_session.specs.Stands.{Stands}
use Rattle.typed_session.proofs.Caring.{rests_of}
use Rattle.typed_session.proofs.Shapes.{same_ask, same_abort, same_gone, stands_cleared}
use Rattle.typed_session.proofs.host.Host.wants.Goals as goal

pub returns-clause-ask : goal.returns-clause-ask
returns-clause-ask c = λ v s. ap (λ (w : Wants). w.ask) c.flags-wants.ensures ∙ same_ask s

pub returns-clause-abort : goal.returns-clause-abort
returns-clause-abort c = λ v s. ap (λ (w : Wants). w.abort) c.flags-wants.ensures ∙ same_abort s

pub returns-clause-gone : goal.returns-clause-gone
returns-clause-gone c = λ v s. ap (λ (w : Wants). w.gone) c.flags-wants.ensures ∙ same_gone s

pub returns-clause-cleared : goal.returns-clause-cleared
returns-clause-cleared c = λ v s.
    let P : Host → Type 0 = λ y. Stands y (cleared v) in
    subst P (sym c.clear.ensures) (stands_cleared s)

pub returns-clause-rests : goal.returns-clause-rests
returns-clause-rests c = rests_of c.args.self.now _ c.clear.ensures

use Rattle.std.proofs.Common.{◌∙◌, Bool, false, sym, subst}
use Rattle.typed_session.specs.Seconds.{Ticks}
use Rattle.typed_session.proofs.Idling.{idles}
use Rattle.typed_session.proofs.host.Host.idle.Goals as goal

pub returns-clause-idles : goal.returns-clause-idles
returns-clause-idles c = λ e.
    let P : Bool → Type 0 = λ b. Ticks false b c.args.self.now c.idle.new.host in
    idles c.args.self.now _ (sym c.idle.ensures.idle ∙ e) (subst P e c.idle.ensures.ticks)

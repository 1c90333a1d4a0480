use Rattle.std.proofs.Common.{Option, Some, ap, subst}
use Rattle.switch_defs.specs.Switch.{Session}
use Rattle.host_sessions.specs.declared.sessions.Sessions.{Sessions}
use Rattle.host_sessions.specs.Finds.{FindsAt, IsAt}
use Rattle.control_core.proofs.Quiet.{passes_idly}
use Rattle.control_core.proofs.state.Core.idle.Goals as goal

pub returns-in-Some-clause-idles : goal.returns-in-Some-clause-idles
returns-in-Some-clause-idles c = λ done y s h next may.
    let core = c.args.self.now in
    let at : IsAt c.in-Some.at y core.sessions s = subst (λ (o : Option Session). FindsAt (Some c.in-Some.at) o core.sessions s) next.at (c.in-Some.ensures s h.sessions) in
    passes_idly c.args.n y s core c.idle.new.self h next may (c.idle.ensures.idles done y s h.sessions at may.between)

pub returns-in-Some-clause-stays : goal.returns-in-Some-clause-stays
returns-in-Some-clause-stays c = λ none s h. ap (λ (k : Sessions). record c.args.self.now { sessions = k }) (c.idle.ensures.stays none s h.sessions)

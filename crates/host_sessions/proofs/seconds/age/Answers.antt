use Rattle.std.proofs.Common.{◌∙◌, sym}
use Rattle.aaa_defs.specs.Waits.{pending_of}
use Rattle.host_sessions.proofs.Waiting.{none_waits, unaged}
use Rattle.host_sessions.proofs.seconds.age.Goals as goal

pub returns-else-is_asking-clause-waits : goal.returns-else-is_asking-clause-waits
returns-else-is_asking-clause-waits c = λ x s waits.
    let n = c.args.session.now.number in
    let w = c.args.waits.now in
    sym (unaged n w (none_waits (pending_of n w) x.vars.eap waits (sym c.if-is_asking.false ∙ c.is_asking.ensures x s)))

use Rattle.machine_defs.specs.Live as live
use Rattle.switch_defs.specs.Turn.{set_vars}
use Rattle.host_session.specs.Settles.{at_rest}
use Rattle.host_session.proofs.session.Session.start.Goals as goal

pub returns-clause-settles : goal.returns-clause-settles
returns-clause-settles c = λ x s.
    let f = c.on_start.ensures.follows x.vars s.stands in
    let l = c.rest.ensures.left (at_rest (set_vars live.Start x)) (record { stands = f.0; vlan = s.vlan; state = s.state; end_while = s.end_while; restricted = s.restricted }) in
    record { sits = l.sits; sent = f.1; wants = l.wants }

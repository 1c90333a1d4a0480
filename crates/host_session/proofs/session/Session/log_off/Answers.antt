use Rattle.std.proofs.Common.{false, not, ◌∙◌, refl}
use Rattle.std.proofs.Math.Bool.{and-false}
use Rattle.machine_defs.specs.Live as live
use Rattle.switch_defs.specs.Switch.{Standing}
use Rattle.switch_defs.specs.Turn.{set_vars}
use Rattle.host_session.specs.Settles.{at_rest}
use Rattle.host_session.proofs.session.Session.log_off.Goals as goal

pub returns-clause-settles : goal.returns-clause-settles
returns-clause-settles c = λ x s.
    let f = c.on_logoff.ensures.follows x.vars s.stands in
    let y : Standing = at_rest (set_vars live.Logoff x) in
    let l = c.rest.ensures.left (record y { restricted = false }) (record { stands = f.0; vlan = s.vlan; state = s.state; end_while = s.end_while; restricted = refl }) in
    record {
      sits = record { stands = l.sits.stands; vlan = l.sits.vlan; state = l.sits.state; end_while = l.sits.end_while; restricted = l.sits.restricted ∙ and-false (not y.vars.auth_port_status) };
      sent = f.1;
      wants = l.wants;
    }

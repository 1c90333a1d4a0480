use Rattle.std.proofs.Common.{ℕ, ◌-◌, ◌∙◌, ap}
use Rattle.machine_defs.specs.Live as live
use Rattle.switch_defs.specs.Switch.{Standing}
use Rattle.switch_defs.specs.Turn.{set_vars}
use Rattle.host_session.specs.Settles.{at_rest}
use Rattle.host_session.proofs.session.Session.second.Goals as goal

pub returns-clause-settles : goal.returns-clause-settles
returns-clause-settles c = λ x s.
    let f = c.on_second.ensures.follows x.vars s.stands in
    let y : Standing = set_vars (live.Second c.args.gave_up) (record x { end_while = x.end_while - 1 }) in
    let l = c.rest.ensures.left (at_rest y) (record { stands = f.0; vlan = s.vlan; state = s.state; end_while = c.saturating_sub-self.ensures ∙ ap (λ (n : ℕ). n - 1) s.end_while; restricted = s.restricted }) in
    record { sits = l.sits; sent = f.1; wants = l.wants }

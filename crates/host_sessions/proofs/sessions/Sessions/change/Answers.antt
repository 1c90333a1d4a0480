use Rattle.std.proofs.Common.{◌≡◌, Some, ◌∙◌, ap}
use Rattle.session_table.specs.Slots.{value_at}
use Rattle.switch_defs.specs.Dynamic.{times_or, vlan_or}
use Rattle.host_session.specs.declared.session.Session.{Session}
use Rattle.host_sessions.proofs.Holding.{placed, value_is, value_sits}
use Rattle.host_sessions.proofs.Times.{changed_times}
use Rattle.host_sessions.proofs.sessions.Sessions.change.Goals as goal

pub returns-in-Some-clause-holds : goal.returns-in-Some-clause-holds
returns-in-Some-clause-holds c = λ y s holds i.
    let k = c.args.self.now in
    let at = c.args.at in
    let v = c.in-Some.session.now in
    let here : Some v ≡ value_at at k.slots = c.in-Some.ensures.value in
    placed k s at y c.change.new.self (times_or c.args.timeout s (vlan_or c.args.vlan y.standing)) holds i
    (c.change.ensures.number ∙ ap (λ (w : Session). w.number) (value_is k s at y v i here))
    (c.change.ensures.changes y.standing s (value_sits k s at y v i here) i.is.timed)
    (changed_times c.args.timeout c.args.vlan s y.standing ∙ i.is.timed)

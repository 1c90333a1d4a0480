use Rattle.std.proofs.Common.{refl}
use Rattle.switch_defs.specs.Switch.{Standing}
use Rattle.host_session.specs.Settles.{at_rest, beginning}
use Rattle.host_session.proofs.opening.open.Goals as goal

pub returns-clause-settles : goal.returns-clause-settles
returns-clause-settles c =
    let f = c.open-host.ensures.opens in
    let y : Standing = at_rest (beginning c.args.port c.args.own.0 c.args.peer.0 c.args.native c.args.times.now) in
    let l = c.rest-wants.ensures.left y (record { stands = f.0; vlan = refl; state = refl; end_while = refl; restricted = refl }) in
    record { sits = l.sits; sent = f.1; wants = l.wants }

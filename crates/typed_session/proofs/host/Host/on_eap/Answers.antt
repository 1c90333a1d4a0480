use Rattle.machine_defs.specs.Live.{Packet}
use Rattle.std.proofs.Common.{refl}
use Rattle.typed_session.proofs.Caring.{cares_of}
use Rattle.typed_session.proofs.Lands.{follows, received_unsaid}
use Rattle.typed_session.proofs.host.Host.on_eap.Goals as goal

pub returns-clause-follows : goal.returns-clause-follows
returns-clause-follows c = λ v s.
    let silent = received_unsaid c.args.eap.now c.args.self.now c.args.tray.now in
    follows (Packet c.args.eap.now) c.args.self.now _ c.args.tray.now _ c.receive.ensures silent v tt refl s

pub returns-clause-cares : goal.returns-clause-cares
returns-clause-cares c = cares_of (Packet c.args.eap.now) c.args.self.now _ c.receive.ensures

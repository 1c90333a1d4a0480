use Rattle.machine_defs.specs.Live.{Second}
use Rattle.std.proofs.Common.{refl}
use Rattle.typed_session.proofs.Caring.{cares_of}
use Rattle.typed_session.proofs.Lands.{follows}
use Rattle.typed_session.proofs.host.Host.on_second.Goals as goal

pub returns-clause-follows : goal.returns-clause-follows
returns-clause-follows c = λ v s.
    follows (Second c.args.gave_up) c.args.self.now _ c.args.tray.now _ c.second.ensures.host c.second.ensures.sent v tt refl s

pub returns-clause-cares : goal.returns-clause-cares
returns-clause-cares c = cares_of (Second c.args.gave_up) c.args.self.now _ c.second.ensures.host

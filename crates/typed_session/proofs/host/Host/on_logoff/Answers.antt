use Rattle.machine_defs.specs.Live.{Logoff}
use Rattle.std.proofs.Common.{refl}
use Rattle.typed_session.proofs.Caring.{cares_of}
use Rattle.typed_session.proofs.Lands.{follows}
use Rattle.typed_session.proofs.host.Host.on_logoff.Goals as goal

pub returns-clause-follows : goal.returns-clause-follows
returns-clause-follows c = λ v s.
    follows Logoff c.args.self.now _ c.args.tray.now _ c.log_off.ensures.host c.log_off.ensures.sent v tt refl s

pub returns-clause-cares : goal.returns-clause-cares
returns-clause-cares c = cares_of Logoff c.args.self.now _ c.log_off.ensures.host

use Rattle.typed_session.proofs.Caring.{leaves_of}
use Rattle.typed_session.proofs.Shapes.{sets_times}
use Rattle.typed_session.proofs.host.Host.set_times.Goals as goal

pub returns-clause-times : goal.returns-clause-times
returns-clause-times c = sets_times c.args.reauth c.args.self.now _ c.retime.ensures

pub returns-clause-leaves : goal.returns-clause-leaves
returns-clause-leaves c = leaves_of c.args.reauth c.args.self.now _ c.retime.ensures

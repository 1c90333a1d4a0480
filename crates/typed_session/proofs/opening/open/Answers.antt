use Rattle.std.proofs.Common.{refl}
use Rattle.machine_vars.specs.declared.control.Control.TheVariants.{Auto}
use Rattle.machine_defs.specs.Live.{fresh}
use Rattle.typed_session.specs.Stands.{common_of}
use Rattle.typed_session.proofs.Caring.{opened_of}
use Rattle.typed_session.proofs.Born.{opens}
use Rattle.typed_session.proofs.opening.open.Goals as goal

pub returns-clause-opens : goal.returns-clause-opens
returns-clause-opens c = opens c.args.port c.args.own.0 c.args.peer.0 c.args.t.now _ c.args.tray.now _ c.requires.times c.begin.ensures.host c.begin.ensures.sent

pub returns-clause-begins : goal.returns-clause-begins
returns-clause-begins c = opened_of (common_of (fresh c.args.port c.args.own.0 c.args.peer.0 Auto c.args.t.now)) _ refl refl c.begin.ensures.host

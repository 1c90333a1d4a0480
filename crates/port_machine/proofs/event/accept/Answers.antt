use Rattle.std.proofs.Common.{rules}
use Rattle.machine_defs.specs.Live.{Accept}
use Rattle.port_machine.proofs.Ready.{with_event}
use Rattle.port_machine.proofs.event.accept.Goals as goal

pub returns-clause-ready : goal.returns-clause-ready
returns-clause-ready c = with_event (Accept c.args.eap.now c.args.again c.args.period) c.args.v.now _ c.requires.live (c.requires.long, c.requires.period) (search rules)

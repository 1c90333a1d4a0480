use Rattle.std.proofs.Common.{rules}
use Rattle.machine_defs.specs.Live.{Packet}
use Rattle.port_machine.proofs.Ready.{with_event}
use Rattle.port_machine.proofs.event.receive.Goals as goal

pub returns-clause-ready : goal.returns-clause-ready
returns-clause-ready c = with_event (Packet c.args.eap.now) c.args.v.now _ c.requires.live tt (search rules)

use Rattle.std.proofs.Common.{rules}
use Rattle.machine_defs.specs.Live.{Challenge}
use Rattle.port_machine.proofs.Ready.{with_event}
use Rattle.port_machine.proofs.event.challenge.Goals as goal

pub returns-clause-ready : goal.returns-clause-ready
returns-clause-ready c = with_event (Challenge c.args.eap.now c.args.wait) c.args.v.now _ c.requires.live c.requires.long (search rules)

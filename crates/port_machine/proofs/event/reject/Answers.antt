use Rattle.std.proofs.Common.{rules}
use Rattle.machine_defs.specs.Live.{Reject}
use Rattle.port_machine.proofs.Ready.{with_event}
use Rattle.port_machine.proofs.event.reject.Goals as goal

pub returns-clause-ready : goal.returns-clause-ready
returns-clause-ready c = with_event (Reject c.args.eap.now) c.args.v.now _ c.requires.live c.requires.long (search rules)

use Rattle.machine_defs.specs.Live.{Second}
use Rattle.port_machine.proofs.Ready.{with_event}
use Rattle.port_machine.proofs.event.second.Goals as goal

pub returns-clause-ready : goal.returns-clause-ready
returns-clause-ready c = with_event (Second c.args.gave_up) c.args.v.now _ c.requires tt c.tick.ensures

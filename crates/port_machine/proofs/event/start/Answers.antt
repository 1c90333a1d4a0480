use Rattle.machine_defs.specs.Live.{turns, Start}
use Rattle.port_machine.proofs.event.start.Goals as goal

pub returns-clause-ready : goal.returns-clause-ready
returns-clause-ready c = turns Start c.requires tt

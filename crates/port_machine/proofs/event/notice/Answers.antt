use Rattle.machine_defs.specs.Live.{turns, Notice}
use Rattle.port_machine.proofs.event.notice.Goals as goal

pub returns-clause-ready : goal.returns-clause-ready
returns-clause-ready c = turns Notice c.requires tt

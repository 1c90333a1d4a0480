use Rattle.machine_defs.specs.Live.{turns, Logoff}
use Rattle.port_machine.proofs.event.log_off.Goals as goal

pub returns-clause-ready : goal.returns-clause-ready
returns-clause-ready c = turns Logoff c.requires tt

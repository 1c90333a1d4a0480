use Rattle.machine_defs.specs.Live.{turns, Greeting}
use Rattle.port_machine.proofs.event.greet.Goals as goal

pub returns-clause-ready : goal.returns-clause-ready
returns-clause-ready c = turns (Greeting c.args.source.0) c.requires.live c.requires.forced

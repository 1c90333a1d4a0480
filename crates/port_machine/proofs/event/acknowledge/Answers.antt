use Rattle.machine_defs.specs.Live.{taken}
use Rattle.machine_defs.proofs.Idle.{cleared_settled}
use Rattle.port_machine.proofs.event.acknowledge.Goals as goal

pub returns-clause-live : goal.returns-clause-live
returns-clause-live c = taken c.requires

pub returns-clause-settled : goal.returns-clause-settled
returns-clause-settled c = λ s. cleared_settled s

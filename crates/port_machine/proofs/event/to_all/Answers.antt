use Rattle.machine_defs.specs.Live.{addressed}
use Rattle.machine_defs.proofs.Idle.{to_all_settled}
use Rattle.port_machine.proofs.event.to_all.Goals as goal

pub returns-clause-live : goal.returns-clause-live
returns-clause-live c = addressed c.requires.live c.requires.forced

pub returns-clause-settled : goal.returns-clause-settled
returns-clause-settled c = λ s. to_all_settled s

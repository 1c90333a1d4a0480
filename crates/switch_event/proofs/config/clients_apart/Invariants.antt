use Rattle.std.proofs.Common.{◌≡◌, length}
use Rattle.switch_event.specs.Config.{clients_apart}
use Rattle.switch_event.proofs.config.clients_apart.Given as goal

abbrev pub invariant-loop-rest : goal.invariant-loop-rest
invariant-loop-rest l = clients_apart l.rest ≡ clients_apart l.clients

abbrev pub decreases-loop-rest : goal.decreases-loop-rest
decreases-loop-rest l = length l.rest

use Rattle.std.proofs.Common.{◌≡◌, length}
use Rattle.switch_event.specs.Config.{ports_apart}
use Rattle.switch_event.proofs.config.ports_apart.Given as goal

abbrev pub invariant-loop-rest : goal.invariant-loop-rest
invariant-loop-rest l = ports_apart l.rest ≡ ports_apart l.ports

abbrev pub decreases-loop-rest : goal.decreases-loop-rest
decreases-loop-rest l = length l.rest

use Rattle.std.proofs.Common.{◌≡◌, true}
use Rattle.switch_event.specs.Config.{are_ports}
use Rattle.trace_lang.proofs.tests.with_lines.Given as goal

abbrev pub invariant-loop-line : goal.invariant-loop-line
invariant-loop-line l = are_ports l.s.config.ports ≡ true

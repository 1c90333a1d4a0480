use Rattle.std.proofs.Common.{◌≡◌, ◌++◌, map, take, drop}
use Rattle.trace_defs.specs.Line.{change_vlan}
use Rattle.trace_lang.proofs.settings.give_vlan.Given as goal

abbrev pub invariant-loop-p : goal.invariant-loop-p
invariant-loop-p l = l.ports ≡ map (change_vlan l.other l.port l.vlan) (take l.p-index l.initial.ports) ++ drop l.p-index l.initial.ports

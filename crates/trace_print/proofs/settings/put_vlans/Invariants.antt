use Rattle.std.proofs.Common.{◌≡◌, ◌++◌, take}
use Rattle.std.specs.List.{flat_map}
use Rattle.trace_defs.specs.Text.{text_line, port_vlan_lines}
use Rattle.trace_print.proofs.settings.put_vlans.Given as goal

abbrev pub invariant-loop-conf : goal.invariant-loop-conf
invariant-loop-conf l = l.out.items ≡ l.fn.out.items ++ flat_map (λ conf. flat_map text_line (port_vlan_lines l.other conf)) (take l.conf-index l.ports)

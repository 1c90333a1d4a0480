use Rattle.std.proofs.Common.{◌≡◌, ◌++◌, take}
use Rattle.std.specs.List.{flat_map}
use Rattle.trace_defs.specs.Text.{text_line, port_words}
use Rattle.trace_print.proofs.settings.put_ports.Given as goal

abbrev pub invariant-loop-conf : goal.invariant-loop-conf
invariant-loop-conf l = l.out.items ≡ l.fn.out.items ++ flat_map (λ conf. text_line (port_words conf)) (take l.conf-index l.ports)

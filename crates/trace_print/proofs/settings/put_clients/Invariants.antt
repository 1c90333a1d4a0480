use Rattle.std.proofs.Common.{◌≡◌, ◌++◌, take}
use Rattle.std.specs.List.{flat_map}
use Rattle.trace_defs.specs.Text.{text_line, client_words}
use Rattle.trace_print.proofs.settings.put_clients.Given as goal

abbrev pub invariant-loop-client : goal.invariant-loop-client
invariant-loop-client l = l.out.items ≡ l.fn.out.items ++ flat_map (λ client. text_line (client_words client)) (take l.client-index l.clients)

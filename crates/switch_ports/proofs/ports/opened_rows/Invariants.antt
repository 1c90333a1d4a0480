-- The ports before this one are there.
use Rattle.std.proofs.Common.{◌≡◌, map, take}
use Rattle.switch_defs.specs.Switch.{opened_port}
use Rattle.switch_ports.proofs.ports.opened_rows.Given as goal

abbrev pub invariant-loop-conf : goal.invariant-loop-conf
invariant-loop-conf l = l.rows.items ≡ map (opened_port l.c) (take l.conf-index l.conf-items)

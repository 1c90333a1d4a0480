-- The ports before this one are there.
use Rattle.std.proofs.Common.{◌≡◌, take}
use Rattle.authenticator.proofs.settings.same_ports.Given as goal

abbrev pub invariant-loop-port : goal.invariant-loop-port
invariant-loop-port l = l.same.items ≡ take l.port-index l.port-items

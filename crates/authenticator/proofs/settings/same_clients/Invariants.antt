-- The clients before this one are there.
use Rattle.std.proofs.Common.{◌≡◌, take}
use Rattle.authenticator.proofs.settings.same_clients.Given as goal

abbrev pub invariant-loop-client : goal.invariant-loop-client
invariant-loop-client l = l.same.items ≡ take l.client-index l.client-items

use Rattle.std.proofs.Common.{◌≡◌, drop}
use Rattle.std.specs.Prelude.{filter}
use Rattle.dynauth_server.specs.Found.{first_of_them}
use Rattle.dynauth_server.specs.Sought.{names}
use Rattle.dynauth_server.proofs.SessionLemmas.{after}
use Rattle.dynauth_server.proofs.session.having.Given as goal

abbrev pub invariant-loop-n : goal.invariant-loop-n
invariant-loop-n g l = after l.found (filter (names l.sought) (drop l.n (g.R.Roll.rows l.roll))) ≡ first_of_them (filter (names l.sought) (g.R.Roll.rows l.roll))

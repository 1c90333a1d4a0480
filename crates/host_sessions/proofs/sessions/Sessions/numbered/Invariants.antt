use Rattle.std.proofs.Common.{◌≡◌, ℕ, ◌<◌, None}
use Rattle.host_sessions.specs.Finds.{place_if}
use Rattle.host_sessions.proofs.sessions.Sessions.numbered.Given as goal

abbrev pub invariant-loop-n : goal.invariant-loop-n
invariant-loop-n l = (k : ℕ) → k < l.n → place_if l.number k l.self.slots ≡ None

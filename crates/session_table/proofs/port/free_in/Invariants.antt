-- None of the places so far is free.
use Rattle.std.specs.Prelude.{◌≡◌, ◌<◌, ◌+◌, ℕ, false}
use Rattle.session_table.specs.Rows.{is_free}
use Rattle.session_table.proofs.port.free_in.Given as goal

abbrev pub invariant-loop-k : goal.invariant-loop-k
invariant-loop-k l = (j : ℕ) → j < l.k → is_free l.fn.hosts (l.fn.first + j) ≡ false

-- None of the places so far holds the address.
use Rattle.std.specs.Prelude.{◌≡◌, ◌<◌, ◌+◌, ℕ, false}
use Rattle.session_table.specs.Rows.{holds_mac}
use Rattle.session_table.proofs.port.find_in.Given as goal

abbrev pub invariant-loop-k : goal.invariant-loop-k
invariant-loop-k l = (j : ℕ) → j < l.k → holds_mac l.fn.mac.0 l.fn.hosts (l.fn.first + j) ≡ false

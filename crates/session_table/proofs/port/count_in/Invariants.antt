-- So many of the places so far are held.
use Rattle.std.specs.Prelude.{◌≡◌}
use Rattle.session_table.specs.Rows.{count_held, is_held}
use Rattle.session_table.proofs.port.count_in.Given as goal

abbrev pub invariant-loop-k : goal.invariant-loop-k
invariant-loop-k l = l.held ≡ count_held (is_held l.fn.hosts) l.fn.first l.k

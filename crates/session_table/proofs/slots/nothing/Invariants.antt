-- So many places are made, and nothing is held at them.
use Rattle.std.specs.Prelude.{◌≡◌, replicate, None}
use Rattle.session_table.proofs.slots.nothing.Given as goal

abbrev pub invariant-loop : goal.invariant-loop
invariant-loop g l = l.places.items ≡ replicate l.counter None

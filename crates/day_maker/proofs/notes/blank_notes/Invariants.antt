use Rattle.std.proofs.Common.{◌≡◌, replicate}
use Rattle.day_maker.specs.Hearing.{blank}
use Rattle.day_maker.proofs.notes.blank_notes.Given as goal

abbrev pub invariant-loop-host : goal.invariant-loop-host
invariant-loop-host l = l.notes.items ≡ replicate l._host blank

use Rattle.std.proofs.Common.{◌++◌, List, take}
use Rattle.switch_event.specs.Sent.{Sent}
use Rattle.day_maker.specs.Hearing.{Hears}
use Rattle.day_maker.proofs.notes.hear_all.Given as goal

abbrev pub invariant-loop-n : goal.invariant-loop-n
invariant-loop-n l = (sent : List Sent) → Hears l.initial.notes sent → Hears l.notes (sent ++ take l.n l.tray.items)

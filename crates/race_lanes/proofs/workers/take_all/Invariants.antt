use Rattle.std.proofs.Common.{◌≡◌, take}
use mathlib.Core.List.{IsPrefix}
use Rattle.legal_defs.specs.Runs.{numbered}
use Rattle.trace_defs.specs.Entered.{entered_all}
use Rattle.race_lanes.specs.Shares.{datas_of}
use Rattle.race_lanes.specs.Workers.{Hears}
use Rattle.race_lanes.proofs.workers.take_all.Given as goal

-- the records so far are decided
abbrev pub invariant-loop-i : goal.invariant-loop-i
invariant-loop-i g l =
    (l.worker.name ≡ l.fn.worker.name) × (l.worker.first ≡ l.fn.worker.first) × IsPrefix l.fn.worker.list l.worker.list
    × Hears l.fn.worker.first l.fn.worker.list l.worker.list (datas_of l.workers l.share (take l.i (numbered l.first (entered_all l.records)))) l.decided

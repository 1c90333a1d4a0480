use Rattle.std.proofs.Common.{◌≡◌, ◌≤◌, ◌++◌, ℕ, List, take}
use Rattle.legal_defs.specs.Runs.{numbered}
use Rattle.legal_defs.specs.Blocks.{Line, text_of, forwarded_in}
use Rattle.trace_defs.specs.Entered.{entered_all}
use Rattle.race_lanes.specs.Lines.{Walked}
use Rattle.race_lanes.proofs.order.merge.Given as goal

-- the blocks of the records so far are taken, and their forwarded frames counted
abbrev pub invariant-loop-i : goal.invariant-loop-i
invariant-loop-i l =
    (l.forwarded ≤ l.i)
    × ((first : ℕ) → (lines : List Line) × (l.text.items ≡ l.fn.text.items ++ text_of lines)
    × (l.forwarded ≡ forwarded_in lines)
    × Walked l.lanes l.workers l.outs l.jobs (take l.i (numbered first (entered_all l.records))) l.lane_next.items l.worker_next.items lines)

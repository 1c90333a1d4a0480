use Rattle.std.proofs.Common.{◌≡◌, take, Some}
use Rattle.book_lock.specs.declared.law.Base.{Base}
use Rattle.switch_book.specs.declared.open_book.Fixed.{Fixed}
use Rattle.legal_defs.specs.Runs.{numbered}
use Rattle.trace_defs.specs.Entered.{entered_all}
use Rattle.race_lanes.specs.Lanes.{Ran, Counted, IsSameLane}
use Rattle.race_lanes.proofs.lanes.LaneJob+OpenBook+A.run.Given as goal

-- the records so far are done
abbrev pub invariant-loop-i : goal.invariant-loop-i
invariant-loop-i g l =
    IsSameLane l.fn.self l.self
    × ((x : Base Fixed) → l.fn.self.knows.base ≡ Some x → Ran x.fixed.config x.opening l.lanes l.fn.self.lane (take l.i (numbered l.first (entered_all l.records))) l.self.out.failed l.self.knows.entries l.self.out.said)
    × ((x : Base Fixed) → l.fn.self.knows.base ≡ Some x → Counted x.opening l.lanes l.fn.self.lane (take l.i (numbered l.first (entered_all l.records))) l.self.out.failed l.self.out.full l.self.knows.mark l.self.knows.entries)

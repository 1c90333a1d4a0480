use Rattle.std.proofs.Common.{◌≡◌, ◌≤◌, ◌-◌, false}
use Rattle.settings_reader.specs.Reader.{IsSound}
use Rattle.settings_reader.proofs.Reached.{HasReached}
use Rattle.settings_reader.proofs.reader.Reader.take_all.Given as goal

abbrev pub invariant-octets : goal.invariant-octets
invariant-octets g l = record {
  within : l.count ≤ l.limit;
  lines : l.self.lines ≤ l.count;
  sound : IsSound l.self;
  line : l.self.line.ended ≡ false;
  reached : HasReached (g.S.Source.left l.fn.source) (g.S.Source.left l.source) l.count l.self;
  later : g.S.Source.faults l.fn.source ≤ g.S.Source.faults l.source;
}

abbrev pub decreases-octets : goal.decreases-octets
decreases-octets g l = l.limit - l.count

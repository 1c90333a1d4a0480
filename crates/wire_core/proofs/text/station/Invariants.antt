use Rattle.std.proofs.Common.{◌≡◌, ◌+◌, ◌*◌, take, length}
use Rattle.wire_defs.specs.Station.{station_text}
use Rattle.wire_core.proofs.text.station.Given as goal

abbrev pub invariant-loop-octet : goal.invariant-loop-octet
invariant-loop-octet l = record {
  so_far : l.out.items ≡ station_text (take (1 + l.octet-index) l.fn.m.0);
  long : length l.out.items ≡ 2 + 3 * l.octet-index;
}

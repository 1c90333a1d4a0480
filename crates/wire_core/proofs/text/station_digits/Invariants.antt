use Rattle.std.proofs.Common.{◌≡◌, ◌++◌, ◌≤◌, true, length}
use Rattle.std.specs.List.{list_all}
use Rattle.std.specs.Char.{is_ascii_hexdigit}
use Rattle.wire_defs.specs.Station.{without_separators}
use Rattle.wire_core.proofs.text.station_digits.Given as goal

abbrev pub invariant-loop-rest : goal.invariant-loop-rest
invariant-loop-rest l = record {
  split : without_separators l.text ≡ l.digits.items ++ without_separators l.rest;
  digits : list_all is_ascii_hexdigit l.digits.items ≡ true;
  few : length l.digits.items ≤ 12;
}

abbrev pub decreases-loop-rest : goal.decreases-loop-rest
decreases-loop-rest l = length l.rest

-- Digits that are those of an address, and digits that are not.
use Rattle.std.specs.Prelude.{ℕ, ◌==◌, ◌&&◌, IsTrue, IsFalse, List, length}
use Rattle.std.specs.List.{list_all}
use Rattle.std.specs.Char.{is_ascii_hexdigit}

abbrev pub AreStationDigits : List ℕ → Type 0
AreStationDigits digits = IsTrue (length digits == 12 && list_all is_ascii_hexdigit digits)

abbrev pub AreNoStationDigits : List ℕ → Type 0
AreNoStationDigits digits = IsFalse (length digits == 12 && list_all is_ascii_hexdigit digits)

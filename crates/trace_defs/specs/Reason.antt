-- The names of the reasons to refuse a line.
use Rattle.std.specs.Prelude.{ℕ, ◌==◌, if◌then◌else◌, List, [], codes}
use Rattle.trace_defs.specs.declared.reason.TheConstants.{LONG, OCTET, LANE, WORD, PLACE, COUNT, NUMBER, HEX, NAME, PORT, LANED, TWICE, MISSING}

abbrev pub reason_name : ℕ → List ℕ
reason_name reason =
    if reason == LONG then codes "long"
    else if reason == OCTET then codes "octet"
    else if reason == LANE then codes "lane"
    else if reason == WORD then codes "word"
    else if reason == PLACE then codes "place"
    else if reason == COUNT then codes "count"
    else if reason == NUMBER then codes "number"
    else if reason == HEX then codes "hex"
    else if reason == NAME then codes "name"
    else if reason == PORT then codes "port"
    else if reason == LANED then codes "lane"
    else if reason == TWICE then codes "twice"
    else if reason == MISSING then codes "missing"
    else []

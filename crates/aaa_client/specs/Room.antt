-- How much room the parts of a request take.
use Rattle.std.specs.Prelude.{ℕ, ◌+◌, ◌*◌}
use Rattle.aaa_defs.specs.declared.TheConstants.{MOST_HOST_EAP}

-- the text of an address has 17 octets
abbrev pub station_room : ℕ
station_room = 2 + 17

-- the longest EAP packet of a host is cut into six pieces
abbrev pub eap_room : ℕ
eap_room = MOST_HOST_EAP + 6 * 2

-- How many octets a packet has that begins with its Message-Authenticator.
use Rattle.std.specs.Prelude.{ℕ, ◌+◌}
use Rattle.radius_defs.specs.declared.limit.TheConstants.{HEADER_OCTETS}

-- a header, and an attribute of 16 octets
abbrev pub signed_header : ℕ
signed_header = HEADER_OCTETS + 18

-- A packet that is being built.
use Rattle.std.specs.Prelude.{List, ◌++◌}
use Rattle.radius_defs.specs.Packet.{Attribute, Packet}

-- a packet with more attributes at its end
abbrev pub with_all : Packet → List Attribute → Packet
with_all p more = record p { attributes = p.attributes ++ more }

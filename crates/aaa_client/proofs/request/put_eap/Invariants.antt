use Rattle.std.proofs.Common.{◌≡◌, ◌+◌, ◌*◌, ◌/◌, ◌≤◌, ◌++◌, length, map}
use Rattle.radius_defs.specs.declared.attribute.TheConstants.{EAP_MESSAGE}
use Rattle.aaa_defs.specs.Request.{attribute, pieces}
use Rattle.radius_defs.specs.Packet.{size_of}
use Rattle.aaa_client.specs.Room.{eap_room}
use Rattle.aaa_client.proofs.request.put_eap.Given as goal

-- the pieces that are put and those of the rest are those of the whole; and how many octets are left to be put
abbrev pub invariant-loop-rest : goal.invariant-loop-rest
invariant-loop-rest l =
    (record l.packet { attributes = l.packet.attributes ++ map (attribute EAP_MESSAGE) (pieces l.rest) } ≡ record l.fn.packet { attributes = l.fn.packet.attributes ++ map (attribute EAP_MESSAGE) (pieces l.fn.eap) })
    × (size_of l.packet + length l.rest + 2 * ((length l.rest + 252) / 253) ≤ size_of l.fn.packet + eap_room)

abbrev pub decreases-loop-rest : goal.decreases-loop-rest
decreases-loop-rest l = length l.rest

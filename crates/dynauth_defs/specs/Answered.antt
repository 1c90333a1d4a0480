-- What is known of a request that gets a reply of its own, and of one that is acknowledged.
use Rattle.std.specs.Prelude.{◌≡◌, ◌⊎◌, ℕ, ◌≤◌, true, List, [], ◌∷◌, length, Some}
use Rattle.radius_defs.specs.declared.code.TheConstants.{DISCONNECT_REQUEST, COA_REQUEST}
use Rattle.radius_defs.specs.Packet.{Packet, packet_text}
use Rattle.radius_defs.specs.Parsed.{packet_of}
use Rattle.kept_defs.specs.Kept.{Entry}
use Rattle.switch_event.specs.Config.{Config, Client}
use Rattle.wire_core.specs.declared.address.Addr.{Addr}
use Rattle.dynauth_defs.specs.declared.TheConstants.{MOST_REQUEST}
use Rattle.dynauth_defs.specs.declared.Action.{Action}
use Rattle.dynauth_defs.specs.Session.{Row, matching}
use Rattle.dynauth_defs.specs.Judge.{Judged, Drop, Again, Nak, Ack, client_of, action_on}

-- a NAK or an ACK
abbrev pub GetsReply : Judged → Type 0
GetsReply (Drop reason) = ⊥
GetsReply (Again reply) = ⊥
GetsReply (Nak cause) = Unit {0}
GetsReply (Ack action) = Unit {0}

-- what a reply can be written to: a request of one of the two codes, and not too long
pub record IsRequest (p : Packet) : Type 0 where
  pub code : (p.code ≡ DISCONNECT_REQUEST) ⊎ (p.code ≡ COA_REQUEST)
  pub size : length (packet_text p) ≤ MOST_REQUEST

-- a client's datagram that is such a request
pub record IsAnswered (config : Config) (kept : List (List Entry)) (from : Addr) (octets : List ℕ) : Type 0 where
  pub client : Client
  pub replies : List Entry
  pub packet : Packet
  pub known : client_of from.ip config.clients kept ≡ Some (client, replies)
  pub parsed : packet_of octets ≡ Some packet
  pub request : IsRequest packet

-- an action is what a packet does to the one session that it names, and changes it only where it is authorised
pub record IsDone (rows : List Row) (octets : List ℕ) (action : Action) : Type 0 where
  pub packet : Packet
  pub row : Row
  pub parsed : packet_of octets ≡ Some packet
  pub named : matching packet.attributes rows ≡ row ∷ []
  pub action_is : action ≡ action_on packet row.number
  pub authorised : packet.code ≡ COA_REQUEST → row.authorised ≡ true

-- What the switch sends.
use Rattle.std.specs.Prelude.{ℕ, List}
use Rattle.wire_core.specs.declared.address.Addr.{Addr}
use Rattle.switch_event.specs.declared.sent.Sent.{Sent as SentNow}
use Rattle.switch_event.specs.declared.sent.Sent.TheVariants as sent

-- a frame on a port, a packet to the server from a socket, a reply to a client
pub data Sent : Type 0 where
  ToHost : (port : ℕ) → (octets : List ℕ) → Sent
  ToServer : (socket : ℕ) → (octets : List ℕ) → Sent
  ToClient : (to : Addr) → (octets : List ℕ) → Sent

abbrev pub octets_of : Sent → List ℕ
octets_of (ToHost port octets) = octets
octets_of (ToServer socket octets) = octets
octets_of (ToClient to octets) = octets

-- the thing that a value of the code is
abbrev pub sent_of : SentNow → Sent
sent_of (sent.Frame port octets) = ToHost port octets.now
sent_of (sent.Radius socket octets) = ToServer socket octets.now
sent_of (sent.Reply to octets) = ToClient to octets.now

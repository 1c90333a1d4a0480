-- The datagrams that a server sends.
use Rattle.std.specs.Prelude.{ℕ, zero, suc, ◌+◌, ◌==◌, nat_lt, if◌then◌else◌, List, [], ◌∷◌, ◌++◌, Option, Some, None}
use Rattle.std.specs.List.{flat_map}
use Rattle.wire_core.specs.declared.address.Addr.{Addr}
use Rattle.switch_event.specs.Config.{Config}
use Rattle.switch_event.specs.Event.{Frame}
use Rattle.switch_event.specs.Sent.{Sent, ToHost, ToServer, ToClient}
use Rattle.switch_defs.specs.Turn.{turn}
use Rattle.trace_defs.specs.Line.{Record}
use Rattle.trace_defs.specs.Line.Record.{Control, Data}
use Rattle.history_defs.specs.Output.{Place, first_place, next_place}
use Rattle.outside_link.specs.Link.{Outgoing}
use Rattle.serve_defs.specs.Served.{Arrival}

-- ---- where hosts are

-- the last datagram on a port came from there
pub record Home : Type 0 where
  pub port : ℕ
  pub at : Addr

-- of the homes, the newest first, that of a port
abbrev pub home_of : (port : ℕ) → List Home → Option Addr
home_of port [] = None
home_of port (home ∷ rest) = if home.port == port then Some home.at else home_of port rest

-- the port on which a frame came
abbrev pub frame_port : Record → Option ℕ
frame_port (Data port octets) = Some port
frame_port (Control lane (Frame port octets)) = Some port
frame_port other = None

abbrev pub with_home : (port : Option ℕ) → Option Addr → List Home → List Home
with_home (Some port) (Some at) homes = record { port = port; at = at } ∷ homes
with_home port at homes = homes

-- a datagram counts already for the frames of its own event
abbrev pub homes_after : List Home → Arrival → List Home
homes_after homes a = with_home (frame_port a.entry) a.from homes

abbrev pub all_homes : List Home → List Arrival → List Home
all_homes homes [] = homes
all_homes homes (a ∷ rest) = all_homes (homes_after homes a) rest

-- ---- what goes where

-- socket 0 of the RADIUS client is channel 1, and socket k from 1 to 3 is channel k + 2
abbrev pub channel_of : (socket : ℕ) → ℕ
channel_of zero = 1
channel_of (suc k) = suc k + 2

abbrev pub to_home : Option Addr → List ℕ → List Outgoing
to_home None octets = []
to_home (Some at) octets = record { channel = 0; to = at; octets = octets } ∷ []

-- a frame goes by channel 0 to where the last datagram of its port came from, and nowhere where none
-- came; a request to the server by the channel of its socket; a reply to its client by channel 2
abbrev pub posted : Config → List Home → Sent → List Outgoing
posted c homes (ToHost port octets) = to_home (home_of port homes) octets
posted c homes (ToServer socket octets) =
    if nat_lt socket 4
    then record { channel = channel_of socket; to = c.server; octets = octets } ∷ [] else []
posted c homes (ToClient to octets) = record { channel = 2; to = to; octets = octets } ∷ []

abbrev pub all_posted : Config → List Home → List Sent → List Outgoing
all_posted c homes sent = flat_map (posted c homes) sent

-- what the turn of a record sends; that of a data frame only decides
abbrev pub sent_at : Place → Record → List Sent
sent_at at (Control lane happening) = (turn at.state happening).sent
sent_at at (Data port octets) = []

-- the datagrams that are sent for what came, from a place on
abbrev pub posted_from : Config → List Home → Place → List Arrival → List Outgoing
posted_from c homes at [] = []
posted_from c homes at (a ∷ rest) =
    all_posted c (homes_after homes a) (sent_at at a.entry)
    ++ posted_from c (homes_after homes a) (next_place at a.entry) rest

-- those for all that came
abbrev pub posted_for : Config → List Arrival → List Outgoing
posted_for c came = posted_from c [] (first_place c) came

-- Worked examples of what a server serves and sends.
use Rattle.std.proofs.Common.{◌≡◌, ℕ, true, List, [], ◌∷◌, replicate, None, Some, refl}
use Rattle.machine_vars.specs.declared.control.Control.TheVariants.{Auto}
use Rattle.wire_core.specs.declared.address.Addr.{Addr}
use Rattle.switch_event.specs.Config.{Config, empty}
use Rattle.switch_event.specs.Event.{Radius, Dynamic, Second, Link}
use Rattle.switch_event.specs.Sent.{ToHost, ToServer, ToClient}
use Rattle.trace_defs.specs.Line.{Record}
use Rattle.trace_defs.specs.Line.Record.{Data}
use Rattle.outside_link.specs.Link.{Incoming}
use Rattle.serve_defs.specs.Log.{cut}
use Rattle.serve_defs.specs.Served.{Arrival, event, served, arrivals_of, outer_after, opening, all_steps}
use Rattle.serve_defs.specs.Posted.{all_homes, home_of, all_posted}

abbrev server : Addr
server = record { ip = 192 ∷ 0 ∷ 2 ∷ 20 ∷ []; port = 1812 }

abbrev bridge : Addr
bridge = record { ip = 127 ∷ 0 ∷ 0 ∷ 1 ∷ []; port = 6000 }

abbrev stranger : Addr
stranger = record { ip = 192 ∷ 0 ∷ 2 ∷ 20 ∷ []; port = 1813 }

-- port 1 alone is configured
abbrev settings : Config
settings = record empty {
  ports = record { port = 1; native = 10; control = Auto; restricted = 0; guest = 0 } ∷ [];
  server = server;
  clock = 1000;
}

abbrev mail : Addr → List ℕ → Incoming
mail from octets = record { from = from; octets = octets }

abbrev none : List (List Incoming)
none = replicate 6 []

abbrev up : Record
up = event (Link 1 true)

-- the clock answers 1000 as the run opens, and then 1000, 1002 and 1002: seconds pass in the second and the third turn
the_clock_goes_on : served settings (1000 ∷ 1002 ∷ []) none 3 ≡ up ∷ event Second ∷ event Second ∷ []
the_clock_goes_on = refl

-- one second passes at each time that the clock is asked, however far it has gone
a_second_at_a_time : served settings (5000 ∷ []) none 2 ≡ up ∷ event Second ∷ event Second ∷ []
a_second_at_a_time = refl

-- a datagram of a port alone is a data frame of no octets; one of a port that is not configured is skipped
a_port_alone : arrivals_of settings 0 (mail bridge (1 ∷ [])) ≡ record { entry = Data 1 []; from = Some bridge } ∷ []
a_port_alone = refl

another_port : arrivals_of settings 0 (mail bridge (2 ∷ 7 ∷ [])) ≡ []
another_port = refl

-- socket 0 is channel 1, and sockets 1 to 3 are channels 3 to 5; the server alone answers, and not with nothing
socket_0 : arrivals_of settings 1 (mail server (7 ∷ [])) ≡ record { entry = event (Radius 0 (7 ∷ [])); from = None } ∷ []
socket_0 = refl

socket_3 : arrivals_of settings 5 (mail server (7 ∷ [])) ≡ record { entry = event (Radius 3 (7 ∷ [])); from = None } ∷ []
socket_3 = refl

a_stranger : arrivals_of settings 1 (mail stranger (7 ∷ [])) ≡ []
a_stranger = refl

an_empty_answer : arrivals_of settings 3 (mail server []) ≡ []
an_empty_answer = refl

-- anybody may ask on channel 2
anybody_asks : arrivals_of settings 2 (mail stranger (7 ∷ [])) ≡ record { entry = event (Dynamic stranger (7 ∷ [])); from = None } ∷ []
anybody_asks = refl

-- FF ends the run at once: the other channels are not asked, and what waits there goes on waiting
abbrev waits : List (List Incoming)
waits = (mail bridge (255 ∷ []) ∷ []) ∷ (mail server (7 ∷ []) ∷ []) ∷ [] ∷ [] ∷ [] ∷ [] ∷ []

the_end : served settings (1000 ∷ []) waits 2 ≡ up ∷ []
the_end = refl

the_end_leaves_the_others : (outer_after settings (opening settings (1000 ∷ []) waits) (all_steps settings.ports 2)).waits ≡ [] ∷ (mail server (7 ∷ []) ∷ []) ∷ [] ∷ [] ∷ [] ∷ [] ∷ []
the_end_leaves_the_others = refl

-- on another channel it is a datagram as any other
the_end_elsewhere : arrivals_of settings 2 (mail bridge (255 ∷ [])) ≡ record { entry = event (Dynamic bridge (255 ∷ [])); from = None } ∷ []
the_end_elsewhere = refl

-- a frame goes to where the last datagram of its port came from, and nowhere before one came; a request to the server by the channel of
-- its socket; a reply to its client
abbrev came : List Arrival
came = record { entry = Data 1 []; from = Some stranger } ∷ record { entry = event Second; from = None } ∷ record { entry = Data 1 []; from = Some bridge } ∷ []

the_last_home : home_of 1 (all_homes [] came) ≡ Some bridge
the_last_home = refl

what_goes_where : all_posted settings (all_homes [] came) (ToHost 1 (5 ∷ []) ∷ ToHost 2 (6 ∷ []) ∷ ToServer 1 (7 ∷ []) ∷ ToClient stranger (8 ∷ []) ∷ [])
    ≡ record { channel = 0; to = bridge; octets = 5 ∷ [] } ∷ record { channel = 3; to = server; octets = 7 ∷ [] } ∷ record { channel = 2; to = stranger; octets = 8 ∷ [] } ∷ []
what_goes_where = refl

-- with room for one control record, the second ends what is served
room_for_one : cut 1 (up ∷ Data 1 [] ∷ event Second ∷ Data 1 [] ∷ []) ≡ up ∷ Data 1 [] ∷ []
room_for_one = refl

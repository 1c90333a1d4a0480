-- What a server makes of the moments of a clock and of the datagrams that wait on six channels:
-- channel 0 has frames, channel 2 dynamic requests, and the others the sockets of the RADIUS client.
use Rattle.std.specs.Prelude.{ℕ, zero, suc, ◌+◌, ◌-◌, ◌==◌, ◌&&◌, nat_lt, nat_le, if◌then◌else◌, Bool, true, List, [], ◌∷◌, ◌++◌, length, map, Option, Some, None}
use Rattle.std.specs.Str.{bytes_eq}
use Rattle.wire_defs.specs.Ethernet.{is_control}
use Rattle.wire_core.specs.declared.address.Addr.{Addr}
use Rattle.switch_event.specs.declared.config.PortConf.{PortConf}
use Rattle.switch_event.specs.Config.{Config, has_port}
use Rattle.switch_event.specs.Event.{Happening, Frame, Radius, Dynamic, Second, Link}
use Rattle.trace_defs.specs.Line.{Record}
use Rattle.trace_defs.specs.Line.Record.{Control, Data}
use Rattle.outside_link.specs.Link.{Incoming, first_waiting, without_first}
use Rattle.outside_link.specs.Clock.{moment_of, moments_after}
use Rattle.serve_defs.specs.declared.TheConstants.{MOST_TAKEN, MOST_FRAME, END_OF_RUN}

-- a record, and for a frame the sender of its datagram
pub record Arrival : Type 0 where
  pub entry : Record
  pub from : Option Addr

abbrev pub entries_of : List Arrival → List Record
entries_of came = map (λ a. a.entry) came

-- ---- the record of a datagram

-- a server has one lane
abbrev pub event : Happening → Record
event happening = Control 1 happening

-- a frame of EAPOL is an event, and any other a data frame (IEEE Std 802.1X-2004, 7.2)
abbrev pub frame_entry : (port : ℕ) → List ℕ → Record
frame_entry port frame = if is_control frame then event (Frame port frame) else Data port frame

-- on the channel of the frames the port is the first octet, and the rest is the frame
abbrev pub frame_arrival : Config → Addr → List ℕ → List Arrival
frame_arrival c from [] = []
frame_arrival c from (port ∷ frame) =
    if nat_le (length frame) MOST_FRAME && has_port port c
    then record { entry = frame_entry port frame; from = Some from } ∷ [] else []

abbrev pub is_from : Addr → Addr → Bool
is_from a b = bytes_eq a.ip b.ip && (a.port == b.port)

-- an answer comes from the RADIUS server
abbrev pub answer_arrival : Config → (socket : ℕ) → Incoming → List Arrival
answer_arrival c socket d =
    if nat_lt 0 (length d.octets) && is_from d.from c.server
    then record { entry = event (Radius socket d.octets); from = None } ∷ [] else []

-- a dynamic request may come from anybody
abbrev pub request_arrival : Incoming → List Arrival
request_arrival d =
    if nat_lt 0 (length d.octets)
    then record { entry = event (Dynamic d.from d.octets); from = None } ∷ [] else []

abbrev pub arrival_on : Config → (channel : ℕ) → Incoming → List Arrival
arrival_on c channel d =
    if channel == 0 then frame_arrival c d.from d.octets
    else if channel == 1 then answer_arrival c 0 d
    else if channel == 2 then request_arrival d
    else answer_arrival c (channel - 2) d

-- the record of a datagram; none where it is skipped
abbrev pub arrivals_of : Config → (channel : ℕ) → Incoming → List Arrival
arrivals_of c channel d =
    if nat_lt MOST_TAKEN (length d.octets) then [] else arrival_on c channel d

abbrev pub is_end : List ℕ → Bool
is_end octets = bytes_eq octets (END_OF_RUN ∷ [])

-- a datagram that ends the run
abbrev pub ends_run : (channel : ℕ) → List ℕ → Bool
ends_run channel octets = (channel == 0) && is_end octets

-- ---- steps

-- what the outside still has: the last second of the run, the moments of the clock, and the
-- datagrams that wait on each channel
pub record Outer : Type 0 where
  pub clock : ℕ
  pub moments : List ℕ
  pub waits : List (List Incoming)

-- what a run does, one after the other: the link of a port comes up, the clock is asked, a channel is
-- asked
pub data Step : Type 0 where
  Up : (port : ℕ) → Step
  Time : Step
  Ask : (channel : ℕ) → Step

-- a turn asks the clock, and then each channel
abbrev pub turn_steps : List Step
turn_steps = Time ∷ Ask 0 ∷ Ask 1 ∷ Ask 2 ∷ Ask 3 ∷ Ask 4 ∷ Ask 5 ∷ []

abbrev pub turns_steps : ℕ → List Step
turns_steps zero = []
turns_steps (suc n) = turn_steps ++ turns_steps n

-- the links of the ports, in the order of the settings, and then so many turns
abbrev pub all_steps : List PortConf → (turns : ℕ) → List Step
all_steps ports turns = map (λ p. Up p.port) ports ++ turns_steps turns

-- the run goes on with what came, or ends
pub data Answered : Type 0 where
  Goes : (after : Outer) → (came : List Arrival) → Answered
  Ends : (after : Outer) → Answered

abbrev pub by_datagram : Config → Outer → (channel : ℕ) → Option Incoming → Answered
by_datagram c o channel None = Goes o []
by_datagram c o channel (Some d) =
    let after : Outer = record o { waits = without_first channel o.waits } in
    if ends_run channel d.octets then Ends after else Goes after (arrivals_of c channel d)

-- the clock has gone on: a second passes, one at each time that it is asked
abbrev pub by_moment : Outer → Answered
by_moment o =
    let after : Outer = record o { moments = moments_after o.moments } in
    if nat_lt o.clock (moment_of o.moments)
    then Goes (record after { clock = o.clock + 1 }) (record { entry = event Second; from = None } ∷ [])
    else Goes after []

abbrev pub answer : Config → Outer → Step → Answered
answer c o (Up port) = Goes o (record { entry = event (Link port true); from = None } ∷ [])
answer c o Time = by_moment o
answer c o (Ask channel) = by_datagram c o channel (first_waiting channel o.waits)

abbrev pub came_then : Answered → (Outer → List Arrival) → List Arrival
came_then (Goes after came) more = came ++ more after
came_then (Ends after) more = []

-- what comes in these steps
abbrev pub comes : Config → Outer → List Step → List Arrival
comes c o [] = []
comes c o (step ∷ steps) = came_then (answer c o step) (λ after. comes c after steps)

abbrev pub outer_then : Answered → (Outer → Outer) → Outer
outer_then (Goes after came) more = more after
outer_then (Ends after) more = after

-- what the outside has after these steps
abbrev pub outer_after : Config → Outer → List Step → Outer
outer_after c o [] = o
outer_after c o (step ∷ steps) = outer_then (answer c o step) (λ after. outer_after c after steps)

-- the clock of the settings is the first moment, which was asked before
abbrev pub opening : Config → (moments : List ℕ) → (waits : List (List Incoming)) → Outer
opening c moments waits = record { clock = c.clock; moments = moments; waits = waits }

-- the records that are served in so many turns
abbrev pub served : Config → (moments : List ℕ) → (waits : List (List Incoming)) → (turns : ℕ) →
    List Record
served c moments waits turns =
    entries_of (comes c (opening c moments waits) (all_steps c.ports turns))

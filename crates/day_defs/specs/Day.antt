-- A day: what is done in its course, and the records that this makes. Each answer of a host or of the server is one to what the switch
-- has sent by then.
use Rattle.std.specs.Prelude.{ℕ, List, [], ◌∷◌, ◌++◌, map, replicate, true, Option, Some, None, option_map}
use Rattle.std.specs.List.{flat_map, range_with_len}
use Rattle.switch_event.specs.Sent.{Sent}
use Rattle.switch_event.specs.Event.{Happening, Frame, Radius, Second as ASecond, Link}
use Rattle.trace_defs.specs.Line.{Record}
use Rattle.trace_defs.specs.Line.Record.{Control, Data}
use Rattle.switch_defs.specs.Switch.{State, opening}
use Rattle.switch_defs.specs.Turn.{turn}
use Rattle.day_defs.specs.declared.TheConstants.{HOURS, FRAMES_AN_HOUR, SECONDS_A_FRAME}
use Rattle.day_defs.specs.Office.{settings, ports, hosts, port_of_host, address_of_host, start_frame, response_frame, data_frame}
use Rattle.day_defs.specs.declared.Question.{Question}
use Rattle.day_defs.specs.declared.Phase.{Phase}
use Rattle.day_defs.specs.declared.Phase.TheVariants.{Arrival, Hour, Renewal}
use Rattle.day_defs.specs.Server.{identity_asked, server_asked, last_about, accept_octets}

-- one thing that is done: the link of a port comes up; a host starts; it gives its identity; the server answers for it; a second goes
-- by; a host sends a frame
pub data Act : Type 0 where
  LinkUp : (port : ℕ) → Act
  Start : (host : ℕ) → Act
  Respond : (host : ℕ) → Act
  Answer : (host : ℕ) → Act
  Second : Act
  Send : (host : ℕ) → Act

-- ---- what is done

-- the links of all ports come up
unfoldable pub links : List Act
links = map LinkUp ports

-- a host logs in; and again, where it was asked again, and sends a frame
abbrev pub log_in : ℕ → List Act
log_in h = Start h ∷ Respond h ∷ Answer h ∷ []

abbrev pub renew : ℕ → List Act
renew h = Respond h ∷ Answer h ∷ Send h ∷ []

-- links come up and hosts log in, one after another
unfoldable pub arrival : ℕ → List Act
arrival n = links ++ flat_map log_in (hosts n)

-- some seconds go by
unfoldable pub seconds : List Act
seconds = replicate SECONDS_A_FRAME Second

-- then each host sends a frame
abbrev pub seconds_and_frames : ℕ → List Act
seconds_and_frames n = seconds ++ map Send (hosts n)

-- an hour goes by
unfoldable pub hour : ℕ → List Act
hour n = flat_map (λ part. seconds_and_frames n) (range_with_len 0 FRAMES_AN_HOUR)

-- the hosts log in again, one after another
unfoldable pub renewal : ℕ → List Act
renewal n = flat_map renew (hosts n)

-- what is done in a phase
abbrev pub acts_of : ℕ → Phase → List Act
acts_of n Arrival = arrival n
acts_of n Hour = hour n
acts_of n Renewal = renewal n

-- the phases of a day: each hour, and then everybody logs in again
abbrev pub phases : List Phase
phases = Arrival ∷ flat_map (λ which. Hour ∷ Renewal ∷ []) (range_with_len 0 HOURS)

-- ---- what is recorded

-- how far the day has come: the state of the switch, and all that it has sent, in order
pub record Day : Type 0 where
  pub state : State
  pub sent : List Sent

abbrev pub dawn : Day
dawn = record { state = opening settings; sent = [] }

-- an event on the first lane
abbrev pub control : Happening → Record
control event = Control 1 event

-- a frame of a host
abbrev pub frame_of : ℕ → List ℕ → Record
frame_of h octets = control (Frame (port_of_host h) octets)

-- the server answers by the socket that it was asked by
abbrev pub answer_of : ℕ → Question → Record
answer_of h q = control (Radius q.socket (accept_octets h q))

-- the record of what is done. A host that was not asked does not respond, and a server that was not asked does not answer
abbrev pub record_of : List Sent → Act → Option Record
record_of sent (LinkUp port) = Some (control (Link port true))
record_of sent (Start h) = Some (frame_of h (start_frame h))
record_of sent (Respond h) = option_map (λ id. frame_of h (response_frame h id)) (last_about identity_asked (address_of_host h) sent)
record_of sent (Answer h) = option_map (answer_of h) (last_about server_asked (address_of_host h) sent)
record_of sent Second = Some (control ASecond)
record_of sent (Send h) = Some (Data (port_of_host h) (data_frame h))

-- ---- how the day goes on

abbrev pub after_record : Day → Record → Day
after_record d (Control lane event) = record { state = (turn d.state event).state; sent = d.sent ++ (turn d.state event).sent }
after_record d (Data port octets) = d

abbrev pub after_that : Day → Option Record → Day
after_that d None = d
after_that d (Some r) = after_record d r

abbrev pub after_act : Day → Act → Day
after_act d a = after_that d (record_of d.sent a)

abbrev pub after_acts : Day → List Act → Day
after_acts d [] = d
after_acts d (a ∷ rest) = after_acts (after_act d a) rest

abbrev pub with_record : Option Record → List Record → List Record
with_record None records = records
with_record (Some r) records = r ∷ records

-- the records of what is done from here on
abbrev pub recorded : Day → List Act → List Record
recorded d [] = []
recorded d (a ∷ rest) = with_record (record_of d.sent a) (recorded (after_act d a) rest)

-- and of some phases with so many hosts
abbrev pub recorded_phases : (hosts : ℕ) → Day → List Phase → List (List Record)
recorded_phases n d [] = []
recorded_phases n d (which ∷ rest) = recorded d (acts_of n which) ∷ recorded_phases n (after_acts d (acts_of n which)) rest

-- the records of a day with so many hosts, in phases
unfoldable pub recorded_day : (hosts : ℕ) → List (List Record)
recorded_day n = recorded_phases n dawn phases

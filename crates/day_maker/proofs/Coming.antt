-- Each record of the day is one that may come.
use Rattle.std.proofs.Common.{◌≡◌, ℕ, zero, suc, map, replicate, ◌+◌, ◌<◌, ◌≤◌, true, List, [], ◌∷◌, ◌++◌, refl, subst, arith, inl, inr, ltb-true}
use Rattle.std.specs.Prelude.{Option, Some, None, nat_lt, option_map, IfSome}
use Rattle.std.specs.Option.{option_or}
use Rattle.std.specs.List.{AllByRecursion, flat_map, range_with_len}
use Rattle.std.specs.Str.{bytes_eq}
use Rattle.std.proofs.lemmas.Bool.{cases_Bool}
use Rattle.radius_defs.specs.Packet.{Packet}
use Rattle.radius_defs.specs.Parsed.{packet_of}
use Rattle.switch_event.specs.Sent.{Sent, ToHost, ToServer, ToClient}
use Rattle.switch_event.specs.Config.{has_port}
use Rattle.authenticator.specs.Meaning.{IsEvent}
use Rattle.trace_defs.specs.Line.{Record}
use Rattle.trace_defs.specs.Line.Record.{Control, Data}
use Rattle.day_defs.specs.declared.Question.{Question}
use Rattle.day_defs.specs.declared.Phase.{Phase}
use Rattle.day_defs.specs.declared.Phase.TheVariants.{Arrival, Hour, Renewal}
use Rattle.day_defs.specs.declared.TheConstants.{SOCKETS}
use Rattle.day_defs.specs.Office.{settings, hosts, port_of_host, address_of_host, response_frame}
use Rattle.day_defs.specs.Day.{Act, LinkUp, Start, Respond, Answer, Second, Send, Day, frame_of, answer_of, record_of, after_act, with_record, recorded, links, log_in, renew, arrival, seconds, seconds_and_frames, hour, renewal, acts_of}
use Rattle.day_defs.proofs.Frames.{port-there, start-control, response-control}
use Rattle.day_defs.specs.Server.{identity_asked, host_named, question_in, question_of, server_asked, for_host, last_about}

-- ---- a question came from a socket that the switch has

named_socket : (address : List ℕ) (socket : ℕ) (p : Packet) (named : Option (List ℕ)) (q : Question) → socket < SOCKETS
    → for_host address (option_map (λ a. (a, question_of socket p)) named) ≡ Some q → q.socket < SOCKETS
named_socket address socket p None q small is = cc
named_socket address socket p (Some other) q small is =
    elim (cases_Bool (bytes_eq other address)) [
      | inl same ↦
          let e : question_of socket p ≡ q = let h = rw same at is in cc in
          subst (λ (k : Question). k.socket < SOCKETS) e small
      | inr differ ↦ let h = rw differ at is in cc
    ]

packet_socket : (address : List ℕ) (socket : ℕ) (o : Option Packet) (q : Question) → socket < SOCKETS → for_host address (question_in socket o) ≡ Some q → q.socket < SOCKETS
packet_socket address socket None q small is = cc
packet_socket address socket (Some p) q small is = named_socket address socket p (host_named p) q small is

asked_socket : (address : List ℕ) (s : Sent) (q : Question) → for_host address (server_asked s) ≡ Some q → q.socket < SOCKETS
asked_socket address (ToHost port octets) q is = cc
asked_socket address (ToServer socket octets) q is =
    elim (cases_Bool (nat_lt socket SOCKETS)) [
      | inl small ↦
          let h = rw small at is in
          packet_socket address socket (packet_of octets) q (ltb-true socket SOCKETS small) h
      | inr large ↦ let h = rw large at is in cc
    ]
asked_socket address (ToClient to octets) q is = cc

or_socket : (a b : Option Question) (q : Question) → option_or a b ≡ Some q → (a ≡ Some q → q.socket < SOCKETS) → (b ≡ Some q → q.socket < SOCKETS) → q.socket < SOCKETS
or_socket None b q is first second = second is
or_socket (Some x) b q is first second = first is

pub last-socket : (address : List ℕ) (sent : List Sent) (q : Question) → last_about server_asked address sent ≡ Some q → q.socket < SOCKETS
last-socket address [] q is = cc
last-socket address (s ∷ rest) q is =
    or_socket (last_about server_asked address rest) (for_host address (server_asked s)) q is (last-socket address rest q) (asked_socket address s q)

-- ---- records that may come

-- what is done is of a port that there is, and of a host of those that can be named
abbrev pub IsAct : Act → Type 0
IsAct (LinkUp port) = (1 ≤ port) × (port ≤ 60)
IsAct (Start h) = h < 256
IsAct (Respond h) = h < 256
IsAct (Answer h) = h < 256
IsAct Second = Unit {0}
IsAct (Send h) = h < 256

-- a control record is an event that may come
abbrev pub Comes : Record → Type 0
Comes (Control lane event) = IsEvent settings event
Comes (Data port octets) = Unit {0}

host_port : (h : ℕ) → has_port (port_of_host h) settings ≡ true
host_port h = port-there (port_of_host h) (omega arith) (omega arith)

response_comes : (h : ℕ) (o : Option ℕ) → h < 256 → IfSome (option_map (λ id. frame_of h (response_frame h id)) o) Comes
response_comes h None small = tt
response_comes h (Some id) small = (host_port h, response-control h id small)

answer_comes : (h : ℕ) (sent : List Sent) (o : Option Question) → last_about server_asked (address_of_host h) sent ≡ o → IfSome (option_map (answer_of h) o) Comes
answer_comes h sent None is = tt
answer_comes h sent (Some q) is = let small = last-socket (address_of_host h) sent q is in omega arith

record_comes : (sent : List Sent) (a : Act) → IsAct a → IfSome (record_of sent a) Comes
record_comes sent (LinkUp port) is = port-there port is.0 is.1
record_comes sent (Start h) is = (host_port h, start-control h)
record_comes sent (Respond h) is = response_comes h (last_about identity_asked (address_of_host h) sent) is
record_comes sent (Answer h) is = answer_comes h sent (last_about server_asked (address_of_host h) sent) refl
record_comes sent Second is = tt
record_comes sent (Send h) is = tt

with_comes : (o : Option Record) (rest : List Record) → IfSome o Comes → AllByRecursion Comes rest → AllByRecursion Comes (with_record o rest)
with_comes None rest first more = more
with_comes (Some r) rest first more = (first, more)

pub records-come : (d : Day) (acts : List Act) → AllByRecursion IsAct acts → AllByRecursion Comes (recorded d acts)
records-come d [] are = tt
records-come d (a ∷ rest) are = with_comes (record_of d.sent a) (recorded (after_act d a) rest) (record_comes d.sent a are.0) (records-come (after_act d a) rest are.1)

-- ---- the acts of the phases

both : (first next : List Act) → AllByRecursion IsAct first → AllByRecursion IsAct next → AllByRecursion IsAct (first ++ next)
both [] next f n = n
both (a ∷ first) next f n = (f.0, both first next f.1 n)

each : (f : ℕ → List Act) (first n limit : ℕ) → first + n ≤ limit → ((h : ℕ) → h < limit → AllByRecursion IsAct (f h)) → AllByRecursion IsAct (flat_map f (range_with_len first n))
each f first zero limit few are = tt
each f first (suc n) limit few are =
    both (f first) (flat_map f (range_with_len (first + 1) n)) (are first (omega arith)) (each f (first + 1) n limit (omega arith) are)

each_one : (f : ℕ → Act) (first n limit : ℕ) → first + n ≤ limit → ((h : ℕ) → first ≤ h → h < limit → IsAct (f h)) → AllByRecursion IsAct (map f (range_with_len first n))
each_one f first zero limit few are = tt
each_one f first (suc n) limit few are =
    (are first (omega arith) (omega arith), each_one f (first + 1) n limit (omega arith) (λ h least most. are h (omega arith) most))

repeated : (n : ℕ) → AllByRecursion IsAct (replicate n Second)
repeated zero = tt
repeated (suc n) = (tt, repeated n)

links_are : AllByRecursion IsAct links
unfolding links
links_are = each_one LinkUp 1 60 61 (omega arith) (λ h least most. (least, omega arith))

arrival-acts : (n : ℕ) → n < 256 → AllByRecursion IsAct (arrival n)
unfolding arrival
arrival-acts n small = both links (flat_map log_in (hosts n)) links_are (each log_in 1 n 256 (omega arith) (λ h s. (s, (s, (s, tt)))))

seconds_are : AllByRecursion IsAct seconds
unfolding seconds
seconds_are = repeated 360

part_are : (n : ℕ) → n < 256 → AllByRecursion IsAct (seconds_and_frames n)
part_are n small = both seconds (map Send (hosts n)) seconds_are (each_one Send 1 n 256 (omega arith) (λ h least most. most))

hour-acts : (n : ℕ) → n < 256 → AllByRecursion IsAct (hour n)
unfolding hour
hour-acts n small = each (λ part. seconds_and_frames n) 0 10 10 (omega arith) (λ part s. part_are n small)

renewal-acts : (n : ℕ) → n < 256 → AllByRecursion IsAct (renewal n)
unfolding renewal
renewal-acts n small = each renew 1 n 256 (omega arith) (λ h s. (s, (s, (s, tt))))

pub phase-acts : (n : ℕ) (which : Phase) → n < 256 → AllByRecursion IsAct (acts_of n which)
phase-acts n Arrival small = arrival-acts n small
phase-acts n Hour small = hour-acts n small
phase-acts n Renewal small = renewal-acts n small

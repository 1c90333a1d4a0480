-- One turn: what an event makes of a state, its outcome, and what is sent.
use Rattle.std.specs.Prelude.{ℕ, ◌+◌, ◌-◌, ◌==◌, ◌||◌, not, nat_le, Bool, true, false, if◌then◌else◌, List, [], ◌∷◌, ◌++◌, length, drop, map, filter, Option, None, Some, Result, Ok, Err}
use Rattle.std.specs.Str.{bytes_eq}
use Rattle.wire_defs.specs.declared.Kind.{Kind}
use Rattle.wire_defs.specs.declared.Kind.TheVariants.{EapPacket, Start, Logoff}
use Rattle.wire_defs.specs.declared.EapolDrop.{EapolDrop}
use Rattle.wire_defs.specs.declared.EapolDrop.TheVariants.{Short as ShortEapol, Key, UnknownType, BodyShort}
use Rattle.wire_defs.specs.declared.EapDrop.{EapDrop}
use Rattle.wire_defs.specs.declared.EapDrop.TheVariants.{Short as ShortEap, BadCode, BadLength}
use Rattle.wire_defs.specs.Ethernet.{pae_group, destination, source, is_group}
use Rattle.wire_defs.specs.Eapol.{Eapol, eapol_of}
use Rattle.wire_defs.specs.Eap.{Eap, eap_of, identity_request}
use Rattle.machine_vars.specs.declared.vars.Vars.{Vars}
use Rattle.machine_vars.specs.declared.control.Control.{Control}
use Rattle.machine_vars.specs.declared.control.Control.TheVariants.{Auto}
use Rattle.machine_defs.specs.BackendTable.{is_auto}
use Rattle.machine_defs.specs.PaeTable.{same_control}
use Rattle.machine_defs.specs.Live.{fresh, set, to_all}
use Rattle.machine_defs.specs.Live as live
use Rattle.settle_defs.specs.Settle.{settled}
use Rattle.aaa_defs.specs.declared.Aged.{Aged}
use Rattle.aaa_defs.specs.declared.Aged.TheVariants.{Quiet, Resend, GaveUp}
use Rattle.aaa_defs.specs.Waits.{Pending, pending_of}
use Rattle.aaa_defs.specs.Age.{aged, after_aging}
use Rattle.switch_event.specs.declared.drop.FrameDrop.{FrameDrop}
use Rattle.switch_event.specs.declared.drop.FrameDrop.TheVariants.{Elsewhere, GroupSource, Down, EapolShort, Key as IsKey, EapolType, BodyShort as EapolBodyShort, EapShort, EapCode, EapLength, NotResponse, Forced, NoSession, PortFull}
use Rattle.switch_event.specs.declared.event.Outcome.TheVariants.{Done, FrameDropped, AnswerDropped, Acked, Naked, Again, RequestDropped}
use Rattle.wire_core.specs.declared.address.Addr.{Addr}
use Rattle.switch_event.specs.Event.{Happening, Frame, Radius, Dynamic, Second, Link, SetControl}
use Rattle.dynauth_defs.specs.Judge.{Judged, Drop, Again as RepeatOf, Nak, Ack}
use Rattle.switch_event.specs.Sent.{Sent, ToHost, ToClient}
use Rattle.switch_event.specs.Frames.{eap_frame, frames}
use Rattle.switch_defs.specs.Switch.{Port, Host, Standing, Session, State, Did, Turned, turned, and_then, only, own_address, is_port, port_of, session_at, on_port, most_hosts}
use Rattle.switch_defs.specs.Session.{Cause, AnAnswer, ALogoff, Another, arm, no_guests, close, forget, to_server, settle_session}
use Rattle.switch_defs.specs.Answer.{Answered, Refused, Told, stands, answered_on}
use Rattle.switch_defs.specs.Dynamic.{say_failure, act, reply, judged_on}

-- ---- frames: why one is dropped, or what it does

pub data FrameCase : Type 0 where
  Dropped : (why : FrameDrop) → FrameCase
  Forces : (port : Port) → (from : List ℕ) → FrameCase
  Opens : (port : Port) → (from : List ℕ) → FrameCase
  Turns : (session : Session) → (event : live.Event) → FrameCase

abbrev pub is_start : live.Event → Bool
is_start live.Start = true
is_start _ = false

abbrev pub is_logoff : live.Event → Bool
is_logoff live.Logoff = true
is_logoff _ = false

-- the sessions of a port
abbrev pub on_port_of : ℕ → State → List Session
on_port_of n s = filter (on_port n) s.sessions

-- a port has as many sessions as it may have
abbrev pub is_full : ℕ → State → Bool
is_full n s = nat_le most_hosts (length (on_port_of n s))

-- 13. a Logoff without a session, 14. a port that has all its sessions
abbrev pub known_case : State → Port → List ℕ → live.Event → Option Session → FrameCase
known_case s q from e (Some y) = Turns y e
known_case s q from e None =
    if is_logoff e then Dropped NoSession
    else if is_full q.conf.port s then Dropped PortFull
    else Opens q from

-- 12. a forced port answers a Start alone
abbrev pub control_case : State → Port → List ℕ → live.Event → FrameCase
control_case s q from e =
    if is_auto q.control then known_case s q from e (session_at q.conf.port from s)
    else if is_start e then Forces q from
    else Dropped Forced

-- 8. to 10. the octets are no EAP packet (RFC 3748, section 4), 11. it is no Response
abbrev pub eap_reason : EapDrop → FrameDrop
eap_reason ShortEap = EapShort
eap_reason BadCode = EapCode
eap_reason BadLength = EapLength

abbrev pub eap_case : State → Port → List ℕ → Result Eap EapDrop → FrameCase
eap_case s q from (Err drop) = Dropped (eap_reason drop)
eap_case s q from (Ok eap) = if eap.code == 2 then control_case s q from (live.Packet eap.whole) else Dropped NotResponse

-- 4. to 7. the octets are no EAPOL packet that is heard (IEEE Std 802.1X-2004, 7.5)
abbrev pub eapol_reason : EapolDrop → FrameDrop
eapol_reason ShortEapol = EapolShort
eapol_reason Key = IsKey
eapol_reason UnknownType = EapolType
eapol_reason BodyShort = EapolBodyShort

abbrev pub kind_case : State → Port → List ℕ → (body : List ℕ) → Kind → FrameCase
kind_case s q from body EapPacket = eap_case s q from (eap_of body)
kind_case s q from body Start = control_case s q from live.Start
kind_case s q from body Logoff = control_case s q from live.Logoff

abbrev pub eapol_case : State → Port → List ℕ → Result Eapol EapolDrop → FrameCase
eapol_case s q from (Err drop) = Dropped (eapol_reason drop)
eapol_case s q from (Ok eapol) = kind_case s q from eapol.body eapol.kind

-- 1. it is for another address (IEEE Std 802.1X-2004, 7.8), 2. its source is a group, 3. its port is down; one that is not configured
-- is down
abbrev pub is_elsewhere : State → ℕ → List ℕ → Bool
is_elsewhere s n octets = not (bytes_eq (destination octets) pae_group || bytes_eq (destination octets) (own_address s n))

abbrev pub frame_case : State → List ℕ → Option Port → FrameCase
frame_case s octets None = Dropped Down
frame_case s octets (Some q) =
    if is_elsewhere s q.conf.port octets then Dropped Elsewhere
    else if is_group (source octets) then Dropped GroupSource
    else if not q.link then Dropped Down
    else eapol_case s q (source octets) (eapol_of (drop 14 octets))

-- ---- ports, with one value changed

abbrev pub with_link : ℕ → Bool → Port → Port
with_link n up p = record p { link = if is_port n p then up else p.link }

abbrev pub set_link : ℕ → Bool → State → State
set_link n up s = record s { ports = map (with_link n up) s.ports }

abbrev pub with_control : ℕ → Control → Port → Port
with_control n control p = record p { control = if is_port n p then control else p.control }

abbrev pub set_control : ℕ → Control → State → State
set_control n control s = record s { ports = map (with_control n control) s.ports }

abbrev pub with_forced : ℕ → Vars → Port → Port
with_forced n v p = record p { forced = if is_port n p then v else p.forced }

abbrev pub set_forced : ℕ → Vars → State → State
set_forced n v s = record s { ports = map (with_forced n v) s.ports }

-- a forced port's variables are settled, and speak to all hosts again
abbrev pub settle_port : ℕ → Vars → State → Did
settle_port n v s = record { state = set_forced n (to_all (settled v).vars) s; sent = frames (settled v).vars (settled v).packets }

-- ---- what a frame does

abbrev pub opened : State → Port → List ℕ → Host
opened s q from = record { number = s.next; port = q.conf.port; address = from }

abbrev pub fresh_standing : State → Port → List ℕ → Standing
fresh_standing s q from = record {
  vars = fresh q.conf.port (own_address s q.conf.port) from Auto s.config.times;
  vlan = q.conf.native;
  state = None;
  end_while = 0;
  restricted = false;
}

-- one session more, under the next number; its port has no guests
abbrev pub with_session : Host → Standing → State → State
with_session h x s = record (no_guests h.port s) { sessions = s.sessions ++ record { host = h; standing = x } ∷ []; next = s.next + 1 }

-- a session opens and settles; the packet itself is not looked at further
abbrev pub open_session : State → Port → List ℕ → Did
open_session s q from =
    let h = opened s q from in
    let x = fresh_standing s q from in
    settle_session Another h x (with_session h x s)

abbrev pub set_vars : live.Event → Standing → Standing
set_vars e x = record x { vars = set e x.vars }

abbrev pub cause_of : live.Event → Cause
cause_of live.Logoff = ALogoff
cause_of _ = Another

abbrev pub do_frame : State → FrameCase → Turned
do_frame s (Dropped why) = turned (FrameDropped why) (only s)
do_frame s (Forces q from) = turned Done (settle_port q.conf.port (set (live.Greeting from) q.forced) s)
do_frame s (Opens q from) = turned Done (open_session s q from)
do_frame s (Turns y e) = turned Done (settle_session (cause_of e) y.host (set_vars e y.standing) s)

-- ---- answers of the server

-- an answer that is taken ends the request
abbrev pub do_answer : State → Answered → Turned
do_answer s (Refused why) = turned (AnswerDropped why) (only s)
do_answer s (Told y said) = turned Done (settle_session AnAnswer y.host (stands said y.standing) (forget y.host s))

-- ---- dynamic requests: what is done, and then the reply

abbrev pub do_request : State → Addr → List ℕ → Judged → Turned
do_request s from octets (Drop why) = turned (RequestDropped why) (only s)
do_request s from octets (RepeatOf again) = turned Again (record { state = s; sent = ToClient from again ∷ [] })
do_request s from octets (Nak cause) = turned (Naked cause) (reply octets (Some cause) from s)
do_request s from octets (Ack action) = turned Acked (and_then (act action s) (reply octets None from))

-- ---- a second

-- guests are let in where nobody came in time
abbrev pub guest_second : Port → Port
guest_second p = record p { guest_while = p.guest_while - 1; guest_open = p.guest_open || p.guest_while == 1 }

abbrev pub guests_second : State → State
guests_second s = record s { ports = map guest_second s.ports }

-- the request is sent again (RFC 5080, section 2.2.1)
abbrev pub sent_again : Aged → Option Pending → List Sent
sent_again Resend (Some p) = to_server p ∷ []
sent_again Resend None = []
sent_again Quiet p = []
sent_again GaveUp p = []

abbrev pub is_given_up : Aged → Bool
is_given_up GaveUp = true
is_given_up Quiet = false
is_given_up Resend = false

-- the session's request is a second older
abbrev pub age_request : Aged → Host → State → State
age_request a h s = record s { waits = after_aging a h.number s.waits }

-- then its timers fall, and it settles
abbrev pub after_ageing : Aged → Host → Standing → State → Did
after_ageing a h x s = record {
  state = (settle_session Another h (set_vars (live.Second (is_given_up a)) x) (age_request a h s)).state;
  sent = sent_again a (pending_of h.number s.waits) ++ (settle_session Another h (set_vars (live.Second (is_given_up a)) x) (age_request a h s)).sent;
}

-- a session whose time is over is closed
abbrev pub second_by : Bool → Session → State → Did
second_by true y s = record { state = close y.host s; sent = say_failure y.standing ∷ [] }
second_by false y s = after_ageing (aged (pending_of y.host.number s.waits)) y.host (record y.standing { end_while = y.standing.end_while - 1 }) s

-- what a second does to one session
abbrev pub second_of : Session → State → Did
second_of y s = second_by (y.standing.end_while == 1) y s

-- each session that there was at the start, in rising order of number
abbrev pub each_second : List Session → State → Did
each_second [] s = only s
each_second (y ∷ ys) s = and_then (second_of y s) (each_second ys)

abbrev pub tick : State → State
tick s = record s { clock = s.clock + 1 }

-- ---- links and controls

abbrev pub close_all : List Session → State → State
close_all [] s = s
close_all (y ∷ ys) s = close_all ys (close y.host s)

-- the port has no sessions, and no guests
abbrev pub close_port : ℕ → State → State
close_port n s = no_guests n (close_all (on_port_of n s) s)

-- a port whose link is up begins: an Auto port asks for the identity (IEEE Std 802.1X-2004, 8.2.4), a forced one says what is decided
abbrev pub up_by : Bool → Port → Control → State → Did
up_by true q control s =
    record { state = arm q.conf.port s; sent = ToHost q.conf.port (eap_frame pae_group (own_address s q.conf.port) (identity_request 0)) ∷ [] }
up_by false q control s = settle_port q.conf.port (fresh q.conf.port (own_address s q.conf.port) pae_group control s.config.times) s

abbrev pub port_up : Port → Control → State → Did
port_up q control s = up_by (is_auto control) q control s

-- a link that was so, and is so now
abbrev pub link_by : (was up : Bool) → Port → State → Did
link_by true true q s = only s
link_by false false q s = only s
link_by false true q s = port_up q q.control (set_link q.conf.port true s)
link_by true false q s = only (close_port q.conf.port (set_link q.conf.port false s))

abbrev pub do_link : Bool → Option Port → State → Did
do_link up None s = only s
do_link up (Some q) s = link_by q.link up q s

abbrev pub up_if : Bool → Port → Control → State → Did
up_if true q control s = port_up q control s
up_if false q control s = only s

-- a control that is so already, or is set
abbrev pub control_by : Bool → Control → Port → State → Did
control_by true control q s = only s
control_by false control q s = up_if q.link q control (set_control q.conf.port control (close_port q.conf.port s))

abbrev pub do_control : Control → Option Port → State → Did
do_control control None s = only s
do_control control (Some q) s = control_by (same_control q.control control) control q s

-- ---- one turn

abbrev pub turn : State → Happening → Turned
turn s (Frame port octets) = do_frame s (frame_case s octets (port_of port s))
turn s (Radius socket octets) = do_answer s (answered_on s socket octets)
turn s (Dynamic from octets) = do_request s from octets (judged_on s from octets)
turn s Second = turned Done (each_second s.sessions (guests_second (tick s)))
turn s (Link port up) = turned Done (do_link up (port_of port s) s)
turn s (SetControl port control) = turned Done (do_control control (port_of port s) s)

-- More worked examples: what the server and clients say, and time. Their packets are taken as read and as true.
use Rattle.std.proofs.Common.{◌≡◌, ℕ, refl, List, [], ◌∷◌, ◌++◌, codes, replicate, map, false, Option, Some, None}
use Rattle.radius_defs.specs.declared.Timeout.TheVariants.{End}
use Rattle.radius_defs.specs.Packet.{Attribute, Packet, attributes_text}
use Rattle.radius_defs.specs.Digest.{zeros}
use Rattle.radius_defs.specs.Message.{with_message}
use Rattle.settle_defs.specs.Settle.{settled}
use Rattle.dynauth_defs.specs.declared.Action.TheVariants.{Disconnect, Change}
use Rattle.aaa_defs.specs.Request.{pieces, unsigned_request}
use Rattle.aaa_defs.specs.Waits.{next_name, socket_of, identifier_of, name_of}
use Rattle.switch_event.specs.Event.{Happening, Frame, Second, Link}
use Rattle.switch_event.specs.declared.drop.FrameDrop.TheVariants as frame
use Rattle.switch_event.specs.declared.event.Outcome.TheVariants.{FrameDropped}
use Rattle.switch_event.specs.declared.decision.Decision.TheVariants.{Forward, Drop}
use Rattle.switch_event.specs.declared.decision.Drop9.TheVariants.{Unauthorised}
use Rattle.switch_defs.specs.Switch.{State, Session, Turned, session_numbered}
use Rattle.switch_defs.specs.Session.{question}
use Rattle.switch_defs.specs.Answer.{told}
use Rattle.switch_defs.specs.Dynamic.{act}
use Rattle.switch_defs.specs.Turn.{turn, do_answer}
use Rattle.switch_defs.specs.Decide.{decide}
use Rattle.switch_examples.proofs.Worked.{setting, run, a, eapol, start, logoff, bob, sent_to, up_1, started, data_a}

-- ---- a request

abbrev asked : State
asked = (turn started (bob 1)).state

abbrev sessions_of : State → List ℕ
sessions_of s = map (λ y. y.host.number) s.sessions

abbrev names_of : State → List ℕ
names_of s = map (λ p. p.name) s.waits.requests

the_first_request_is_named_0 : names_of asked ≡ 0 ∷ []
unfolding settled next_name
the_first_request_is_named_0 = refl

one_authenticator_is_used : asked.asked ≡ 1
unfolding settled
one_authenticator_is_used = refl

-- its attributes: Message-Authenticator first, here of zeros
abbrev asks_of : Option Session → List ℕ
asks_of None = []
asks_of (Some y) = attributes_text (with_message (unsigned_request setting (question asked y.host y.standing) 1 0 []) (zeros 16)).attributes

the_attributes : asks_of (session_numbered 1 asked)
    ≡ 80 ∷ 18 ∷ zeros 16
    ++ 1 ∷ 5 ∷ codes "bob"
    ++ 4 ∷ 6 ∷ 192 ∷ 0 ∷ 2 ∷ 10 ∷ []
    ++ 5 ∷ 6 ∷ 0 ∷ 0 ∷ 0 ∷ 1 ∷ []
    ++ 6 ∷ 6 ∷ 0 ∷ 0 ∷ 0 ∷ 2 ∷ []
    ++ 12 ∷ 6 ∷ 0 ∷ 0 ∷ 5 ∷ 216 ∷ []
    ++ 30 ∷ 19 ∷ codes "02-00-00-01-01-01"
    ++ 31 ∷ 19 ∷ codes "02-00-00-00-00-AA"
    ++ 32 ∷ 5 ∷ codes "sw1"
    ++ 61 ∷ 6 ∷ 0 ∷ 0 ∷ 0 ∷ 15 ∷ []
    ++ 44 ∷ 10 ∷ codes "00000001"
    ++ 79 ∷ 10 ∷ 2 ∷ 1 ∷ 0 ∷ 8 ∷ 1 ∷ codes "bob"
unfolding settled pieces
the_attributes = refl

-- name 256 is identifier 0 of socket 1
socket_1 : (socket_of 256 ∷ identifier_of 256 ∷ name_of 3 255 ∷ []) ≡ 1 ∷ 0 ∷ 1023 ∷ []
socket_1 = refl

-- ---- answers

abbrev attribute : ℕ → List ℕ → Attribute
attribute kind value = record { kind = kind; value = value }

abbrev packet : ℕ → List Attribute → Packet
packet code attributes = record { code = code; identifier = 0; authenticator = zeros 16; attributes = attributes }

abbrev to_vlan : List ℕ → List Attribute
to_vlan group_id = attribute 64 (0 ∷ 0 ∷ 0 ∷ 13 ∷ []) ∷ attribute 65 (0 ∷ 0 ∷ 0 ∷ 6 ∷ []) ∷ attribute 81 group_id ∷ []

-- an answer for session 1 that was taken
abbrev answer : State → Packet → Option (List ℕ) → Turned
answer s p eap = do_answer s (told s (record { session = 1; packet = p; eap = eap }) (session_numbered 1 s))

abbrev success : List ℕ
success = 3 ∷ 1 ∷ 0 ∷ 4 ∷ []

abbrev accepted : Turned
accepted = answer asked (packet 2 (to_vlan (codes "42"))) (Some success)

accept_goes_on : accepted.sent ≡ sent_to a 1 (4 ∷ success) ∷ []
unfolding settled
accept_goes_on = refl

accept_authorises : decide accepted.state 1 data_a ≡ Forward 1 42
unfolding settled
accept_authorises = refl

nothing_waits_then : names_of accepted.state ≡ []
unfolding settled next_name
nothing_waits_then = refl

-- without EAP a canned Success goes out
accept_without_eap : (answer asked (packet 2 []) None).sent ≡ sent_to a 1 (4 ∷ success) ∷ []
unfolding settled
accept_without_eap = refl

-- a VLAN that is none: the host is refused, and restricted
abbrev unfit : Turned
unfit = answer asked (packet 2 (to_vlan (codes "4095"))) (Some success)

unfit_refuses : unfit.sent ≡ sent_to a 1 (4 ∷ 4 ∷ 1 ∷ 0 ∷ 4 ∷ []) ∷ []
unfolding settled
unfit_refuses = refl

unfit_restricts : decide unfit.state 1 data_a ≡ Forward 1 99
unfolding settled
unfit_restricts = refl

logoff_sends_nothing : (turn unfit.state logoff).sent ≡ []
unfolding settled
logoff_sends_nothing = refl

logoff_unrestricts : decide (turn unfit.state logoff).state 1 data_a ≡ Drop Unauthorised
unfolding settled
logoff_unrestricts = refl

-- a Challenge with State ST and identifier 9, and the host's response
abbrev request_9 : List ℕ
request_9 = 1 ∷ 9 ∷ 0 ∷ 6 ∷ 4 ∷ 7 ∷ []

abbrev challenged : Turned
challenged = answer asked (packet 11 (attribute 24 (codes "ST") ∷ [])) (Some request_9)

challenge_goes_on : challenged.sent ≡ sent_to a 1 (6 ∷ request_9) ∷ []
unfolding settled
challenge_goes_on = refl

abbrev answered_9 : State
answered_9 = (turn challenged.state (Frame 1 (eapol a (1 ∷ 0 ∷ 0 ∷ 6 ∷ 2 ∷ 9 ∷ 0 ∷ 6 ∷ 4 ∷ 7 ∷ [])))).state

the_second_request_is_named_1 : names_of answered_9 ≡ 1 ∷ []
unfolding settled next_name
the_second_request_is_named_1 = refl

abbrev state_of : Option Session → Option (List ℕ)
state_of None = None
state_of (Some y) = y.standing.state

the_state_is_kept : state_of (session_numbered 1 answered_9) ≡ Some (codes "ST")
unfolding settled
the_state_is_kept = refl

-- ---- times

abbrev ticks : ℕ → State → State
ticks n s = run s (replicate n Second)

abbrev timed : List Attribute → Turned
timed more = answer asked (packet 2 (attribute 27 (0 ∷ 0 ∷ 0 ∷ 5 ∷ []) ∷ more ++ to_vlan (codes "42"))) (Some success)

session_ends : (turn (ticks 4 (timed []).state) Second).sent ≡ sent_to a 1 (4 ∷ 4 ∷ 1 ∷ 0 ∷ 4 ∷ []) ∷ []
unfolding settled
session_ends = refl

no_session_is_left : sessions_of (ticks 5 (timed []).state) ≡ []
unfolding settled
no_session_is_left = refl

abbrev again : Turned
again = timed (attribute 29 (0 ∷ 0 ∷ 0 ∷ 1 ∷ []) ∷ [])

asked_again : (turn (ticks 4 again.state) Second).sent ≡ sent_to a 1 (5 ∷ 1 ∷ 2 ∷ 0 ∷ 5 ∷ 1 ∷ []) ∷ []
unfolding settled
asked_again = refl

authorised_still : decide (ticks 5 again.state) 1 data_a ≡ Forward 1 42
unfolding settled
authorised_still = refl

-- the identity is asked for again every ten seconds
nobody_answers : (turn (ticks 9 started) Second).sent ≡ sent_to a 1 (5 ∷ 1 ∷ 1 ∷ 0 ∷ 5 ∷ 1 ∷ []) ∷ []
unfolding settled
nobody_answers = refl

-- ---- dynamic requests

disconnected : (act (Disconnect 1) accepted.state).sent ≡ sent_to a 1 (4 ∷ 4 ∷ 1 ∷ 0 ∷ 4 ∷ []) ∷ []
unfolding settled
disconnected = refl

disconnected_is_unauthorised : decide (act (Disconnect 1) accepted.state).state 1 data_a ≡ Drop Unauthorised
unfolding settled
disconnected_is_unauthorised = refl

changed_to_43 : decide (act (Change 1 (Some 43) (End 600)) accepted.state).state 1 data_a ≡ Forward 1 43
unfolding settled
changed_to_43 = refl

-- ---- a Logoff, and a link

logged_off : (turn accepted.state logoff).sent ≡ sent_to a 1 (5 ∷ 1 ∷ 2 ∷ 0 ∷ 5 ∷ 1 ∷ []) ∷ []
unfolding settled
logged_off = refl

logged_off_is_unauthorised : decide (turn accepted.state logoff).state 1 data_a ≡ Drop Unauthorised
unfolding settled
logged_off_is_unauthorised = refl

link_down_forgets : names_of (turn asked (Link 1 false)).state ≡ []
unfolding settled next_name
link_down_forgets = refl

-- ---- guests

no_guests_yet : decide (ticks 4 up_1) 1 data_a ≡ Drop Unauthorised
unfolding settled
no_guests_yet = refl

guests : decide (ticks 5 up_1) 1 data_a ≡ Forward 0 77
unfolding settled
guests = refl

a_session_ends_guests : decide (turn (ticks 5 up_1) start).state 1 data_a ≡ Drop Unauthorised
unfolding settled
a_session_ends_guests = refl

-- a port whose last session ends waits for guests anew
guests_after_a_session : decide (ticks 5 (act (Disconnect 1) accepted.state).state) 1 data_a ≡ Forward 0 77
unfolding settled
guests_after_a_session = refl

-- ---- long waits

asked_with_2_at_40 : (turn (ticks 39 started) Second).sent ≡ sent_to a 1 (5 ∷ 1 ∷ 2 ∷ 0 ∷ 5 ∷ 1 ∷ []) ∷ []
unfolding settled
asked_with_2_at_40 = refl

gone_at_80 : sessions_of (ticks 80 started) ≡ []
unfolding settled
gone_at_80 = refl

there_at_79 : sessions_of (ticks 79 started) ≡ 1 ∷ []
unfolding settled
there_at_79 = refl

-- a request waits for 15 seconds
waits_at_14 : names_of (ticks 14 asked) ≡ 0 ∷ []
unfolding settled next_name
waits_at_14 = refl

given_up_at_15 : names_of (ticks 15 asked) ≡ []
unfolding settled next_name
given_up_at_15 = refl

-- ---- sixteen hosts

abbrev host : ℕ → List ℕ
host n = 2 ∷ 0 ∷ 0 ∷ 0 ∷ 1 ∷ n ∷ []

abbrev start_of : ℕ → Happening
start_of n = Frame 1 (eapol (host n) (1 ∷ 1 ∷ 0 ∷ 0 ∷ []))

abbrev sixteen : State
sixteen = run up_1 (map start_of (1 ∷ 2 ∷ 3 ∷ 4 ∷ 5 ∷ 6 ∷ 7 ∷ 8 ∷ 9 ∷ 10 ∷ 11 ∷ 12 ∷ 13 ∷ 14 ∷ 15 ∷ 16 ∷ []))

a_seventeenth_finds_no_place : (turn sixteen (start_of 17)).outcome ≡ FrameDropped frame.PortFull
unfolding settled
a_seventeenth_finds_no_place = refl

a_seventeenth_opens_later : sessions_of (turn (ticks 80 sixteen) (start_of 17)).state ≡ 17 ∷ []
unfolding settled
a_seventeenth_opens_later = refl

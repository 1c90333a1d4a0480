-- Worked examples, by computation: they test the definitions. Packets of the server and of clients are taken as read and as true by
-- their authenticators: digests are computed by tests alone.
use Rattle.std.proofs.Common.{◌≡◌, ℕ, refl, List, [], ◌∷◌, ◌++◌, codes, replicate, true}
use Rattle.machine_vars.specs.declared.control.Control.TheVariants.{Auto, ForceAuth, ForceUnauth}
use Rattle.settle_defs.specs.Settle.{settled}
use Rattle.switch_event.specs.Config.{Config, empty}
use Rattle.switch_event.specs.Event.{Happening, Frame, Link}
use Rattle.switch_event.specs.declared.drop.FrameDrop.TheVariants as frame
use Rattle.switch_event.specs.declared.event.Outcome.TheVariants.{FrameDropped}
use Rattle.switch_event.specs.declared.decision.Decision.TheVariants.{Forward, Drop}
use Rattle.switch_event.specs.declared.decision.Drop9.TheVariants.{Runt, Reserved, Tagged, GroupSource, Down, Closed, Unauthorised}
use Rattle.switch_event.specs.Sent.{Sent, ToHost}
use Rattle.switch_defs.specs.Switch.{State, opening}
use Rattle.switch_defs.specs.Turn.{turn}
use Rattle.switch_defs.specs.Decide.{decide}

-- three ports, one of each control
abbrev pub setting : Config
setting = record empty {
  ports =
      record { port = 1; native = 10; control = Auto; restricted = 99; guest = 77 }
      ∷ record { port = 2; native = 20; control = ForceAuth; restricted = 0; guest = 0 }
      ∷ record { port = 3; native = 30; control = ForceUnauth; restricted = 0; guest = 0 } ∷ [];
  guest_wait = 5;
}

abbrev pub run : State → List Happening → State
run s [] = s
run s (e ∷ es) = run (turn s e).state es

-- host A and host B
abbrev pub a : List ℕ
a = 2 ∷ 0 ∷ 0 ∷ 0 ∷ 0 ∷ 170 ∷ []

abbrev pub group : List ℕ
group = 1 ∷ 128 ∷ 194 ∷ 0 ∷ 0 ∷ 3 ∷ []

abbrev pub eapol : List ℕ → List ℕ → List ℕ
eapol from body = group ++ from ++ (136 ∷ 142 ∷ []) ++ body

abbrev pub start : Happening
start = Frame 1 (eapol a (1 ∷ 1 ∷ 0 ∷ 0 ∷ []))

abbrev pub logoff : Happening
logoff = Frame 1 (eapol a (1 ∷ 2 ∷ 0 ∷ 0 ∷ []))

-- the identity bob, with this identifier
abbrev pub bob : ℕ → Happening
bob id = Frame 1 (eapol a (1 ∷ 0 ∷ 0 ∷ 8 ∷ 2 ∷ id ∷ 0 ∷ 8 ∷ 1 ∷ codes "bob"))

-- a frame of the switch from a port, with an EAP packet
abbrev pub sent_to : List ℕ → ℕ → List ℕ → Sent
sent_to to port body = ToHost port (to ++ (2 ∷ 0 ∷ 0 ∷ 1 ∷ 1 ∷ port ∷ 136 ∷ 142 ∷ 2 ∷ 0 ∷ 0 ∷ []) ++ body)

abbrev pub up_1 : State
up_1 = (turn (opening setting) (Link 1 true)).state

abbrev pub started : State
started = (turn up_1 start).state

abbrev pub data_of : List ℕ → List ℕ → List ℕ
data_of to from = to ++ from ++ (8 ∷ 0 ∷ 69 ∷ 0 ∷ [])

abbrev pub everyone : List ℕ
everyone = 255 ∷ 255 ∷ 255 ∷ 255 ∷ 255 ∷ 255 ∷ []

abbrev pub data_a : List ℕ
data_a = data_of everyone a

-- ---- links and forced ports

link_up_asks : (turn (opening setting) (Link 1 true)).sent ≡ sent_to group 1 (5 ∷ 1 ∷ 0 ∷ 0 ∷ 5 ∷ 1 ∷ []) ∷ []
link_up_asks = refl

not_authorised_at_first : decide up_1 1 data_a ≡ Drop Unauthorised
not_authorised_at_first = refl

down_at_first : decide (opening setting) 2 data_a ≡ Drop Down
down_at_first = refl

forced_open_says_success : (turn (opening setting) (Link 2 true)).sent ≡ sent_to group 2 (4 ∷ 3 ∷ 0 ∷ 0 ∷ 4 ∷ []) ∷ []
unfolding settled
forced_open_says_success = refl

forced_shut_says_failure : (turn (opening setting) (Link 3 true)).sent ≡ sent_to group 3 (4 ∷ 4 ∷ 0 ∷ 0 ∷ 4 ∷ []) ∷ []
unfolding settled
forced_shut_says_failure = refl

forced_open_forwards : decide (turn (opening setting) (Link 2 true)).state 2 data_a ≡ Forward 0 20
unfolding settled
forced_open_forwards = refl

forced_shut_is_closed : decide (turn (opening setting) (Link 3 true)).state 3 data_a ≡ Drop Closed
unfolding settled
forced_shut_is_closed = refl

abbrev up_2 : State
up_2 = (turn (opening setting) (Link 2 true)).state

runt_of_13 : decide up_2 2 (replicate 13 0) ≡ Drop Runt
unfolding settled
runt_of_13 = refl

tagged_already : decide up_2 2 (everyone ++ a ++ (129 ∷ 0 ∷ 0 ∷ 1 ∷ [])) ≡ Drop Tagged
unfolding settled
tagged_already = refl

reserved_address : decide up_2 2 (data_of (1 ∷ 128 ∷ 194 ∷ 0 ∷ 0 ∷ 14 ∷ []) a) ≡ Drop Reserved
unfolding settled
reserved_address = refl

from_a_group : decide up_2 2 (data_of everyone (1 ∷ 0 ∷ 0 ∷ 0 ∷ 0 ∷ 187 ∷ [])) ≡ Drop GroupSource
unfolding settled
from_a_group = refl

-- ---- a session

start_opens_a_session : (turn up_1 start).sent ≡ sent_to a 1 (5 ∷ 1 ∷ 1 ∷ 0 ∷ 5 ∷ 1 ∷ []) ∷ []
unfolding settled
start_opens_a_session = refl

the_next_number_is_2 : started.next ≡ 2
unfolding settled
the_next_number_is_2 = refl

-- a Response with the wrong identifier goes to nobody
wrong_identifier : (turn started (bob 2)).sent ≡ []
unfolding settled
wrong_identifier = refl

-- two more Starts: identifiers 2 and 4
second_start : (turn started start).sent ≡ sent_to a 1 (5 ∷ 1 ∷ 2 ∷ 0 ∷ 5 ∷ 1 ∷ []) ∷ []
unfolding settled
second_start = refl

third_start : (turn (turn started start).state start).sent ≡ sent_to a 1 (5 ∷ 1 ∷ 4 ∷ 0 ∷ 5 ∷ 1 ∷ []) ∷ []
unfolding settled
third_start = refl

logoff_of_a_stranger : (turn up_1 logoff).outcome ≡ FrameDropped frame.NoSession
logoff_of_a_stranger = refl

start_while_down : (turn (opening setting) start).outcome ≡ FrameDropped frame.Down
start_while_down = refl

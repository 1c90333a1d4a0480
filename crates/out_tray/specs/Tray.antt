-- A tray: the list of the things sent, and the number of sessions that it has room for.
use Rattle.std.specs.Prelude.{ℕ, ◌+◌, ◌-◌, ◌*◌, List, [], ◌∷◌, length}
use Rattle.switch_event.specs.Sent.{Sent, octets_of}

pub record Things : Type 0 where
  pub sessions : ℕ
  pub items : List Sent

-- what the items take: their octets, and 16 beside each
abbrev pub taken : List Sent → ℕ
taken [] = 0
taken (item ∷ items) = 16 + length (octets_of item) + taken items

-- the room of a tray for some sessions
abbrev pub room : ℕ → ℕ
room sessions = sessions * 90000 + 100000

-- the room that is left
abbrev pub spare : Things → ℕ
spare tray = room tray.sessions - taken tray.items

-- ---- what may be sent, with the 16 octets beside each

-- a frame, with at most 1,518 octets
abbrev pub frame_room : ℕ
frame_room = 16 + 1518

-- a packet of RADIUS, with at most 4,096 octets
abbrev pub packet_room : ℕ
packet_room = 16 + 4096

-- what a session sends at an answer of the server: a frame, and one more where that settles
abbrev pub answer_room : ℕ
answer_room = frame_room + frame_room

-- what a control event other than a second sends: a frame and a packet for each of the 16 hosts of a port
abbrev pub turn_room : ℕ
turn_room = 16 * (frame_room + packet_room)

-- what a second sends: two answers and a packet for each of 960 sessions
abbrev pub second_room : ℕ
second_room = 960 * (answer_room + answer_room + packet_room)

-- How a tray holds its list: the octets of all items one after another, and for each item where they end.
use Rattle.std.specs.Prelude.{◌≡◌, ℕ, zero, suc, ◌+◌, ◌*◌, ◌/◌, ◌≤◌, List, [], ◌∷◌, length, slice_range}
use Rattle.out_tray.specs.declared.tray.Entry.{Entry}
use Rattle.switch_event.specs.Sent.{Sent}
use Rattle.out_tray.specs.Way.{sent_by}
use Rattle.out_tray.specs.Tray.{room}

-- the items, of which the first begins at a place
abbrev pub items_from : ℕ → List Entry → List ℕ → List Sent
items_from start [] octets = []
items_from start (e ∷ es) octets = sent_by e.way (slice_range octets start e.end) ∷ items_from e.end es octets

-- where the item at a place begins, where the first begins at `start`
abbrev pub start_at : ℕ → List Entry → ℕ → ℕ
start_at start [] n = start
start_at start (e ∷ es) zero = start
start_at start (e ∷ es) (suc n) = start_at e.end es n

-- the ends rise from a place to the last
abbrev pub Rises : ℕ → List Entry → ℕ → Type 0
Rises start [] last = start ≡ last
Rises start (e ∷ es) last = (start ≤ e.end) × Rises e.end es last

-- the room is that of the sessions, and the items fit into it. The memory that was taken is exactly that room: the list of ends
-- has memory for so many places, one for each 16 octets, and the octets have a space of their own
pub record Sound (sessions own_room : ℕ) (entries : List Entry) (octets : List ℕ) (places space : ℕ) : Type 0 where
  pub rises : Rises 0 entries (length octets)
  pub counted : own_room ≡ room sessions
  pub fits : 16 * length entries + length octets ≤ own_room
  pub holds : places ≡ own_room / 16
  pub has : space ≡ own_room

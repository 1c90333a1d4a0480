-- What the layer above keeps beside a host: whether its request to the server is open, and that
-- whom the server is asked about has a name.
use Rattle.std.specs.Prelude.{◌≡◌, ◌≤◌, Bool, true, false, not, ◌&&◌, ◌||◌, length}
use Rattle.machine_defs.specs.Live.{Event, Challenge, Notice, Accept, Reject, Second}
use Rattle.typed_session.specs.declared.host.Host.{Host}
use Rattle.typed_session.specs.declared.host.Host.TheVariants as host
use Rattle.typed_session.specs.Reads.{is_server, ask_of, abort_of}

-- whether an open request is open still as the host hears of the event: an answer takes it out, and
-- so does giving the server up
abbrev pub still_open : Event → (was_open : Bool) → Bool
still_open (Challenge eap wait) was_open = false
still_open Notice was_open = false
still_open (Accept eap again period) was_open = false
still_open (Reject eap) was_open = false
still_open (Second gave_up) was_open = was_open && not gave_up
still_open e was_open = was_open

-- and after the host was asked what it wants: what is no longer wanted is dropped
abbrev pub left_open : Event → (was_open : Bool) → Host → Bool
left_open e was_open k = not (abort_of k) && still_open e was_open

-- a request is open exactly while the server is asked: who asks finds none open, and has one open
-- from then on
abbrev pub Asks : Event → Host → Host → Type 0
Asks e h k =
    let open_ = left_open e (is_server h) k in
    (ask_of k ≡ true → open_ ≡ false) × (is_server k ≡ (ask_of k || open_))

-- nothing is left to be done for the server's side
abbrev pub IsRested : Host → Type 0
IsRested h = (ask_of h ≡ false) × (abort_of h ≡ false)

-- whom the server is asked about has a name, and so has who may be next
abbrev pub Named : Host → Type 0
Named (host.Request a) = a.local ≡ false → 1 ≤ length a.common.identity.items
Named (host.Ignore a) = a.local ≡ false → 1 ≤ length a.common.identity.items
Named (host.Server a) = 1 ≤ length a.common.identity.items
Named h = Unit {0}

-- an event keeps both
abbrev pub Cares : Event → (before after : Host) → Type 0
Cares e h k = (IsRested h → Asks e h k) × (Named h → Named k)

-- a session as it is opened: nothing is left to be done, and the server is not asked
pub record Begins (h : Host) : Type 0 where
  pub rested : IsRested h
  pub apart : is_server h ≡ false
  pub named : Named h

-- what was left to be done was taken over
pub record Rests (h k : Host) : Type 0 where
  pub rested : IsRested k
  pub same : is_server k ≡ is_server h
  pub named : Named h → Named k

-- none of it was touched
pub record Leaves (h k : Host) : Type 0 where
  pub ask : ask_of k ≡ ask_of h
  pub abort : abort_of k ≡ abort_of h
  pub same : is_server k ≡ is_server h
  pub named : Named h → Named k

-- Where a session is kept.
use Rattle.std.specs.Prelude.{◌≡◌, ◌==◌, if◌then◌else◌, ℕ, List, slice_get, Option, None, Some}
use Rattle.session_table.specs.Slots.{Entry, held_at}
use Rattle.switch_defs.specs.Switch as switch
use Rattle.switch_defs.specs.Switch.{State}
use Rattle.switch_defs.specs.Sound.{In}
use Rattle.host_session.specs.declared.session.Session.{Session}
use Rattle.host_sessions.specs.declared.sessions.Sessions.{Sessions}
use Rattle.host_sessions.specs.Holds.{IsOf}

-- the entry at a place is of a session that there is
pub record IsAt (at : ℕ) (y : switch.Session) (k : Sessions) (s : State) : Type 0 where
  pub entry : Entry Session
  pub here : held_at at k.slots ≡ Some entry
  pub there : In y s.sessions
  pub is : IsOf s.config.times entry y

-- a place is that of a session, where there is one, and there is none where there is none
abbrev pub FindsAt : Option ℕ → Option switch.Session → Sessions → State → Type 0
FindsAt None None k s = Unit {0}
FindsAt None (Some y) k s = ⊥
FindsAt (Some at) None k s = ⊥
FindsAt (Some at) (Some y) k s = IsAt at y k s

-- the place of the n-th entry, where its session has the number
abbrev pub place_of : ℕ → Option (Entry Session) → Option ℕ
place_of number None = None
place_of number (Some e) = if e.value.number == number then Some e.place else None

abbrev pub place_if : ℕ → ℕ → List (Entry Session) → Option ℕ
place_if number n es = place_of number (slice_get es n)

-- What is heard of the switch, as it is noted.
use Rattle.std.specs.Prelude.{ℕ, ◌+◌, ◌<◌, ◌≡◌, ◌≢◌, List, length, slice_index_or, None}
use Rattle.wire_core.specs.declared.address.Mac.{Mac}
use Rattle.switch_event.specs.Sent.{Sent}
use Rattle.day_defs.specs.Office.{address_of_host}
use Rattle.day_defs.specs.Server.{identity_asked, server_asked, last_about}
use Rattle.day_maker.specs.declared.notes.Note.{Note}

-- the octets of an address
abbrev pub station_in : Mac → List ℕ
station_in m = m.0

-- whom something is about, and what it says
abbrev pub about : {A : Type 0} → Mac × A → List ℕ × A
about x = (x.0.0, x.1)

-- nothing was heard
abbrev pub blank : Note
blank = record { identity = None; question = None }

-- what was heard last for a host
abbrev pub note_of : List Sent → ℕ → Note
note_of sent h =
    record { identity = last_about identity_asked (address_of_host h) sent; question = last_about server_asked (address_of_host h) sent }

-- the notes say what was heard last for each host, of which the first has the number 1
abbrev pub Hears : List Note → List Sent → Type 0
Hears notes sent = (k : ℕ) → k < length notes → slice_index_or notes k blank ≡ note_of sent (k + 1)

-- the address is that of the host of this place, among so many
abbrev pub IsPlaceOf : List ℕ → (hosts place : ℕ) → Type 0
IsPlaceOf address hosts place = (place < hosts) × (address ≡ address_of_host (place + 1))

-- the address is that of none among so many hosts
abbrev pub IsNobody : List ℕ → (hosts : ℕ) → Type 0
IsNobody address hosts = (k : ℕ) → k < hosts → address ≢ address_of_host (k + 1)

-- A journal, and when an event is not staged.
use Rattle.std.specs.Prelude.{◌≡◌, ◌≢◌, ℕ, List, length, Option, None}
use Rattle.switch_event.specs.Event.{happening}
use Rattle.switch_event.specs.declared.event.Event.{Event}
use Rattle.event_record.specs.declared.TheConstants.{MOST_EVENTS}
use Rattle.event_record.specs.Entry.{Entry}
use Rattle.auth_journal.specs.declared.journal.JournalErr.{JournalErr}
use Rattle.auth_journal.specs.declared.journal.JournalErr.TheVariants.{Full, NoMemory}

-- the accepted entries in their order, and at most one that may come next
pub record Journal : Type 0 where
  pub list : List Entry
  pub staged : Option Entry

-- a lane and an event that are shown
abbrev pub entry_shown : ℕ × Event → Entry
entry_shown shown = record { lane = shown.0; event = happening shown.1 }

-- a full list stays as it is, with what is staged; where there is no memory, nothing is staged
abbrev pub Refuses : Journal → Journal → JournalErr → Type 0
Refuses old new (Full events) =
    (events ≡ length old.list) × (length old.list ≡ MOST_EVENTS) × (new ≡ old)
Refuses old new NoMemory = (length old.list ≢ MOST_EVENTS) × (new.staged ≡ None)

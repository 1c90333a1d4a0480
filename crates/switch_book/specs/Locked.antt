-- What a lock knows of the book in it.
use Rattle.std.specs.Prelude.{◌≡◌, ◌≢◌, ℕ, ◌≤◌, List, [], ◌∷◌, ◌++◌, length}
use Rattle.event_record.specs.declared.TheConstants.{MOST_EVENTS}
use Rattle.event_record.specs.Entry.{Entry}
use Rattle.switch_event.specs.Sent.{Sent}
use Rattle.switch_defs.specs.Switch.{most_sessions}
use Rattle.table_defs.specs.Table.{TellsAll}
use Rattle.auth_journal.specs.declared.journal.JournalErr.{JournalErr}
use Rattle.auth_journal.specs.declared.journal.JournalErr.TheVariants.{Full, NoMemory}
use Rattle.authenticator.specs.Meaning.{IsEvent}
use Rattle.book_lock.specs.declared.law.Base.{Base}
use Rattle.book_lock.specs.declared.law.Turns.{Turns}
use Rattle.book_lock.specs.Rules as lock
use Rattle.switch_book.specs.Book.{Book, reply_after}
use Rattle.switch_book.specs.declared.book.Answer.{Answer}
use Rattle.switch_book.specs.declared.open_book.Fixed.{Fixed}

abbrev pub fixed_of : Book → Fixed
fixed_of b = record { config = b.config; name = b.name }

abbrev pub list_of : Book → List Entry
list_of b = b.list

-- an event that may come, and a tray for all sessions
abbrev pub Admits : Fixed → Entry → (sessions : ℕ) → Type 0
Admits f e sessions = IsEvent f.config e.event × (most_sessions ≤ sessions)

-- the number is the entry's place, the outcome what the authenticator makes of it there, and the receipt of changes that tell of the
-- history with it
abbrev pub Answers : Fixed → List Entry → Entry → Answer → Type 0
Answers f h e a =
    (a.serial ≡ length h) × (a.outcome ≡ (reply_after f.config h e).outcome) × (a.receipt.name ≡ f.name)
    × TellsAll f.config a.receipt.list (h ++ e ∷ [])

-- and this is sent
abbrev pub sends : Fixed → List Entry → Entry → List Sent
sends f h e = (reply_after f.config h e).sent

-- full exactly where there are so many entries
abbrev pub MayRefuse : ℕ → JournalErr → Type 0
MayRefuse n (Full events) = (n ≡ MOST_EVENTS) × (events ≡ n)
MayRefuse n NoMemory = n ≢ MOST_EVENTS

-- what never changes while a lock round this book is open
abbrev pub based : Book → Base Fixed
based b = record { fixed = fixed_of b; opening = b.list }

-- a lane before and after an event that was accepted, and one that was refused
abbrev pub Accepted : Entry → Turns Fixed → Turns Fixed → Answer → List Sent → Type 0
Accepted e old new a sent = lock.WasAccepted Answers sends e old new a sent

abbrev pub Refused : Turns Fixed → Turns Fixed → JournalErr → List Sent → Type 0
Refused old new r sent = lock.WasRefused (λ f n s. MayRefuse n s) old new r sent

-- What contracts see of a book, what it publishes, and when it refuses.
use Rattle.std.specs.Prelude.{◌≡◌, ◌≢◌, ℕ, ◌≤◌, Bool, true, false, List, [], ◌∷◌, ◌++◌, length}
use Rattle.logbook.specs.Pages.{Book as Name}
use Rattle.event_record.specs.declared.TheConstants.{MOST_EVENTS}
use Rattle.event_record.specs.Entry.{Entry}
use Rattle.switch_event.specs.Config.{Config}
use Rattle.switch_defs.specs.Switch.{State, Turned}
use Rattle.switch_defs.specs.Turn.{turn}
use Rattle.switch_defs.specs.History.{after}
use Rattle.table_defs.specs.Table.{Table, Change, Finish, Mirrors, TellsAll, changed_by, opening_table}
use Rattle.switch_book.specs.declared.book.BookErr.{BookErr}
use Rattle.switch_book.specs.declared.book.BookErr.TheVariants.{Closed, Full, NoMemory}

-- the settings, whose changes are published, the accepted entries in their order, the published changes, and whether the
-- book was finished
pub record Book : Type 0 where
  pub config : Config
  pub name : Name
  pub list : List Entry
  pub published : List Change
  pub finished : Bool

-- no entry was accepted, and nothing is published
abbrev pub opened : Config → Name → Book
opened c name = record { config = c; name = name; list = []; published = []; finished = false }

-- the changes of the entries, behind which Finish stands where the book was finished
abbrev pub all_published : Bool → List Change → List Change
all_published false cs = cs
all_published true cs = cs ++ Finish ∷ []

-- what is published tells of the history
abbrev pub IsTold : Book → Type 0
IsTold b = (cs : List Change) × (b.published ≡ all_published b.finished cs) × TellsAll b.config cs b.list

-- what holds of a book between two calls: the first table is that of the settings, what is published tells of the history, the table
-- after it is in step with the state after the history, and both authenticators stand for that state
pub record IsKept {A : Type 0} (stands : A → State → Type 0) (made : A → ℕ) (b : Book) (table : Table) (first second : A) : Type 0 where
  pub table_is : table ≡ opening_table b.config
  pub few : length b.list ≤ MOST_EVENTS
  pub told : IsTold b
  pub in_step : Mirrors (changed_by (opening_table b.config) b.published) (after b.config b.list)
  pub first_stands : stands first (after b.config b.list)
  pub second_stands : stands second (after b.config b.list)
  pub first_made : made first ≡ length b.list
  pub second_made : made second ≡ length b.list

-- what the authenticator makes of an entry after a history
abbrev pub reply_after : Config → List Entry → Entry → Turned
reply_after c h e = turn (after c h) e.event

-- a finished book is closed; one that is not is full exactly where it has so many entries; and there may be no memory
abbrev pub Refuses : Bool → ℕ → BookErr → Type 0
Refuses finished n Closed = finished ≡ true
Refuses finished n (Full events) = (finished ≡ false) × (n ≡ MOST_EVENTS) × (events ≡ n)
Refuses finished n NoMemory = (finished ≡ false) × (n ≢ MOST_EVENTS)

-- a book is finished once
abbrev pub RefusesFinish : Bool → BookErr → Type 0
RefusesFinish finished Closed = finished ≡ true
RefusesFinish finished (Full events) = ⊥
RefusesFinish finished NoMemory = finished ≡ false

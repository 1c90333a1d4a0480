-- How far the maker is, and what it makes.
use Rattle.std.specs.Prelude.{◌≡◌, ◌≤◌, ◌+◌, ℕ, List, [], ◌∷◌, ◌++◌, length}
use Rattle.switch_event.specs.Event.{Happening}
use Rattle.switch_defs.specs.Switch.{State, most_sessions}
use Rattle.switch_defs.specs.Turn.{turn}
use Rattle.trace_defs.specs.Line.{Record}
use Rattle.event_record.specs.declared.trace_record.TraceRecord.{TraceRecord}
use Rattle.trace_defs.specs.Entered.{entered_all}
use Rattle.day_defs.specs.Office.{settings}
use Rattle.day_defs.specs.Day.{Act, Day, after_record, after_acts, recorded}
use Rattle.day_maker.specs.declared.maker.DayMaker.{DayMaker}
use Rattle.day_maker.specs.Hearing.{Hears}

-- the day has come so far: the authenticator stands for its state, and the notes say what was sent
pub record Stands {A : Type 0} (stands : A → State → Type 0) (m : DayMaker A) (d : Day) : Type 0 where
  pub core_stands : stands m.core d.state
  pub config : d.state.config ≡ settings
  pub room : most_sessions ≤ m.tray.sessions
  pub notes_are : length m.notes.items ≡ m.hosts
  pub heard : Hears m.notes.items d.sent

-- the authenticator made a turn, and the tray has what it sent
pub record Turned {A : Type 0} (stands : A → State → Type 0) (old new : DayMaker A) (d : Day) (e : Happening) : Type 0 where
  pub core_stands : stands new.core (turn d.state e).state
  pub sent : new.tray.items ≡ (turn d.state e).sent
  pub sessions : new.tray.sessions ≡ old.tray.sessions
  pub notes : new.notes ≡ old.notes
  pub hosts : new.hosts ≡ old.hosts

-- the authenticator made at most so many turns more
abbrev pub TurnsFew : {A : Type 0} → (A → ℕ) → (old new : DayMaker A) → ℕ → Type 0
TurnsFew made old new few = made new.core ≤ made old.core + few

-- a record was added, and run
abbrev pub Adds : {A : Type 0} → (A → State → Type 0) → (old new : DayMaker A) → Record → (was after : List TraceRecord) → Type 0
Adds stands old new r was after =
    (new.hosts ≡ old.hosts)
    × ((d : Day) → Stands stands old d → Stands stands new (after_record d r) × (entered_all after ≡ entered_all was ++ r ∷ []))

-- the records of what is done were added, and run
pub record Makes {A : Type 0} (stands : A → State → Type 0) (made : A → ℕ) (old new : DayMaker A) (acts : List Act)
    (was after : List TraceRecord) : Type 0 where
  pub hosts : new.hosts ≡ old.hosts
  pub goes : (d : Day) → Stands stands old d → Stands stands new (after_acts d acts)
  pub records : (d : Day) → Stands stands old d → entered_all after ≡ entered_all was ++ recorded d acts
  pub turns : TurnsFew made old new (length acts)

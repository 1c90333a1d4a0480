-- The records of a trace, and what runs them on one thread.
use Rattle.std.specs.Prelude.{◌≡◌, ℕ, ◌+◌, ◌<◌, ◌≤◌, ◌^◌, ◌++◌, List, [], ◌∷◌, length, take}
use Rattle.switch_event.specs.Event.{Happening}
use Rattle.switch_event.specs.declared.event.Outcome.{Outcome}
use Rattle.event_record.specs.declared.TheConstants.{MOST_EVENTS}
use Rattle.switch_defs.specs.Switch.{State, most_sessions}
use Rattle.switch_defs.specs.Turn.{turn}
use Rattle.table_defs.specs.Table.{Mirrors}
use Rattle.authenticator.specs.Meaning.{IsEvent}
use Rattle.trace_defs.specs.Line.{Record}
use Rattle.trace_defs.specs.Line.Record.{Control, Data}
use Rattle.history_defs.specs.Output.{Place, block, blocks, next_place, place_after}
use Rattle.event_record.specs.declared.trace_record.TraceRecord.{TraceRecord}
use Rattle.trace_defs.specs.Entered.{entered_all}
use Rattle.sequential.specs.declared.sequential.Sequential.{Sequential}

-- the output has come as far as this place: the authenticator stands for its state after as many
-- turns as there were control records, and the table is in step
pub record Stands {A : Type 0} (stands : A → State → Type 0) (made : A → ℕ) (s : Sequential A)
    (at : Place) : Type 0 where
  pub core_stands : stands s.core at.state
  pub turns : made s.core ≡ at.serial
  pub in_step : Mirrors s.table at.state
  pub room : most_sessions ≤ s.tray.sessions
  pub number : s.number ≡ at.number
  pub serial : s.serial ≡ at.serial

-- it has made a turn at this place with this outcome: the authenticator stands for the state after
-- it, the table is in step, and the tray has what it sends
pub record Turned {A : Type 0} (stands : A → State → Type 0) (made : A → ℕ) (s : Sequential A)
    (event : Happening) (outcome : Outcome) (at : Place) : Type 0 where
  pub core_stands : stands s.core (turn at.state event).state
  pub turns : made s.core ≡ at.serial + 1
  pub in_step : Mirrors s.table (turn at.state event).state
  pub room : most_sessions ≤ s.tray.sessions
  pub became : outcome ≡ (turn at.state event).outcome
  pub sent : s.tray.items ≡ (turn at.state event).sent

-- the tray has what a control record sends at this place
abbrev pub Sends : {A : Type 0} → (A → State → Type 0) → (A → ℕ) → (old new : Sequential A)
    → Happening → Type 0
Sends stands made old new event = (at : Place) → Stands stands made old at
    → new.tray.items ≡ (turn at.state event).sent

-- the record was run, and its block was added
abbrev pub Prints : {A : Type 0} → (A → State → Type 0) → (A → ℕ) → (old new : Sequential A)
    → Record → List ℕ → List ℕ → Type 0
Prints stands made old new r text after = (at : Place) → Stands stands made old at
    → (after ≡ text ++ block at r) × Stands stands made new (next_place at r)

-- the records were run in order, and their blocks were added
abbrev pub PrintsAll : {A : Type 0} → (A → State → Type 0) → (A → ℕ) → (old new : Sequential A)
    → List TraceRecord → List ℕ → List ℕ → Type 0
PrintsAll stands made old new records text after = (at : Place) → Stands stands made old at
    → (after ≡ text ++ blocks at (entered_all records))
    × Stands stands made new (place_after at (entered_all records))

-- some first ones of the records were run in order, not all, and their blocks were added
abbrev pub PrintsSome : {A : Type 0} → (A → State → Type 0) → (A → ℕ) → (old : Sequential A)
    → List TraceRecord → List ℕ → List ℕ → Type 0
PrintsSome stands made old records text after = (n : ℕ) × (n < length records)
    × (mid : _) × PrintsAll stands made old mid (take n records) text after

-- at this place the record may be run
abbrev pub MayRunOne : Place → Record → Type 0
MayRunOne at (Control lane event) =
    (at.number + 1 < 2 ^ 64) × (at.serial < MOST_EVENTS) × IsEvent at.state.config event
MayRunOne at (Data port octets) = at.number + 1 < 2 ^ 64

-- from this place on the records may be run, one after another
abbrev pub MayRunAt : Place → List Record → Type 0
MayRunAt at [] = Unit {0}
MayRunAt at (r ∷ rs) = MayRunOne at r × MayRunAt (next_place at r) rs

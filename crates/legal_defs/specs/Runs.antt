-- The records of a trace with their numbers, and which of them runs where.
use Rattle.std.specs.Prelude.{ℕ, suc, ◌+◌, ◌-◌, ◌%◌, List, [], ◌∷◌, ◌++◌, length, map}
use Rattle.switch_event.specs.Event.{Happening}
use Rattle.trace_defs.specs.Line.{Record}
use Rattle.trace_defs.specs.Line.Record.{Control as ControlEntry, Data as DataEntry}

-- a control record: its number in the trace, the lane that it came on, and what happens
pub record ControlRecord : Type 0 where
  pub number : ℕ
  pub lane : ℕ
  pub event : Happening

-- a data record: its number in the trace, its port and its frame
pub record DataRecord : Type 0 where
  pub number : ℕ
  pub port : ℕ
  pub octets : List ℕ

pub data Numbered : Type 0 where
  Control : ControlRecord → Numbered
  Data : DataRecord → Numbered

abbrev pub with_number : ℕ → Record → Numbered
with_number n (ControlEntry lane event) =
    Control (record { number = n; lane = lane; event = event })
with_number n (DataEntry port octets) =
    Data (record { number = n; port = port; octets = octets })

-- records in order, of which the first has this number
abbrev pub numbered : ℕ → List Record → List Numbered
numbered n [] = []
numbered n (r ∷ rest) = with_number n r ∷ numbered (suc n) rest

-- of so many lanes the one that runs the records of a lane, from 1
abbrev pub runs_on : (lanes lane : ℕ) → ℕ
runs_on lanes lane = (lane - 1) % lanes + 1

-- of so many workers the one that decides on the frames of a port, from 0
abbrev pub served_by : (workers port : ℕ) → ℕ
served_by workers port = (port - 1) % workers

abbrev pub is_control : Numbered → ℕ
is_control (Control e) = 1
is_control (Data x) = 0

-- how many control records there are
abbrev pub controls_in : List Numbered → ℕ
controls_in [] = 0
controls_in (r ∷ rest) = is_control r + controls_in rest

-- a record of a phase, whose number counts from 0
pub record Place : Type 0 where
  pub phase : ℕ
  pub what : Numbered

abbrev pub place : ℕ → Numbered → Place
place phase what = record { phase = phase; what = what }

-- the records of phases, of which the first phase and its first record have these numbers
abbrev pub places_from : (phase number : ℕ) → List (List Record) → List Place
places_from phase number [] = []
places_from phase number (p ∷ ps) =
    map (place phase) (numbered number p) ++ places_from (suc phase) (number + length p) ps

-- the records of a trace, numbered from 1 on
abbrev pub places : List (List Record) → List Place
places phases = places_from 0 1 phases

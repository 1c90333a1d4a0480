-- The output of a run on one thread.
use Rattle.std.specs.Prelude.{◌≡◌, ℕ, ◌+◌, List, [], ◌∷◌, ◌++◌, length, codes}
use Rattle.std.specs.List.{flat_map, concat}
use Rattle.std.specs.Fmt.{decimal}
use Rattle.switch_event.specs.Config.{Config}
use Rattle.trace_defs.specs.Line.{Record}
use Rattle.trace_defs.specs.Line.Record.{Control, Data}
use Rattle.trace_defs.specs.Output.{control_block, data_block, line_feed}
use Rattle.switch_defs.specs.Switch.{State, opening}
use Rattle.switch_defs.specs.Turn.{turn}
use Rattle.switch_defs.specs.Decide.{decide}

-- how far the output is: the state, the number of the next record, and the number of control
-- records before it
pub record Place : Type 0 where
  pub state : State
  pub number : ℕ
  pub serial : ℕ

abbrev pub first_place : Config → Place
first_place config = record { state = opening config; number = 1; serial = 0 }

abbrev pub block : Place → Record → List ℕ
block at (Control lane event) =
    control_block at.number 1 at.serial (turn at.state event).outcome (turn at.state event).sent
block at (Data port octets) = data_block at.number at.serial (decide at.state port octets) octets

abbrev pub next_place : Place → Record → Place
next_place at (Control lane event) =
    record { state = (turn at.state event).state; number = at.number + 1; serial = at.serial + 1 }
next_place at (Data port octets) = record at { number = at.number + 1 }

abbrev pub blocks : Place → List Record → List ℕ
blocks at [] = []
blocks at (r ∷ rest) = block at r ++ blocks (next_place at r) rest

abbrev pub place_after : Place → List Record → Place
place_after at [] = at
place_after at (r ∷ rest) = place_after (next_place at r) rest

-- the output of a run on one thread: each control record has lane 1 and as its serial the number of
-- control records before it, each data record has that number as its front
abbrev pub plain : Config → List (List Record) → List ℕ
plain config phases = blocks (first_place config) (flat_map (λ phase. phase) phases)

-- the output of a run on one thread, and no other text
abbrev pub IsPlain : Config → List (List Record) → List ℕ → Type 0
IsPlain config phases text = text ≡ plain config phases

-- ---- numbers of records

-- how many of these are control records
abbrev pub controls_in : List Record → ℕ
controls_in [] = 0
controls_in (Control lane event ∷ rest) = controls_in rest + 1
controls_in (Data port octets ∷ rest) = controls_in rest

-- the records of all phases
abbrev pub records_of : List (List Record) → List Record
records_of phases = flat_map (λ phase. phase) phases

-- `ok RECORDS CONTROLS`: the number of records, and that of control records among them
abbrev pub counts_text : List (List Record) → List ℕ
counts_text phases =
    concat (
    codes "ok " ∷ decimal (length (records_of phases)) ∷ codes " "
    ∷ decimal (controls_in (records_of phases)) ∷ line_feed ∷ []
    )

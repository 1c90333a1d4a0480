-- What is printed for records.
use Rattle.std.specs.Prelude.{ℕ, ◌+◌, List, [], ◌∷◌, ◌++◌, map}
use Rattle.switch_event.specs.Config.{Config}
use Rattle.switch_event.specs.declared.decision.Decision.{Decision as Decided}
use Rattle.switch_event.specs.declared.decision.Decision.TheVariants.{Forward, Drop}
use Rattle.event_record.specs.Entry.{Entry}
use Rattle.trace_defs.specs.Output.{control_block, data_block}
use Rattle.switch_defs.specs.Turn.{turn}
use Rattle.switch_defs.specs.Decide.{decide}
use Rattle.switch_defs.specs.History.{after}
use Rattle.legal_defs.specs.Runs.{ControlRecord, DataRecord, Numbered, Place, place}
use Rattle.legal_defs.specs.Runs.Numbered.{Control, Data}

-- The block of a record; the number that it shows beside the record's own, which is how many
-- control events the history has before what is printed: the serial of a control record, the front
-- of a data record; and how many frames it says are forwarded, none or one.
pub record Shown : Type 0 where
  pub count : ℕ
  pub text : List ℕ
  pub forwards : ℕ

pub data Line : Type 0 where
  Reply : ControlRecord → Shown → Line
  Decision : DataRecord → Shown → Line

-- a line, and the number of the phase that it was printed in
pub record Block : Type 0 where
  pub phase : ℕ
  pub line : Line

abbrev pub block : ℕ → Line → Block
block phase line = record { phase = phase; line = line }

-- the record that a line was printed for
abbrev pub record_of : Line → Numbered
record_of (Reply e s) = Control e
record_of (Decision x s) = Data x

abbrev pub place_of : Block → Place
place_of b = place b.phase (record_of b.line)

abbrev pub shown_in : Line → Shown
shown_in (Reply e s) = s
shown_in (Decision x s) = s

abbrev pub lines_of : List Block → List Line
lines_of blocks = map (λ (b : Block). b.line) blocks

-- one block after another
abbrev pub text_of : List Line → List ℕ
text_of [] = []
text_of (l ∷ ls) = (shown_in l).text ++ text_of ls

-- what was shown of control records
abbrev pub said_of : Line → List Shown
said_of (Reply e s) = s ∷ []
said_of (Decision x s) = []

abbrev pub said_in : List Line → List Shown
said_in [] = []
said_in (l ∷ ls) = said_of l ++ said_in ls

-- how many frames the lines say are forwarded
abbrev pub forwarded_in : List Line → ℕ
forwarded_in [] = 0
forwarded_in (l ∷ ls) = (shown_in l).forwards + forwarded_in ls

-- 1 where a frame is forwarded
abbrev pub forwards_one : Decided → ℕ
forwards_one (Forward session vlan) = 1
forwards_one (Drop line) = 0

-- a control record as an entry of the history of a lane
abbrev pub entry_on : ℕ → ControlRecord → Entry
entry_on lane e = record { lane = lane; event = e.event }

-- the block of a control record that runs on a lane after a history: its outcome and what is sent
-- are the authenticator's
abbrev pub reply_text : Config → List Entry → (lane : ℕ) → ControlRecord → (serial : ℕ)
    → List ℕ
reply_text c h lane e serial =
    control_block e.number lane serial (turn (after c h) e.event).outcome
    (turn (after c h) e.event).sent

-- what is decided on a data record after a history: what the state then authorises
abbrev pub decided_after : Config → List Entry → DataRecord → Decided
decided_after c h x = decide (after c h) x.port x.octets

-- and its block
abbrev pub decision_text : Config → List Entry → DataRecord → (front : ℕ) → List ℕ
decision_text c h x front = data_block x.number front (decided_after c h x) x.octets

-- What runs the phases of a trace may be given, and what it gives.
use Rattle.std.specs.Prelude.{◌≡◌, ℕ, ◌+◌, ◌<◌, ◌≤◌, ◌^◌, List, [], ◌∷◌, ◌++◌, length}
use Rattle.std.specs.List.{AllByRecursion}
use Rattle.switch_event.specs.Config.{Config}
use Rattle.event_record.specs.declared.TheConstants.{MOST_EVENTS}
use Rattle.trace_defs.specs.Line.{Record}
use Rattle.trace_defs.specs.Line.Record.{Control, Data}
use Rattle.authenticator.specs.Meaning.{IsEvent}
use Rattle.history_defs.specs.Output.{controls_in, records_of}

-- what holds of phases under settings, and of the text that was given for them
abbrev pub Phased : Type 1
Phased = Config → List (List Record) → List ℕ → Type 0

-- a control record is an event that may come
abbrev pub MayCome : Config → Record → Type 0
MayCome config (Control lane event) = IsEvent config event
MayCome config (Data port octets) = Unit {0}

-- after these phases these records may be run: there is room for them, and each may come
pub record MayRun (config : Config) (phases : List (List Record)) (rs : List Record) : Type 0 where
  pub few : length (records_of phases) + length rs < 2 ^ 63
  pub controls : controls_in (records_of phases) + controls_in rs ≤ MOST_EVENTS
  pub events : AllByRecursion (MayCome config) rs

-- the records were run as one more phase, and its text was added: this stands now, and this was given
abbrev pub RanPhase : Phased → Phased → Config → List (List Record) → List Record → List ℕ
    → List ℕ → List ℕ → Type 0
RanPhase stands gave config phases rs was text after =
    (more : List ℕ) × (after ≡ text ++ more) × stands config (phases ++ rs ∷ []) (was ++ more)
    × gave config (phases ++ rs ∷ []) (was ++ more)

-- for no phases nothing is given
abbrev pub IsGiven : Phased → Phased
IsGiven gave config [] text = text ≡ []
IsGiven gave config (phase ∷ phases) text = gave config (phase ∷ phases) text

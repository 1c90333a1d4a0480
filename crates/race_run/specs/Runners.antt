-- What the runners of one thread have given, and what counts.
use Rattle.std.specs.Prelude.{◌≡◌, ℕ, List, [], length, MatchOption}
use Rattle.switch_event.specs.Config.{Config}
use Rattle.switch_defs.specs.Switch.{State}
use Rattle.trace_defs.specs.Line.{Record}
use Rattle.history_defs.specs.Output.{IsPlain, controls_in, first_place, place_after, records_of}
use Rattle.sequential.specs.declared.sequential.Sequential.{Sequential}
use Rattle.sequential.specs.Records.{Stands}
use Rattle.race_run.specs.declared.counter.Counter.{Counter}
use Rattle.race_run.specs.declared.one_thread.OneThread.{OneThread}

-- the phases were run, and the text is their output on one thread
pub record HasRun {A : Type 0} (stands : A → State → Type 0) (made : A → ℕ) (config : Config)
    (phases : List (List Record)) (text : List ℕ) (s : Sequential A) : Type 0 where
  pub place : Stands stands made s (place_after (first_place config) (records_of phases))
  pub output : IsPlain config phases text

-- one thread was opened, and has run the phases
abbrev pub HasRunAlone : {A : Type 0} → (A → State → Type 0) → (A → ℕ) → OneThread A → Config
    → List (List Record) → List ℕ → Type 0
HasRunAlone stands made one config phases text =
    MatchOption one.alone ⊥ (HasRun stands made config phases text)

-- nothing is given
abbrev pub IsSilent : Config → List (List Record) → List ℕ → Type 0
IsSilent config phases text = text ≡ []

-- the records of the phases were counted, and nothing was given
pub record HasCounted (s : Counter) (config : Config) (phases : List (List Record))
    (text : List ℕ) : Type 0 where
  pub records : s.records ≡ length (records_of phases)
  pub controls : s.controls ≡ controls_in (records_of phases)
  pub silent : text ≡ []

-- What a trace is told: at each control event the outcome and what is sent, at each data frame the decision.
use Rattle.std.specs.Prelude.{ℕ, ◌+◌, ◌*◌, ◌-◌, nat_le, if◌then◌else◌, List, [], ◌∷◌}
use Rattle.switch_event.specs.Event.{Happening}
use Rattle.switch_event.specs.declared.event.Outcome.{Outcome}
use Rattle.switch_event.specs.declared.decision.Decision.{Decision}
use Rattle.switch_event.specs.Sent.{Sent}
use Rattle.switch_defs.specs.Switch.{State}
use Rattle.switch_defs.specs.Turn.{turn}
use Rattle.switch_defs.specs.Decide.{decide}

-- a control event, or a data frame on a port
pub data Step : Type 0 where
  control : Happening → Step
  data_ : (port : ℕ) → (octets : List ℕ) → Step

pub data Said : Type 0 where
  turned : Outcome → List Sent → Said
  decided : Decision → Said

abbrev pub told : State → List Step → List Said
told s [] = []
told s (control e ∷ steps) = turned (turn s e).outcome (turn s e).sent ∷ told (turn s e).state steps
told s (data_ port octets ∷ steps) = decided (decide s port octets) ∷ told s steps

-- octets written in hexadecimal, two lower-case digits each
abbrev pub digit : ℕ → ℕ
digit code = if nat_le 97 code then code - 87 else code - 48

abbrev pub octets : List ℕ → List ℕ
octets [] = []
octets (high ∷ []) = []
octets (high ∷ low ∷ rest) = (16 * digit high + digit low) ∷ octets rest

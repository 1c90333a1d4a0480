-- What is kept of a session, and the standings of the definitions that it is kept of.
use Rattle.std.specs.Prelude.{◌≡◌, ℕ, List, Option}
use Rattle.std.specs.Option.{option_map}
use Rattle.arrayvec.specs.ArrayVec.{ArrayVec}
use Rattle.typed_session.specs.Stands.{Stands}
use Rattle.switch_defs.specs.Switch.{Standing}
use Rattle.switch_defs.specs.Decide.{Right}
use Rattle.host_session.specs.declared.session.Session.{Session}

-- a State that may be there (RFC 2865, section 5.24)
abbrev pub state_in : Option (ArrayVec ℕ) → Option (List ℕ)
state_in state = option_map (λ (s : ArrayVec ℕ). s.items) state

-- a session is kept as it stands
pub record SitsAs (k : Session) (x : Standing) : Type 0 where
  pub stands : Stands k.host x.vars
  pub vlan : k.vlan ≡ x.vlan
  pub state : state_in k.state ≡ x.state
  pub end_while : k.end_while ≡ x.end_while
  pub restricted : k.restricted ≡ x.restricted

-- a number and a VLAN as a right
abbrev pub right_in : Option (ℕ × ℕ) → Option Right
right_in right = option_map (λ (r : ℕ × ℕ). record { session = r.0; vlan = r.1 }) right

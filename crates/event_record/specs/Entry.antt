-- An entry of a history.
use Rattle.std.specs.Prelude.{ℕ}
use Rattle.switch_event.specs.Event.{Happening, happening}
use Rattle.switch_event.specs.declared.event.Event.{Event}

-- a control event, and the lane that it came on
pub record Entry : Type 0 where
  pub lane : ℕ
  pub event : Happening

abbrev pub entry_of : ℕ → Event → Entry
entry_of lane e = record { lane = lane; event = happening e }

-- A state inside a second.
use Rattle.std.specs.Prelude.{◌≡◌, ℕ, ◌+◌, ◌<◌, ◌^◌, false, List}
use Rattle.std.specs.List.{AllByRecursion}
use Rattle.out_tray.specs.Tray.{Things}
use Rattle.switch_defs.specs.Switch.{Session, State, hosts}
use Rattle.switch_defs.specs.Turn.{second_of}
use Rattle.switch_defs.specs.Sound.{confs}
use Rattle.switch_defs.specs.Laws.{IsBetween}
use Rattle.switch_defs.specs.Fitting.{AreVlans}
use Rattle.table_defs.specs.Told.{AreRestricted, HasConf}
use Rattle.turn_defs.specs.Walks.{is_over}
use Rattle.table_defs.specs.declared.change.Item.{Item}
use Rattle.control_core.specs.declared.state.Core.{Core}
use Rattle.control_core.specs.Does.{Does}

-- so many sessions of it may have their second: all are at rest, on ports that are configured, with VLANs that are such, and so many
-- authenticators more can be counted
pub record MayPass (more : ℕ) (s : State) : Type 0 where
  pub between : IsBetween s
  pub configured : AllByRecursion (λ h. HasConf (confs s.ports) h.port) (hosts s)
  pub restricted : AreRestricted (confs s.ports)
  pub vlans : AreVlans s.sessions
  pub asked : s.asked + more < 2 ^ 64

-- a second was done to a session, which goes on, and nothing was sent or is to be told
pub record PassesIdly (y : Session) (s : State) (core : Core) : Type 0 where
  pub does : (tray : Things) (items : List Item) → Does s (second_of y s) core tray tray items items
  pub goes_on : is_over y s ≡ false

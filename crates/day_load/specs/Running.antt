-- How far a day has come.
use Rattle.std.specs.Prelude.{◌≡◌, ◌+◌, ◌≤◌, ℕ, List, [], ◌∷◌, length}
use Rattle.switch_defs.specs.Switch.{State}
use Rattle.history_defs.specs.Output.{controls_in, records_of}
use Rattle.race_lanes.specs.Raced.{RacedBy}
use Rattle.day_defs.specs.declared.Phase.{Phase}
use Rattle.day_defs.specs.Office.{settings}
use Rattle.day_defs.specs.Day.{Day, dawn, acts_of, after_acts, recorded_phases}
use Rattle.day_maker.specs.Making as making
use Rattle.day_load.specs.declared.TheConstants.{LANES, WORKERS}
use Rattle.day_load.specs.Summary.{frames_in}
use Rattle.day_load.specs.declared.day_run.DayRun.{DayRun}

-- the day after some phases with so many hosts
abbrev pub after_phases : (hosts : ℕ) → Day → List Phase → Day
after_phases n d [] = d
after_phases n d (which ∷ rest) = after_phases n (after_acts d (acts_of n which)) rest

-- how much is done in some phases
abbrev pub spent : (hosts : ℕ) → List Phase → ℕ
spent n [] = 0
spent n (which ∷ rest) = length (acts_of n which) + spent n rest

-- these phases of a day with so many hosts were made, and were run
pub record Stands {A : Type 0} (stands : A → State → Type 0) (made : A → ℕ) (r : DayRun A) (hosts : ℕ) (done : List Phase) : Type 0 where
  pub hosts_are : r.maker.hosts ≡ hosts
  pub maker_stands : making.Stands stands r.maker (after_phases hosts dawn done)
  pub turns : made r.maker.core ≤ spent hosts done
  pub text : List ℕ
  pub raced : RacedBy LANES WORKERS r.race settings (recorded_phases hosts dawn done) text
  pub controls : r.controls ≡ controls_in (records_of (recorded_phases hosts dawn done))
  pub frames : r.frames ≡ frames_in (records_of (recorded_phases hosts dawn done))

-- How reading the settings of a server ends.
use Rattle.std.specs.Prelude.{◌≡◌, ◌⊎◌, ⊤, ℕ, ◌+◌, true, false, List, [], ◌∷◌, ◌++◌, Option, None, Some, Result, Ok, Err}
use Rattle.std.specs.Io.KnownBytes.{Consumes, IsAtEnd}
use Rattle.switch_event.specs.Config.{Config, empty}
use Rattle.trace_defs.specs.Reading.{HasRead, ended_reading}
use Rattle.trace_defs.specs.Trace.{Progress, after_line, progress_of, reason_of}
use Rattle.trace_defs.specs.Trace.Reading.{Going}
use Rattle.serve_defs.specs.Settings.{settings_of, settings_fate}
use Rattle.settings_reader.specs.declared.settings_err.SettingsErr.{SettingsErr}
use Rattle.settings_reader.specs.declared.settings_err.SettingsErr.TheVariants.{NoMemory, Refused, ReadFault, TooLong}

-- the octets end with the line that ends the settings, and this stands behind the line
pub record EndsSettings (given feed : List ℕ) (q : Progress) : Type 0 where
  pub before : List ℕ
  pub line : List ℕ
  pub p : Progress
  pub split : given ≡ before ++ feed
  pub read : HasRead 0 empty before p line
  pub unbegun : p.begun ≡ false
  pub next : after_line 0 p line ≡ Ok q
  pub begun : q.begun ≡ true

-- the text gives these settings
pub record GivesSettings (limit : ℕ) (text : List ℕ) (config : Config) : Type 0 where
  pub fated : settings_fate limit text ≡ 0
  pub settings : (progress_of (settings_of limit text)).config ≡ config

-- no octet was taken behind the line that ends the settings, which gives these settings
pub record IsJustRead (given : List ℕ) (left : Option (List ℕ)) (config : Config) : Type 0 where
  pub q : Progress
  pub settings : q.config ≡ config
  pub place : EndsSettings given (10 ∷ []) q ⊎ (IsAtEnd left × EndsSettings given [] q)

-- this line of the text is refused, for this reason
pub record RefusesSettings (limit : ℕ) (text : List ℕ) (line why : ℕ) : Type 0 where
  pub fated : settings_fate limit text ≡ 3
  pub line_is : line ≡ (progress_of (settings_of limit text)).lines + 1
  pub why_is : why ≡ reason_of (settings_of limit text)

-- the settings did not end in these octets
pub record IsUnsettled (given : List ℕ) : Type 0 where
  pub p : Progress
  pub lines : ended_reading 0 empty given ≡ Going p
  pub unbegun : p.begun ≡ false

-- by the octets that were taken and those that follow them
abbrev pub EndsAfter : ℕ → (given rest : List ℕ) → Option (List ℕ) → Result Config SettingsErr → Type 0
EndsAfter limit given rest left (Ok config) =
    GivesSettings limit (given ++ rest) config × IsJustRead given left config
EndsAfter limit given rest left (Err (Refused line why)) =
    RefusesSettings limit (given ++ rest) line why
EndsAfter limit given rest left (Err TooLong) = settings_fate limit (given ++ rest) ≡ 8
EndsAfter limit given rest left (Err ReadFault) = IsUnsettled given
EndsAfter limit given rest left (Err NoMemory) = ⊤

-- these octets are left, where that is told
abbrev pub Leaves : Option (List ℕ) → List ℕ → Type 0
Leaves None rest = ⊤
Leaves (Some left) rest = left ≡ rest

-- how the reading ends, by what the source had left and has left: where it tells nothing, by some text
pub record SettingsEnd (limit : ℕ) (left left_new : Option (List ℕ))
    (result : Result Config SettingsErr) : Type 0 where
  pub given : List ℕ
  pub rest : List ℕ
  pub taken : Consumes left left_new given
  pub follows : Leaves left_new rest
  pub ends : EndsAfter limit given rest left_new result

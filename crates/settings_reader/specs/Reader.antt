-- How far a reader of settings is.
use Rattle.std.specs.Prelude.{◌≡◌, ⊤, ℕ, ◌+◌, Bool, true, false, List, [], ◌∷◌, ◌++◌, Option, Result, Ok, Err}
use Rattle.switch_event.specs.Config.{Config, empty, are_ports}
use Rattle.trace_defs.specs.Alike.{ReadAlike, all_lines}
use Rattle.trace_defs.specs.Reading.{HasRead}
use Rattle.trace_defs.specs.Trace.{Progress, Reading, after_line, progress_of, reason_of, start}
use Rattle.trace_defs.specs.Trace.Stop.{Refused as IsRefused}
use Rattle.serve_defs.specs.Settings.{settle, settings_fate_of}
use Rattle.settings_reader.specs.declared.reader.Reader.{Reader}
use Rattle.settings_reader.specs.declared.settings_err.SettingsErr.{SettingsErr}
use Rattle.settings_reader.specs.declared.settings_err.SettingsErr.TheVariants.{NoMemory, Refused}
use Rattle.settings_reader.specs.Settings.{EndsSettings, SettingsEnd}

-- what holds of every reader: no port is configured twice, and each is in range
abbrev pub IsSound : Reader → Type 0
IsSound reader = are_ports reader.config.ports ≡ true

-- a reader was given these octets, which have not ended the settings
pub record IsAt (reader : Reader) (given : List ℕ) : Type 0 where
  pub p : Progress
  pub part : List ℕ
  pub config : reader.config ≡ p.config
  pub noted : reader.given ≡ p.given
  pub lines : reader.lines ≡ p.lines
  pub unbegun : p.begun ≡ false
  pub kept : ReadAlike reader.line.text part
  pub read : HasRead 0 empty given p part

-- a line leads to this progress
pub record Leads (p : Progress) (line : List ℕ) (new : Reader) (ends : Bool) : Type 0 where
  pub q : Progress
  pub next : after_line 0 p line ≡ Ok q
  pub begun : q.begun ≡ ends
  pub config : new.config ≡ q.config
  pub noted : new.given ≡ q.given
  pub lines : new.lines ≡ q.lines

-- a line is refused
pub record Stops (given : List ℕ) (line why : ℕ) : Type 0 where
  pub p : Progress
  pub part : List ℕ
  pub unbegun : p.begun ≡ false
  pub read : HasRead 0 empty given p part
  pub next : after_line 0 p part ≡ Err (IsRefused why)
  pub line_is : line ≡ p.lines + 1

-- the open line was taken
abbrev pub TakesLine : (old new : Reader) → Result Bool SettingsErr → Type 0
TakesLine old new (Ok ends) =
    (given : List ℕ) → (at : IsAt old given) → Leads at.p at.part new ends
TakesLine old new (Err (Refused line why)) = (given : List ℕ) → IsAt old given → Stops given line why
TakesLine old new (Err NoMemory) = ⊤
TakesLine old new (Err e) = ⊥

-- the settings ended with the octets
pub record IsSettled (given feed : List ℕ) (reader : Reader) : Type 0 where
  pub q : Progress
  pub ends : EndsSettings given feed q
  pub config : reader.config ≡ q.config

-- an octet was taken
abbrev pub TakesOctet : (octet : ℕ) → (old new : Reader) → Result Bool SettingsErr → Type 0
TakesOctet octet old new (Ok false) = (given : List ℕ) → IsAt old given → IsAt new (given ++ octet ∷ [])
TakesOctet octet old new (Ok true) =
    (given : List ℕ) → IsAt old given → IsSettled (given ++ octet ∷ []) (10 ∷ []) new
TakesOctet octet old new (Err (Refused line why)) =
    (octet ≡ 10) × ((given : List ℕ) → IsAt old given → Stops given line why)
TakesOctet octet old new (Err NoMemory) = ⊤
TakesOctet octet old new (Err e) = ⊥

-- how the lines of a text are read where no more octets follow
abbrev pub settled_at_end : List ℕ → Reading
settled_at_end given = settle (start empty) (all_lines given)

-- a line is refused, or another one is missing, where the text ends here
pub record EndsRefused (given : List ℕ) (line why : ℕ) : Type 0 where
  pub fated : settings_fate_of true (settled_at_end given) ≡ 3
  pub line_is : line ≡ (progress_of (settled_at_end given)).lines + 1
  pub why_is : why ≡ reason_of (settled_at_end given)

-- the text ends here: its last line ends the settings, or is refused, or another one is missing behind it
abbrev pub EndsText : (old new : Reader) → Result ⊤ SettingsErr → Type 0
EndsText old new (Ok done) = (given : List ℕ) → IsAt old given → IsSettled given [] new
EndsText old new (Err (Refused line why)) = (given : List ℕ) → IsAt old given → EndsRefused given line why
EndsText old new (Err NoMemory) = ⊤
EndsText old new (Err e) = ⊥

-- how the reader of a source ends, where it holds these settings then
abbrev pub IsTaken : ℕ → (left left_new : Option (List ℕ)) → Config → Result ⊤ SettingsErr
    → Type 0
IsTaken limit left left_new config (Ok done) = SettingsEnd limit left left_new (Ok config)
IsTaken limit left left_new config (Err e) = SettingsEnd limit left left_new (Err e)

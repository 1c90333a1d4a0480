-- What a line makes of settings that were read.
use Rattle.std.proofs.Common.{◌≡◌, ℕ, Bool, true, false, List, Ok, subst, sym, ap, ◌∙◌}
use Rattle.std.proofs.lemmas.Bool.{and_parts}
use Rattle.switch_event.specs.Config.{Config, is_valid, are_ports}
use Rattle.trace_defs.specs.Line.{line_of}
use Rattle.switch_event.specs.Event.{Happening, Frame, Radius, Dynamic, Second, Link, SetControl}
use Rattle.authenticator.specs.Meaning.{IsEvent}
use Rattle.trace_defs.specs.Line.Line.{Begin, Setting, Entry}
use Rattle.trace_defs.specs.Line.Record.{Control}
use Rattle.trace_defs.proofs.LineFacts.{Gives, Gives-at, IsAfter, line_of-after}
use Rattle.trace_defs.specs.Records.{IsEvent as IsWritten}
use Rattle.trace_defs.proofs.SettingFacts.{IsBefore, IsRead-valid}
use Rattle.trace_defs.specs.Settings.{IsRead}
use Rattle.trace_defs.proofs.SettingLines.{line_of-before}

-- their ports are few and in range
pub IsRead-ports : (config : Config) (given : ℕ) → IsRead config given → are_ports config.ports ≡ true
IsRead-ports config given h = (and_parts _ _ h.ports).0

-- a setting makes others of them
pub IsRead-setting : (config new : Config) (given after : ℕ) (begun : Bool) (line : List ℕ) → IsRead config given → begun ≡ false
    → line_of config given begun line ≡ Ok (Setting new after) → IsRead new after
IsRead-setting config new given after begun line h before e =
    subst (Gives (IsBefore given)) (ap (λ b. line_of config given b line) (sym before) ∙ e) (line_of-before config given h line)

-- they are valid at the word that ends them
pub IsRead-begin : (config : Config) (given : ℕ) (begun : Bool) (line : List ℕ) → IsRead config given → begun ≡ false
    → line_of config given begun line ≡ Ok Begin → is_valid config ≡ true
IsRead-begin config given begun line h before e =
    IsRead-valid config given h (subst (Gives (IsBefore given)) (ap (λ b. line_of config given b line) (sym before) ∙ e) (line_of-before config given h line))

of_line : (config : Config) (event : Happening) → IsWritten config event → IsEvent config event
of_line config (Frame port octets) h = (h.0.known, h.2)
of_line config (Radius socket octets) h = h.0
of_line config (Dynamic from octets) h = tt
of_line config Second h = tt
of_line config (Link port up) h = h.known
of_line config (SetControl port control) h = h.known

-- a control record that was read is an event that may come
pub reads_event : (config : Config) (given : ℕ) (begun : Bool) (line : List ℕ) (lane : ℕ) (event : Happening) → begun ≡ true
    → line_of config given begun line ≡ Ok (Entry (Control lane event)) → IsEvent config event
reads_event config given begun line lane event after e =
    of_line config event (Gives-at (IsAfter config) (line_of config given true line) (Entry (Control lane event)) (line_of-after config given line)
    (ap (λ b. line_of config given b line) (sym after) ∙ e)).2

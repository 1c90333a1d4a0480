-- The settings that a server is given: the lines of a text up to the one that ends the settings. What
-- stands behind that line does not count.
use Rattle.std.specs.Prelude.{ℕ, nat_le, Bool, if◌then◌else◌, List, [], ◌∷◌, length}
use Rattle.switch_event.specs.Config.{empty}
use Rattle.trace_defs.specs.Trace.{Progress, Reading, start, after_line, go_on, counted_lines}
use Rattle.trace_defs.specs.Trace.Reading.{Going, Stopped}

-- lines are read up to the one that ends the settings
abbrev pub settle : Progress → List (List ℕ) → Reading
settle p [] = Going p
settle p (line ∷ lines) =
    if p.begun then Going p else go_on p (after_line 0 p line) (λ q. settle q lines)

-- the settings of a text, of which so many octets count
abbrev pub settings_of : (limit : ℕ) → List ℕ → Reading
settings_of limit text = settle (start empty) (counted_lines limit text)

abbrev pub settings_fate_of : (fits : Bool) → Reading → ℕ
settings_fate_of fits (Stopped p stop) = 3
settings_fate_of fits (Going p) = if p.begun then 0 else if fits then 3 else 8

-- the status of a server by the text of its settings: 0, 3 for a refused line or a text that does not
-- end its settings, 8 for too many octets before it does
abbrev pub settings_fate : (limit : ℕ) → List ℕ → ℕ
settings_fate limit text =
    settings_fate_of (nat_le (length text) limit) (settings_of limit text)

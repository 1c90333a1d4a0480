-- What is known of a trace of which these octets were given so far.
use Rattle.std.specs.Prelude.{◌≡◌, ℕ, List}
use Rattle.wire_defs.specs.Text.{ended_lines, open_line}
use Rattle.switch_event.specs.Config.{Config}
use Rattle.trace_defs.specs.Trace.{Progress, Reading, read_lines, start}
use Rattle.trace_defs.specs.Trace.Reading.{Going}

-- the lines that ended in the octets lead to this progress, and this is what follows them
pub record HasRead (room : ℕ) (config : Config) (given : List ℕ) (p : Progress)
    (part : List ℕ) : Type 0 where
  pub lines : read_lines room (start config) (ended_lines given) ≡ Going p
  pub line : open_line given ≡ part

-- the reading of the lines that ended in the octets
abbrev pub ended_reading : ℕ → Config → List ℕ → Reading
ended_reading room config given = read_lines room (start config) (ended_lines given)

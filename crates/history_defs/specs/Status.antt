-- What is said of a status.
use Rattle.std.specs.Prelude.{ℕ, ◌==◌, if◌then◌else◌, List, [], ◌∷◌, ◌++◌, codes}
use Rattle.std.specs.List.{concat}
use Rattle.std.specs.Fmt.{decimal}
use Rattle.trace_defs.specs.Reason.{reason_name}
use Rattle.trace_defs.specs.Output.{line_feed}
use Rattle.event_record.specs.declared.TheConstants.{MOST_EVENTS}
use Rattle.history_defs.specs.declared.TheConstants.{MOST_OCTETS}

-- of 0 nothing, of 3 what `refusal_text` has, of any other its name, with the limit that was passed
abbrev pub status_text : ℕ → List ℕ
status_text status =
    if status == 1 then codes "out of memory" ++ line_feed
    else if status == 2 then codes "usage" ++ line_feed
    else if status == 4 then codes "read fault" ++ line_feed
    else if status == 5 then codes "write fault" ++ line_feed
    else if status == 6 then concat (codes "full: " ∷ decimal MOST_EVENTS ∷ line_feed ∷ [])
    else if status == 7 then codes "link fault" ++ line_feed
    else if status == 8 then concat (codes "too long: " ∷ decimal MOST_OCTETS ∷ line_feed ∷ [])
    else []

-- `line N: NAME`
abbrev pub refusal_text : (line reason : ℕ) → List ℕ
refusal_text line reason =
    concat (codes "line " ∷ decimal line ∷ codes ": " ∷ reason_name reason ∷ line_feed ∷ [])

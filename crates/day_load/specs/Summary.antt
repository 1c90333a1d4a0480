-- What a day came to, and how it is told.
use Rattle.std.specs.Prelude.{◌≡◌, ◌+◌, ℕ, List, [], ◌∷◌, length, codes}
use Rattle.std.specs.List.{concat}
use Rattle.std.specs.Fmt.{decimal}
use Rattle.event_record.specs.Entry.{Entry}
use Rattle.trace_defs.specs.Line.{Record}
use Rattle.trace_defs.specs.Line.Record.{Control, Data}
use Rattle.trace_defs.specs.Output.{line_feed}
use Rattle.history_defs.specs.Output.{controls_in, records_of}
use Rattle.switch_defs.specs.History.{after}
use Rattle.legal_defs.specs.Legal.{LegalBy}
use Rattle.day_defs.specs.Office.{settings}
use Rattle.day_load.specs.declared.TheConstants.{LANES, WORKERS}
use Rattle.day_load.specs.declared.summary.Summary.{Summary}

-- how many of these are data records
abbrev pub frames_in : List Record → ℕ
frames_in [] = 0
frames_in (Control lane event ∷ rest) = frames_in rest
frames_in (Data port octets ∷ rest) = frames_in rest + 1

-- The numbers of the control records and of the data records of these phases; those of the frames that a legal run of them says are
-- forwarded, and of the sessions after its history. The run is of the office's switch, on one lane and four workers.
pub record Sums (phases : List (List Record)) (s : Summary) : Type 0 where
  pub controls : s.controls ≡ controls_in (records_of phases)
  pub frames : s.frames ≡ frames_in (records_of phases)
  pub text : List ℕ
  pub history : List Entry
  pub legal : LegalBy settings LANES WORKERS phases text history s.forwarded
  pub sessions : s.sessions ≡ length (after settings history).sessions

-- `load HOSTS controls CONTROLS data FRAMES forwarded FORWARDED sessions SESSIONS`
abbrev pub summary_text : (hosts : ℕ) → Summary → List ℕ
summary_text hosts s =
    concat (
    codes "load " ∷ decimal hosts ∷ codes " controls " ∷ decimal s.controls ∷ codes " data " ∷ decimal s.frames
    ∷ codes " forwarded " ∷ decimal s.forwarded ∷ codes " sessions " ∷ decimal s.sessions ∷ line_feed ∷ []
    )

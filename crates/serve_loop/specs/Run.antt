-- What a server stands for, what the outside does in a step, and how a step ends a run.
use Rattle.std.specs.Prelude.{◌≡◌, ◌⊎◌, ◌<◌, ◌≤◌, ◌++◌, ◌∷◌, [], ⊤, ℕ, true, false, List, length, take, Option, Some, None, Result, Ok, Err}
use Rattle.std.specs.Io.KnownBytes.{Appends, Keeps}
use Rattle.wire_defs.specs.Outside.{Rose}
use Rattle.switch_event.specs.Config.{Config, are_ports}
use Rattle.switch_event.specs.Sent.{Sent}
use Rattle.switch_defs.specs.Switch.{State}
use Rattle.trace_defs.specs.Records.{AreRecords}
use Rattle.trace_defs.specs.Line.{Record}
use Rattle.history_defs.specs.Output.{Place, block, first_place, next_place, place_after}
use Rattle.outside_link.specs.Link.{Incoming, Outgoing, Grows, Same}
use Rattle.sequential.specs.Records.{Stands}
use Rattle.serve_defs.specs.Laws.{AreSettings, ReadsBack}
use Rattle.serve_defs.specs.Log.{log, logged}
use Rattle.serve_defs.specs.Served.{Arrival, Outer, Step, entries_of, answer, comes, outer_after, ends_run, arrivals_of}
use Rattle.serve_defs.specs.Served.Answered.{Goes, Ends}
use Rattle.serve_defs.specs.Posted.{all_homes, posted_for, sent_at}
use Rattle.serve_loop.specs.declared.ending.Ending.{Ending}
use Rattle.serve_loop.specs.declared.ending.Ending.TheVariants.{Done, NoMemory, WriteFault, Full, LinkFault}
use Rattle.serve_loop.specs.declared.server.Server.{Server}
use Rattle.serve_loop.specs.declared.arrived.Entry.{Entry}
use Rattle.serve_loop.specs.declared.arrived.Entry.TheVariants.{Event, Data}
use Rattle.serve_loop.specs.Arrived.{entry_of, is_control_record}
use Rattle.serve_loop.specs.Homes.{AreHomes}
use Rattle.serve_loop.specs.Post.{SendsFirst}

-- where the output is after what came
abbrev pub place_of : Config → List Arrival → Place
place_of c came = place_after (first_place c) (entries_of came)

-- A server took what came: since the origin the sink has taken the log of it, and since the first
-- the link has sent what belongs to it. Lines can write its settings and all that came.
pub record IsAt {A : Type 0} (stands : A → State → Type 0) (made : A → ℕ)
    (origin taken : Option (List ℕ)) (first sent : Option (List Outgoing))
    (server : Server A) (came : List Arrival) : Type 0 where
  pub standing : Stands stands made server.core (place_of server.config came)
  pub homes : AreHomes server.homes.table (all_homes [] came)
  pub settings : AreSettings server.config
  pub records : AreRecords server.config (entries_of came)
  pub written : Appends origin taken (log server.config (entries_of came))
  pub posted : Grows first sent (posted_for server.config came)

-- what holds of every server: it runs at some place under its settings, with no more control records
-- than there is room for
pub record IsSound {A : Type 0} (stands : A → State → Type 0) (made : A → ℕ) (room : ℕ)
    (server : Server A) : Type 0 where
  pub at : Place
  pub standing : Stands stands made server.core at
  pub settings : at.state.config ≡ server.config
  pub few : at.serial ≤ room
  pub ports : are_ports server.config.ports ≡ true

-- ---- the outside, where clock and link tell

abbrev pub outer_of : (clock : ℕ) → Option (List ℕ) → Option (List (List Incoming)) → Option Outer
outer_of clock None waits = None
outer_of clock (Some moments) None = None
outer_of clock (Some moments) (Some waits) =
    Some (record { clock = clock; moments = moments; waits = waits })

-- a step was done, and this came
abbrev pub Moves : Config → Option Outer → Step → Option Outer → List Arrival → Type 0
Moves c None step after came = ⊤
Moves c (Some before) step None came = ⊥
Moves c (Some before) step (Some after) came = answer c before step ≡ Goes after came

-- a step ended the run
abbrev pub Closes : Config → Option Outer → Step → Option Outer → Type 0
Closes c None step after = ⊤
Closes c (Some before) step None = ⊥
Closes c (Some before) step (Some after) = answer c before step ≡ Ends after

-- these steps were done, and this came in them
abbrev pub Passes : Config → Outer → List Step → Outer → List Arrival → Type 0
Passes c before steps after came = (rest : List Step) →
    (comes c before (steps ++ rest) ≡ came ++ comes c after rest)
    × (outer_after c before (steps ++ rest) ≡ outer_after c after rest)

abbrev pub Passed : Config → Option Outer → List Step → Option Outer → List Arrival → Type 0
Passed c None steps after came = ⊤
Passed c (Some before) steps None came = ⊥
Passed c (Some before) steps (Some after) came = Passes c before steps after came

-- a step was done, or was not
abbrev pub MovesOrStays : Config → Option Outer → Step → Option Outer → List Arrival → Type 0
MovesOrStays c before step after more =
    Moves c before step after more ⊎ ((more ≡ []) × Same before after)

-- ---- the parts of taking a record

-- the text was taken, or a proper part of it where the sink failed, or nothing of it for want of
-- memory
abbrev pub TakesText : {T : Type 0} → (old new : Option (List ℕ)) → List ℕ → Result T Ending →
    Type 0
TakesText old new text (Ok done) = Appends old new text
TakesText old new text (Err WriteFault) =
    (n : ℕ) × (n < length text) × Appends old new (take n text)
TakesText old new text (Err NoMemory) = Keeps old new
TakesText old new text (Err ending) = ⊥

-- the record was run, and its block is there
abbrev pub Runs : {A : Type 0} → (A → State → Type 0) → (A → ℕ) → (old new : Server A) → Record →
    Type 0
Runs stands made old new r = (at : Place) → Stands stands made old.core at
    → (new.block.items ≡ block at r) × Stands stands made new.core (next_place at r)

-- a record is not run where there is no room for a control record, or no memory
abbrev pub NotRun : {A : Type 0} → (A → State → Type 0) → (A → ℕ) → (room : ℕ) → (old : Server A) →
    Record → Ending → Type 0
NotRun stands made room old r Full = (is_control_record r ≡ true)
    × ((at : Place) → Stands stands made old.core at → room ≤ at.serial)
NotRun stands made room old r NoMemory = ⊤
NotRun stands made room old r ending = ⊥

-- what is to be sent for a record: what the tray has, and nothing for a data frame
abbrev pub IsToSend : Entry → (items sent : List Sent) → Type 0
IsToSend (Event event) items sent = sent ≡ items
IsToSend (Data port octets) items sent = sent ≡ []

-- that is so after it was run
abbrev pub Sends : {A : Type 0} → (A → State → Type 0) → (A → ℕ) → (old new : Server A) → Entry →
    Type 0
Sends stands made old new entry = (at : Place) → Stands stands made old.core at
    → IsToSend entry new.core.tray.items (sent_at at (entry_of entry))

-- ---- what was written and sent where a run ends

-- the log of what came was taken, and is a trace of it; and what belongs to it was sent
pub record IsLogged (c : Config) (origin taken : Option (List ℕ))
    (first sent : Option (List Outgoing)) (came : List Arrival) : Type 0 where
  pub written : Appends origin taken (log c (entries_of came))
  pub trace : ReadsBack c (entries_of came)
  pub posted : Grows first sent (posted_for c came)

-- the first of the datagrams that belong to it were sent
pub record IsHalfPosted (c : Config) (origin taken : Option (List ℕ))
    (first sent : Option (List Outgoing)) (came : List Arrival) : Type 0 where
  pub written : Appends origin taken (log c (entries_of came))
  pub trace : ReadsBack c (entries_of came)
  pub posted : SendsFirst first sent (posted_for c came)

-- the log of what came was taken, which is a trace of it, and a proper part of that of the next
-- record; and what belongs to what came was sent
pub record IsHalfLogged (c : Config) (origin taken : Option (List ℕ))
    (first sent : Option (List Outgoing)) (came : List Arrival) (a : Arrival) : Type 0 where
  pub n : ℕ
  pub proper : n < length (logged (place_of c came) a.entry)
  pub written : Appends origin taken
      (log c (entries_of came) ++ take n (logged (place_of c came) a.entry))
  pub trace : ReadsBack c (entries_of came)
  pub posted : Grows first sent (posted_for c came)

-- ---- how one record, one datagram or one step ends a run

-- the record is one for which there is no room
abbrev pub IsTooMany : ℕ → Config → List Arrival → Arrival → Type 0
IsTooMany room c came a =
    (is_control_record a.entry ≡ true) × ((place_of c came).serial ≡ room)

-- how taking a record ends a run
abbrev pub EnterHalts : (room : ℕ) → Config → Arrival → (origin taken : Option (List ℕ)) →
    (first sent : Option (List Outgoing)) → (came : List Arrival) → Ending → Type 0
EnterHalts room c a origin taken first sent came WriteFault =
    IsHalfLogged c origin taken first sent came a
EnterHalts room c a origin taken first sent came Full =
    IsTooMany room c came a × IsLogged c origin taken first sent came
EnterHalts room c a origin taken first sent came LinkFault =
    IsHalfPosted c origin taken first sent (came ++ a ∷ [])
EnterHalts room c a origin taken first sent came NoMemory = IsLogged c origin taken first sent came
EnterHalts room c a origin taken first sent came ending = ⊥

-- how taking a datagram does: it may be told to end
abbrev pub TakeHalts : (room : ℕ) → Config → (channel : ℕ) → Incoming →
    (origin taken : Option (List ℕ)) → (first sent : Option (List Outgoing)) →
    (came : List Arrival) → Ending → Type 0
TakeHalts room c channel d origin taken first sent came Done =
    (ends_run channel d.octets ≡ true) × ((place_of c came).serial ≤ room)
    × IsLogged c origin taken first sent came
TakeHalts room c channel d origin taken first sent came ending =
    (a : Arrival) × (ends_run channel d.octets ≡ false) × (arrivals_of c channel d ≡ a ∷ [])
    × EnterHalts room c a origin taken first sent came ending

-- how a step does
abbrev pub Halts : (room : ℕ) → Config → (before : Option Outer) → Step → (after : Option Outer) →
    (origin taken : Option (List ℕ)) → (first sent : Option (List Outgoing)) →
    (came : List Arrival) → Ending → Type 0
Halts room c before step after origin taken first sent came Done =
    Closes c before step after × ((place_of c came).serial ≤ room)
    × IsLogged c origin taken first sent came
Halts room c before step after origin taken first sent came WriteFault = (a : Arrival) ×
    Moves c before step after (a ∷ []) × IsHalfLogged c origin taken first sent came a
Halts room c before step after origin taken first sent came Full = (a : Arrival) ×
    Moves c before step after (a ∷ []) × IsTooMany room c came a
    × IsLogged c origin taken first sent came
Halts room c before step after origin taken first sent came LinkFault = (more : List Arrival) ×
    MovesOrStays c before step after more × IsHalfPosted c origin taken first sent (came ++ more)
Halts room c before step after origin taken first sent came NoMemory =
    IsLogged c origin taken first sent came
Halts room c before step after origin taken first sent came ending = ⊥

-- the counts never fall, and a fault comes only where its count rose; a run that serves neither
-- reads nor refuses settings
pub record HasRunCause {T : Type 0} (out out_new link link_new : ℕ) (result : Result T Ending) :
    Type 0 where
  pub out_later : out ≤ out_new
  pub link_later : link ≤ link_new
  pub write : result ≡ Err WriteFault → Rose out out_new
  pub link_fault : result ≡ Err LinkFault → Rose link link_new

-- ---- several steps

-- these steps were done
abbrev pub Steps : {A : Type 0} → (A → State → Type 0) → (A → ℕ) → Config →
    (before : Option Outer) → List Step → (after : Option Outer) →
    (taken taken_new : Option (List ℕ)) → (sent sent_new : Option (List Outgoing)) →
    (old new : Server A) → Type 0
Steps stands made c before steps after taken taken_new sent sent_new old new =
    (origin : Option (List ℕ)) (first : Option (List Outgoing)) (came : List Arrival)
    → IsAt stands made origin taken first sent old came
    → (more : List Arrival) × IsAt stands made origin taken_new first sent_new new (came ++ more)
    × Passed c before steps after more

-- where in these steps the run ended
pub record StopsAt (room : ℕ) (c : Config) (before : Option Outer) (steps : List Step)
    (after : Option Outer) (origin taken : Option (List ℕ)) (first sent : Option (List Outgoing))
    (came : List Arrival) (e : Ending) : Type 0 where
  pub done : List Step
  pub step : Step
  pub rest : List Step
  pub split : steps ≡ done ++ step ∷ rest
  pub mid : Option Outer
  pub more : List Arrival
  pub passed : Passed c before done mid more
  pub halts : Halts room c mid step after origin taken first sent (came ++ more) e

abbrev pub Stops : {A : Type 0} → (A → State → Type 0) → (A → ℕ) → (room : ℕ) → Config →
    (before : Option Outer) → List Step → (after : Option Outer) →
    (taken taken_new : Option (List ℕ)) → (sent sent_new : Option (List Outgoing)) →
    (old : Server A) → Ending → Type 0
Stops stands made room c before steps after taken taken_new sent sent_new old e =
    (origin : Option (List ℕ)) (first : Option (List Outgoing)) (came : List Arrival)
    → IsAt stands made origin taken first sent old came
    → StopsAt room c before steps after origin taken_new first sent_new came e

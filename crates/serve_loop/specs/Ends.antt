-- How a run ends.
use Rattle.std.specs.Prelude.{◌≡◌, ◌⊎◌, ◌<◌, ◌≤◌, ◌++◌, ◌∷◌, [], ⊤, ℕ, List, drop, length, map, take, Option, Some, None, Ok, Err, IfSome, min}
use Rattle.std.specs.Io.KnownBytes.{Appends, Keeps}
use Rattle.wire_defs.specs.Outside.{Rose}
use Rattle.switch_event.specs.Config.{Config}
use Rattle.switch_defs.specs.Switch.{State}
use Rattle.trace_defs.specs.Text.{config_text}
use Rattle.history_defs.specs.Output.{controls_in}
use Rattle.outside_link.specs.Clock.{moment_of, moments_after}
use Rattle.outside_link.specs.Link.{Incoming, Outgoing, Ports, Same}
use Rattle.settings_reader.specs.declared.settings_err.SettingsErr.{SettingsErr}
use Rattle.settings_reader.specs.Settings.{SettingsEnd}
use Rattle.serve_defs.specs.declared.TheConstants.{LAST_MOMENT}
use Rattle.serve_defs.specs.Log.{cut}
use Rattle.serve_defs.specs.Served.{Arrival, Outer, Step, entries_of, comes, outer_after, all_steps}
use Rattle.serve_loop.specs.declared.ending.Ending.{Ending}
use Rattle.serve_loop.specs.declared.ending.Ending.TheVariants.{Done, NoMemory, ReadFault, WriteFault, Full, LinkFault}
use Rattle.serve_loop.specs.declared.server.Server.{Server}
use Rattle.serve_loop.specs.Ending.{ending_of}
use Rattle.serve_loop.specs.Run.{HasRunCause, IsHalfLogged, IsHalfPosted, IsLogged, IsSound, outer_of}

-- ---- what came, where clock and link tell

-- all that comes in these steps, and then this waits
abbrev pub Finished : Config → Option Outer → Option (List (List Incoming)) → List Step →
    List Arrival → Type 0
Finished c None waits steps came = ⊤
Finished c (Some o) None steps came = ⊥
Finished c (Some o) (Some waits) steps came =
    (came ≡ comes c o steps) × (waits ≡ (outer_after c o steps).waits)

-- the first of what comes in these steps
abbrev pub Begins : Config → Option Outer → List Step → List Arrival → Type 0
Begins c before steps came =
    IfSome before (λ o. (more : List Arrival) × (comes c o steps ≡ came ++ more))

-- What comes in the steps that were done, and then this waits: the datagrams that they took wait no
-- longer. It is the first of what comes in all of them.
pub record IsPart (c : Config) (o : Outer) (waits : List (List Incoming)) (steps : List Step)
    (came : List Arrival) : Type 0 where
  pub done : List Step
  pub rest : List Step
  pub split : steps ≡ done ++ rest
  pub came_is : came ≡ comes c o done
  pub waits_are : waits ≡ (outer_after c o done).waits
  pub more : List Arrival
  pub all : comes c o steps ≡ came ++ more

abbrev pub Partly : Config → Option Outer → Option (List (List Incoming)) → List Step →
    List Arrival → Type 0
Partly c None waits steps came = ⊤
Partly c (Some o) None steps came = ⊥
Partly c (Some o) (Some waits) steps came = IsPart c o waits steps came

-- There is no room for one more control record: what came has so many, and is all that comes before
-- that one.
pub record IsFull (room : ℕ) (c : Config) (before : Option Outer) (steps : List Step)
    (came : List Arrival) : Type 0 where
  pub controls : controls_in (entries_of came) ≡ room
  pub before_it : IfSome before (λ o. entries_of came ≡ cut room (entries_of (comes c o steps)))
  pub more : IfSome before (λ o. room < controls_in (entries_of (comes c o steps)))

-- ---- a run behind its settings

-- how it ends in these steps, by its settings and by the outside as it began, where that is told
abbrev pub Halted : (room : ℕ) → Config → (before : Option Outer) →
    (waits : Option (List (List Incoming))) → List Step → (origin taken : Option (List ℕ)) →
    (first sent : Option (List Outgoing)) → Ending → Type 0
Halted room c before waits steps origin taken first sent Done = (came : List Arrival) ×
    Finished c before waits steps came × (controls_in (entries_of came) ≤ room)
    × IsLogged c origin taken first sent came
Halted room c before waits steps origin taken first sent WriteFault =
    (came : List Arrival) × (a : Arrival) × Partly c before waits steps (came ++ a ∷ [])
    × IsHalfLogged c origin taken first sent came a
Halted room c before waits steps origin taken first sent Full =
    (came : List Arrival) × (a : Arrival) × Partly c before waits steps (came ++ a ∷ [])
    × IsFull room c before steps came × IsLogged c origin taken first sent came
Halted room c before waits steps origin taken first sent LinkFault = (came : List Arrival) ×
    Partly c before waits steps came × IsHalfPosted c origin taken first sent came
Halted room c before waits steps origin taken first sent NoMemory = (came : List Arrival) ×
    Begins c before steps came × IsLogged c origin taken first sent came
Halted room c before waits steps origin taken first sent ending = ⊥

-- how writing the settings ends it
abbrev pub HeadHalts : Config → (origin taken : Option (List ℕ)) → Ending → Type 0
HeadHalts c origin taken WriteFault = (n : ℕ) × (n < length (config_text c))
    × Appends origin taken (take n (config_text c))
HeadHalts c origin taken NoMemory = Keeps origin taken
HeadHalts c origin taken ending = ⊥

-- a server begins with these settings
pub record IsOpened {A : Type 0} (stands : A → State → Type 0) (made : A → ℕ) (room : ℕ)
    (c : Config) (server : Server A) : Type 0 where
  pub settings : server.config ≡ c
  pub last : server.last ≡ c.clock
  pub number : server.core.number ≡ 1
  pub sound : IsSound stands made room server

-- it ends while it writes the settings, with nothing sent, or later
abbrev pub RunEnds : (room turns : ℕ) → Config → (before : Option Outer) →
    (waits : Option (List (List Incoming))) → (origin taken : Option (List ℕ)) →
    (first sent : Option (List Outgoing)) → Ending → Type 0
RunEnds room turns c before waits origin taken first sent ending =
    (HeadHalts c origin taken ending × Same first sent)
    ⊎ Halted room c before waits (all_steps c.ports turns) origin taken first sent ending

abbrev pub HasEndCause : (out out_new link link_new : ℕ) → Ending → Type 0
HasEndCause out out_new link link_new ending =
    HasRunCause {T = ℕ} out out_new link link_new (Err ending)

-- ---- a whole run

-- the settings with the first moment of the clock, or with the last that settings can have
abbrev pub clocked : Config → (moment : ℕ) → Config
clocked settings moment = record settings { clock = min moment LAST_MOMENT }

-- the moments after the first one was asked, and the first one, where the clock tells
abbrev pub later_moments : Option (List ℕ) → Option (List ℕ)
later_moments None = None
later_moments (Some moments) = Some (moments_after moments)

abbrev pub IsFirst : Option (List ℕ) → (moment : ℕ) → Type 0
IsFirst moments moment = IfSome moments (λ m. moment ≡ moment_of m)

-- what a source, a sink, a link and a clock tell: the octets that are left and those that were taken,
-- the datagrams that wait and those that were sent, the ports that are bound, and the moments
pub record Told : Type 0 where
  pub left : Option (List ℕ)
  pub taken : Option (List ℕ)
  pub waits : Option (List (List Incoming))
  pub sent : Option (List Outgoing)
  pub bound : Option Ports
  pub moments : Option (List ℕ)

-- nothing was written, sent or taken from a channel
pub record IsUntouched (old new : Told) : Type 0 where
  pub written : Keeps old.taken new.taken
  pub sent_none : Same old.sent new.sent
  pub waiting : Same old.waits new.waits

-- without settings nothing was bound either, and the clock was not asked
pub record IsUnsettled (limit : ℕ) (old new : Told) (e : SettingsErr) (ending : Ending) :
    Type 0 where
  pub reading : SettingsEnd limit old.left new.left (Err e)
  pub ends : ending ≡ ending_of e
  pub untouched : IsUntouched old new
  pub unbound : Same old.bound new.bound
  pub unasked : Same old.moments new.moments

-- the first channels are bound to these ports, in their order, and the others as before
abbrev pub IsBoundTo : Option Ports → Option Ports → (ports : List ℕ) → Type 0
IsBoundTo None new ports = ⊤
IsBoundTo (Some old) None ports = ⊥
IsBoundTo (Some old) (Some new) ports = new ≡ map Some ports ++ drop (length ports) old

-- only to the first of them
abbrev pub IsPartlyBound : Option Ports → Option Ports → (ports : List ℕ) → Type 0
IsPartlyBound old new ports = (n : ℕ) × (n < length ports) × IsBoundTo old new (take n ports)

-- a channel could not be bound, and the clock was not asked
pub record IsUnbound (ports : List ℕ) (old new : Told) (ending : Ending) : Type 0 where
  pub ends : ending ≡ LinkFault
  pub untouched : IsUntouched old new
  pub bound : IsPartlyBound old.bound new.bound ports
  pub unasked : Same old.moments new.moments

-- with settings a channel could not be bound, or all are and the run ends later, with the first
-- moment as the clock of the settings
abbrev pub ServeEnds : (room turns : ℕ) → (ports : List ℕ) → (settings : Config) →
    (old new : Told) → Ending → Type 0
ServeEnds room turns ports settings old new ending = IsUnbound ports old new ending
    ⊎ (IsBoundTo old.bound new.bound ports × (moment : ℕ) × IsFirst old.moments moment
    × RunEnds room turns (clocked settings moment)
    (outer_of (clocked settings moment).clock (later_moments old.moments) old.waits) new.waits
    old.taken new.taken old.sent new.sent ending)

-- how a whole run ends: without settings, or with those of the source
abbrev pub Ends : (limit room turns : ℕ) → (ports : List ℕ) → (old new : Told) → Ending → Type 0
Ends limit room turns ports old new ending =
    ((e : SettingsErr) × IsUnsettled limit old new e ending)
    ⊎ ((settings : Config) × SettingsEnd limit old.left new.left (Ok settings)
    × ServeEnds room turns ports settings old new ending)

-- the counts never fall, and a fault comes only where its count rose
pub record HasEndCauses (source source_new out out_new link link_new : ℕ) (ending : Ending) :
    Type 0 where
  pub source_later : source ≤ source_new
  pub read : ending ≡ ReadFault → Rose source source_new
  pub run : HasEndCause out out_new link link_new ending

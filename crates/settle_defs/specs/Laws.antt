-- The laws of settling.
use Rattle.std.specs.Prelude.{◌≡◌, ◌⊎◌, ℕ, ◌≤◌, ◌<◌, true, false, List, [], length, None}
use Rattle.std.specs.List.{AllByRecursion}
use Rattle.machine_vars.specs.declared.vars.Vars.{Vars}
use Rattle.machine_vars.specs.declared.states.Row.{Row}
use Rattle.machine_vars.specs.declared.states.EapState.TheVariants.{AaaIdle}
use Rattle.machine_defs.specs.Settling.{next, Settles}
use Rattle.machine_vars.specs.declared.control.Times.{Times}
use Rattle.machine_vars.specs.declared.control.Control.{Control}
use Rattle.machine_defs.specs.Live.{fresh, InRange, Live, Ready, Event, IsProper, set}
pub use Rattle.machine_defs.specs.Live.{ComesBetween, start, logoff, packet, second}
use Rattle.machine_defs.specs.Outcome.{outcome, begun}
use Rattle.settle_defs.specs.Settle.{settled}
use Rattle.settle_defs.specs.Named.{IsName, IsNamed}

-- the chain of rows gives what the function gives
abbrev pub IsSettled : Type 0
IsSettled =
    (v w : Vars) (rows : List Row) (sent : List (List ℕ)) → Settles v rows sent w → length rows ≤ 48 →
    settled v ≡ record { vars = w; packets = sent }

-- and where a value may be settled there is such a chain
abbrev pub HasChain : Type 0
HasChain =
    (v : Vars) → Ready v →
    (rows : List Row) × (length rows < 48) × Settles v rows (settled v).packets (settled v).vars

abbrev pub StaysLive : Type 0
StaysLive = (v : Vars) → Ready v → Live (settled v).vars

-- no row is left to be taken
abbrev pub IsIdleAfter : Type 0
IsIdleAfter = (v : Vars) → Ready v → next (settled v).vars ≡ None

-- an event of a value of a session leads to its outcome, and an opening value to what is begun with it
abbrev pub HasOutcome : Type 0
HasOutcome = (e : Event) (v : Vars) → Live v → IsProper e v → settled (set e v) ≡ outcome e v

abbrev pub BeginsSo : Type 0
BeginsSo =
    (port : ℕ) (own peer : List ℕ) (control : Control) (t : Times) → InRange t →
    let v = fresh port own peer control t in settled v ≡ begun v

-- and a value at rest to itself
abbrev pub StaysAtRest : Type 0
StaysAtRest = (v : Vars) → next v ≡ None → settled v ≡ record { vars = v; packets = [] }

-- whose the variables are does not change, nor the times and the control of their port
pub record KeepsPeer (v w : Vars) : Type 0 where
  pub port : w.port ≡ v.port
  pub own : w.own ≡ v.own
  pub peer : w.peer ≡ v.peer
  pub times : w.times ≡ v.times
  pub control : w.port_control ≡ v.port_control

abbrev pub KeepsItsPeer : Type 0
KeepsItsPeer = (v : Vars) → Ready v → KeepsPeer v (settled v).vars

-- what may be settled of a session whose last settling was acted upon: the opening value, or a value
-- at rest with an event's variables
pub data Begun : Vars → Type 0 where
  opened : (port : ℕ) (own peer : List ℕ) (control : Control) (t : Times) → InRange t →
      Begun (fresh port own peer control t)
  event : {v : Vars} (e : Event) → Live v → IsProper e v → next v ≡ None → v.aaa_eap_resp ≡ false →
      Begun (set e v)

-- the server is asked only in the state that waits for it (RFC 4137, 7.2)
abbrev pub AsksWhereItWaits : Type 0
AsksWhereItWaits =
    (v : Vars) → Begun v → (settled v).vars.aaa_eap_resp ≡ true → (settled v).vars.eap ≡ AaaIdle

-- and for a host that gave its identity
abbrev pub AsksByName : Type 0
AsksByName =
    (v : Vars) → Begun v → (settled v).vars.aaa_eap_resp ≡ true → IsName (settled v).vars.identity.items

-- the server is waited for as before, or what was asked is no longer wanted
abbrev pub LeavesTheServer : Type 0
LeavesTheServer =
    (e : Event) (v : Vars) → ComesBetween e → Live v → next v ≡ None → v.eap ≡ AaaIdle →
    v.aaa_eap_resp ≡ false →
    let w = (settled (set e v)).vars in
    (w.aaa_abort ≡ true) ⊎ ((w.eap ≡ AaaIdle) × (w.aaa_eap_resp ≡ false))

-- an identity is there where it is needed, and settling keeps it
abbrev pub IsAlwaysNamed : Type 0
IsAlwaysNamed = (v : Vars) → Live v → IsNamed v

abbrev pub StaysNamed : Type 0
StaysNamed = (v : Vars) → Ready v → IsNamed v → IsNamed (settled v).vars

-- ---- what is sent

-- an EAP packet that fits into a frame of 1,500 octets
abbrev pub Fit : List ℕ → Type 0
Fit eap = length eap ≤ 1500

-- what a session may send fits
pub record AreShort (v : Vars) : Type 0 where
  pub last : length v.last_req_data.items ≤ 1500
  pub packet : length v.aaa_eap_req_data.items ≤ 1500

-- a settling sends fewer than 48 packets, each of which fits
abbrev pub SendsFew : Type 0
SendsFew =
    (v : Vars) → Ready v → AreShort v →
    AllByRecursion Fit (settled v).packets × (length (settled v).packets < 48) × AreShort (settled v).vars

-- What follows from a settling, for a session's request and for the session itself (RFC 4137, 7.1).
use Rattle.std.specs.Prelude.{◌≡◌, ◌<◌, ℕ, true, List, [], ◌∷◌, length, Option, None, Some, is_some}
use Rattle.machine_vars.specs.declared.wants.Wants.{Wants}
use Rattle.machine_vars.specs.declared.states.EapState.TheVariants.{AaaIdle}
use Rattle.settle_defs.specs.Named.{IsName}
use Rattle.aaa_defs.specs.declared.TheConstants.{MOST_WAITING}
use Rattle.aaa_defs.specs.Waits.{Pending, Waits, pending_of}
use Rattle.switch_event.specs.Config.{Config}
use Rattle.switch_defs.specs.Switch as switch
use Rattle.switch_defs.specs.Switch.{Host, Standing, State, Did}
use Rattle.switch_event.specs.Sent.{Sent}
use Rattle.switch_defs.specs.Session.{ask_if, close_if, forget_if, to_server}
use Rattle.host_sessions.specs.declared.sessions.Sessions.{Sessions}
use Rattle.host_sessions.specs.Holds.{Holds}
use Rattle.host_sessions.specs.Finds.{IsAt}

-- what is no longer wanted is forgotten, what is to be asked is asked, and who was given up is closed
abbrev pub followed : Wants → Host → Standing → State → Did
followed w h x s =
    let d = ask_if w.ask h x (forget_if w.abort h s) in
    record { state = close_if w.gone h d.state; sent = d.sent }

-- the server may be asked about a session: it waits for the server, its host gave a name, nothing of it
-- is pending, and there is room
pub record IsToAsk (y : switch.Session) (s : State) : Type 0 where
  pub idle : y.standing.vars.eap ≡ AaaIdle
  pub named : IsName y.standing.vars.identity.items
  pub free : pending_of y.host.number s.waits ≡ None
  pub room : length s.waits.requests < MOST_WAITING

-- the sessions of a state with these settings, of which one is kept at a place
pub record HasAt (c : Config) (k : Sessions) (at : ℕ) (y : switch.Session) (s : State) : Type 0 where
  pub holds : Holds k s
  pub config : s.config ≡ c
  pub here : IsAt at y k s

-- and where the server is to be asked about it, it may be
pub record MayFollow (c : Config) (k : Sessions) (at : ℕ) (w : Wants) (y : switch.Session) (s : State) :
    Type 0 where
  pub has : HasAt c k at y s
  pub asks : w.ask ≡ true → IsToAsk y (forget_if w.abort y.host s)

-- a request waits only while the session waits for the server
abbrev pub WaitsFor : ℕ → Waits → Standing → Type 0
WaitsFor number w x = is_some (pending_of number w) ≡ true → x.vars.eap ≡ AaaIdle

-- the request that waits is sent, where there is one
abbrev pub sent_of_pending : Option Pending → List Sent
sent_of_pending None = []
sent_of_pending (Some p) = to_server p ∷ []

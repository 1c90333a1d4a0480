-- The laws on which a switch that keeps such a state can stand.
use Rattle.std.specs.Prelude.{◌≡◌, ℕ, ◌+◌, ◌-◌, ◌^◌, ◌≤◌, ◌<◌, true, List, length, Some, None, Ok}
use Rattle.machine_defs.specs.Live.{Ready, set}
use Rattle.machine_defs.specs.Live as live
use Rattle.settle_defs.specs.Settle.{settled}
use Rattle.settle_defs.specs.Named.{IsName}
use Rattle.aaa_defs.specs.declared.TheConstants.{MOST_WAITING}
use Rattle.aaa_defs.specs.Waits.{pending_of}
use Rattle.switch_event.specs.Config.{Config, is_valid}
use Rattle.machine_vars.specs.declared.states.EapState.TheVariants.{AaaIdle}
use Rattle.aaa_defs.specs.Answer.{Taking, answered}
use Rattle.wire_core.specs.declared.address.Addr.{Addr}
use Rattle.switch_event.specs.Event.{Happening}
use Rattle.event_record.specs.Entry.{Entry}
use Rattle.dynauth_defs.specs.declared.Action.{Action}
use Rattle.dynauth_defs.specs.declared.Action.TheVariants.{Disconnect, Change}
use Rattle.dynauth_defs.specs.Judge.{Ack}
use Rattle.switch_defs.specs.Dynamic.{judged_on}
use Rattle.aaa_defs.specs.Age.{aged}
use Rattle.switch_defs.specs.Switch.{Host, Standing, Session, State, hosts, port_of, session_numbered, opening, most_sessions}
use Rattle.switch_defs.specs.Session.{Cause, place, forget, rested, forget_if, settle_session}
use Rattle.switch_defs.specs.Answer.{Answered, Refused, Told, stands, answered_on}
use Rattle.switch_defs.specs.Turn.{FrameCase, Dropped, Forces, Opens, Turns, frame_case, opened, fresh_standing, with_session, set_vars, age_request, is_given_up, second_of, turn}
use Rattle.switch_defs.specs.History.{after}
use Rattle.switch_defs.specs.Sound.{In, AreHosts, Rests, IsSound, MaySettle}

-- the opening is sound
abbrev pub OpeningIsSound : Type 0
OpeningIsSound = (c : Config) → is_valid c ≡ true → IsSound 0 (opening c)

-- each turn leads from a sound state to one
abbrev pub TurnsAreSound : Type 0
TurnsAreSound = (turns : ℕ) (s : State) (e : Happening) → IsSound turns s → IsSound (turns + 1) (turn s e).state

-- and so does each history
abbrev pub HistoriesAreSound : Type 0
HistoriesAreSound = (c : Config) (h : List Entry) → is_valid c ≡ true → IsSound (length h) (after c h)

-- there are never more sessions than there may be
abbrev pub SessionsAreFew : Type 0
SessionsAreFew = (turns : ℕ) (s : State) → IsSound turns s → length s.sessions ≤ most_sessions

-- how many turns there may be
abbrev pub most_turns : ℕ
most_turns = 1048576

-- the clock, the numbers of sessions and of authenticators fit into words of 64, 32 and 64 bits
abbrev pub NumbersFit : Type 0
NumbersFit = (turns : ℕ) (s : State) → turns ≤ most_turns → IsSound turns s → (s.clock < 2 ^ 64) × (s.next < 2 ^ 32) × (s.asked < 2 ^ 64)

-- ---- while a turn goes on

-- a state inside a turn, where every session is at rest
pub record IsBetween (s : State) : Type 0 where
  pub hosts : AreHosts (hosts s) s.next
  pub few : length s.sessions ≤ most_sessions
  pub rests : Rests s.waits s.sessions

-- the session of a host may be settled with this standing, and the server may be asked then
pub record MayAsk (h : Host) (x : Standing) (s : State) : Type 0 where
  pub hosts : AreHosts (hosts s) s.next
  pub few : length s.sessions ≤ most_sessions
  pub settle : MaySettle h x s

-- where the server is asked, nothing of the session is pending, there is room for one request more, and the host gave its identity
abbrev pub AsksOnce : Type 0
AsksOnce = (why : Cause) (h : Host) (x : Standing) (s : State) → MayAsk h x s → (settled x.vars).vars.aaa_eap_resp ≡ true →
    let x' = rested why x (settled x.vars).vars in
    let t = forget_if (settled x.vars).vars.aaa_abort h (place h x' s) in
    (pending_of h.number t.waits ≡ None) × (length t.waits.requests < MOST_WAITING) × IsName x'.vars.identity.items

-- after it every session is at rest
abbrev pub RestsAgain : Type 0
RestsAgain = (why : Cause) (h : Host) (x : Standing) (s : State) → MayAsk h x s → IsBetween (settle_session why h x s).state

abbrev pub SoundIsBetween : Type 0
SoundIsBetween = (turns : ℕ) (s : State) → IsSound turns s → IsBetween s

-- what a frame settles may be settled
abbrev pub MayFrame : State → FrameCase → Type 0
MayFrame s (Dropped line) = Unit {0}
MayFrame s (Forces q from) = Ready (set (live.Greeting from) q.forced)
MayFrame s (Opens q from) = MayAsk (opened s q from) (fresh_standing s q from) (with_session (opened s q from) (fresh_standing s q from) s)
MayFrame s (Turns y e) = MayAsk y.host (set_vars e y.standing) s

abbrev pub FramesMaySettle : Type 0
FramesMaySettle = (turns : ℕ) (s : State) (port : ℕ) (octets : List ℕ) → IsSound turns s → MayFrame s (frame_case s octets (port_of port s))

-- so may what an answer of the server settles
abbrev pub MayAnswer : State → Answered → Type 0
MayAnswer s (Refused check) = Unit {0}
MayAnswer s (Told y said) = MayAsk y.host (stands said y.standing) (forget y.host s)

abbrev pub AnswersMaySettle : Type 0
AnswersMaySettle = (turns : ℕ) (s : State) (socket : ℕ) (octets : List ℕ) → IsSound turns s → MayAnswer s (answered_on s socket octets)

-- and what a second settles, session by session
abbrev pub SecondsMaySettle : Type 0
SecondsMaySettle = (y : Session) (s : State) → IsBetween s → In y s.sessions →
    let a = aged (pending_of y.host.number s.waits) in
    IsBetween (second_of y s).state × MayAsk y.host (set_vars (live.Second (is_given_up a)) (record y.standing { end_while = y.standing.end_while - 1 })) (age_request a y.host s)

-- ---- what answers and dynamic requests name

-- an answer that is taken is of a session that there is, and that waits for it
abbrev pub AnswersNameSessions : Type 0
AnswersNameSessions = (turns : ℕ) (s : State) (socket : ℕ) (octets : List ℕ) (t : Taking) → IsSound turns s → answered s.waits socket octets s.config.secret s.config.require_ma ≡ Ok t →
    (y : Session) × (session_numbered t.session s ≡ Some y) × (y.standing.vars.eap ≡ AaaIdle)

-- a request that is acknowledged is of a session that there is; where it changes one, of one that is Authorized
abbrev pub NamesSession : State → Action → Type 0
NamesSession s (Disconnect number) = (y : Session) × (session_numbered number s ≡ Some y)
NamesSession s (Change number vlan timeout) = (y : Session) × (session_numbered number s ≡ Some y) × (y.standing.vars.auth_port_status ≡ true)

abbrev pub DynamicsNameSessions : Type 0
DynamicsNameSessions = (turns : ℕ) (s : State) (from : Addr) (octets : List ℕ) (a : Action) → IsSound turns s → judged_on s from octets ≡ Ack a → NamesSession s a

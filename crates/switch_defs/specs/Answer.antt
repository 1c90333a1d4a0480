-- An answer of the server that was taken: what it says to the session that asked (RFC 2865, section 4; RFC 3580, section 3).
use Rattle.std.specs.Prelude.{ℕ, List, Option, None, Some, Result, Ok, Err}
use Rattle.machine_defs.specs.Live.{Event, set, Challenge, Notice, Accept, Reject}
use Rattle.switch_event.specs.declared.drop.AaaDrop.{AaaDrop}
use Rattle.switch_event.specs.declared.drop.AaaDrop.TheVariants.{NoRequest}
use Rattle.aaa_defs.specs.Answer.{Taking, answered}
use Rattle.aaa_defs.specs.Said.{Said, Word, Kept, said}
use Rattle.aaa_defs.specs.Said as word
use Rattle.switch_defs.specs.Switch.{Port, Standing, Session, State, port_of, session_numbered}

-- what the machines are told is an event of theirs
abbrev pub event_of : Word → Event
event_of (word.Challenge eap wait) = Challenge eap wait
event_of word.Notice = Notice
event_of (word.Accept eap again period) = Accept eap again period
event_of (word.Reject eap) = Reject eap

-- what a session keeps beside its machines
abbrev pub kept_of : Standing → Kept
kept_of x = record { vlan = x.vlan; state = x.state; end_while = x.end_while }

abbrev pub stands : Said → Standing → Standing
stands told x =
    record x { vars = set (event_of told.word) x.vars; vlan = told.kept.vlan; state = told.kept.state; end_while = told.kept.end_while }

-- the VLAN where no other is named
abbrev pub native_of : Option Port → ℕ
native_of None = 0
native_of (Some p) = p.conf.native

-- what an answer says to a session
abbrev pub says : State → Taking → Session → Said
says s t y = said t (native_of (port_of y.host.port s)) s.config.times y.standing.vars.current_id (kept_of y.standing)

-- ---- the checks

-- the first failed check, or the session that asked with what it is told
pub data Answered : Type 0 where
  Refused : (drop : AaaDrop) → Answered
  Told : Session → Said → Answered

-- each request is of a session that there is
abbrev pub told : State → Taking → Option Session → Answered
told s t None = Refused NoRequest
told s t (Some y) = Told y (says s t y)

abbrev pub told_by : State → Result Taking AaaDrop → Answered
told_by s (Err drop) = Refused drop
told_by s (Ok t) = told s t (session_numbered t.session s)

abbrev pub answered_on : State → (socket : ℕ) → List ℕ → Answered
answered_on s socket octets = told_by s (answered s.waits socket octets s.config.secret s.config.require_ma)

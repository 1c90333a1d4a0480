-- What is read off a host.
use Rattle.std.specs.Prelude.{◌≡◌, ℕ, ◌≤◌, Bool, true, false, List, [], length, Option, Some, None}
use Rattle.machine_vars.specs.declared.verdict.Verdict.{Verdict}
use Rattle.machine_vars.specs.declared.verdict.Verdict.TheVariants as word
use Rattle.machine_vars.specs.declared.wants.Wants.{Wants}
use Rattle.machine_vars.specs.declared.vars.Vars.{Vars}
use Rattle.machine_vars.specs.declared.states.EapState.TheVariants.{AaaIdle}
use Rattle.machine_vars.specs.declared.states.Pae.TheVariants.{Held}
use Rattle.machine_defs.specs.Words.{event_with, wanted, period}
use Rattle.typed_session.specs.declared.host.Common.{Common}
use Rattle.typed_session.specs.declared.host.Known.{Known}
use Rattle.typed_session.specs.declared.host.Host.{Host}
use Rattle.typed_session.specs.declared.host.Host.TheVariants as host
use Rattle.typed_session.specs.Moves.{Move, silent, after_change}
use Rattle.typed_session.specs.Seconds.{move}

-- authPortStatus
abbrev pub status_of : Host → Bool
status_of (host.Request a) = a.status
status_of (host.Ignore a) = a.status
status_of (host.Server a) = a.status
status_of (host.GaveUp a) = a.status
status_of (host.Authenticated a) = true
status_of (host.Held a) = false
status_of (host.Ended a) = false

abbrev pub id_of : Host → ℕ
id_of (host.Request a) = a.common.id
id_of (host.Ignore a) = a.common.id
id_of (host.Server a) = a.common.id
id_of (host.GaveUp a) = a.common.id
id_of (host.Authenticated a) = a.common.id
id_of (host.Held a) = a.common.id
id_of (host.Ended a) = a.id

-- aaaEapResp, aaaAbort and gone
abbrev pub ask_of : Host → Bool
ask_of (host.Request a) = a.common.ask
ask_of (host.Ignore a) = a.common.ask
ask_of (host.Server a) = a.common.ask
ask_of (host.GaveUp a) = a.common.ask
ask_of (host.Authenticated a) = a.common.ask
ask_of (host.Held a) = a.common.ask
ask_of (host.Ended a) = a.ask

abbrev pub abort_of : Host → Bool
abort_of (host.Request a) = a.common.abort
abort_of (host.Ignore a) = a.common.abort
abort_of (host.Server a) = a.common.abort
abort_of (host.GaveUp a) = a.common.abort
abort_of (host.Authenticated a) = a.common.abort
abort_of (host.Held a) = a.common.abort
abort_of (host.Ended a) = a.abort

abbrev pub is_ended : Host → Bool
is_ended (host.Ended a) = true
is_ended h = false

-- what is left to be done for the server's side
abbrev pub wants_of : Host → Wants
wants_of h = record { ask = ask_of h; abort = abort_of h; gone = is_ended h }

abbrev pub is_held : Host → Bool
is_held (host.Held a) = true
is_held h = false

-- the server is asked
abbrev pub is_server : Host → Bool
is_server (host.Server a) = true
is_server h = false

-- what is left to be done was taken over
abbrev pub rested : Common → Common
rested c = record c { ask = false; abort = false }

abbrev pub cleared : Host → Host
cleared (host.Request a) = host.Request (record a { common = rested a.common })
cleared (host.Ignore a) = host.Ignore (record a { common = rested a.common })
cleared (host.Server a) = host.Server (record a { common = rested a.common })
cleared (host.GaveUp a) = host.GaveUp (record a { common = rested a.common })
cleared (host.Authenticated a) = host.Authenticated (record a { common = rested a.common })
cleared (host.Held a) = host.Held (record a { common = rested a.common })
cleared (host.Ended a) = host.Ended (record a { ask = false; abort = false })

-- the identity, and the response that is for the server
abbrev pub identity_of : Host → List ℕ
identity_of (host.Request a) = a.common.identity.items
identity_of (host.Ignore a) = a.common.identity.items
identity_of (host.Server a) = a.common.identity.items
identity_of (host.GaveUp a) = a.common.identity.items
identity_of (host.Authenticated a) = a.common.identity.items
identity_of (host.Held a) = a.common.identity.items
identity_of (host.Ended a) = []

abbrev pub response_of : Host → List ℕ
response_of (host.Server a) = a.response.items
response_of h = []

-- what an answer of the server is told by: the identifier and the times of a session that goes on
abbrev pub known_by : Common → Option Known
known_by c = Some (record { id = c.id; times = c.times })

abbrev pub known_of : Host → Option Known
known_of (host.Request a) = known_by a.common
known_of (host.Ignore a) = known_by a.common
known_of (host.Server a) = known_by a.common
known_of (host.GaveUp a) = known_by a.common
known_of (host.Authenticated a) = known_by a.common
known_of (host.Held a) = known_by a.common
known_of (host.Ended a) = None

-- what an answer of the server makes of a host
abbrev pub told_by : Option Known → Verdict → Host → Move
told_by None word h = silent h
told_by (Some k) word h = move (event_with word k.id k.times) h

abbrev pub after_verdict : Verdict → Host → Move
after_verdict word h = told_by (known_of h) word h

-- the times of reauthentication are set to a number of seconds, or where it is 0 to those of the
-- settings
abbrev pub retimed_by : Option Known → (again : ℕ) → Host → Host
retimed_by None again h = h
retimed_by (Some k) again h = (after_change (wanted again k.times) (period again k.times) h).host

abbrev pub retimed : (again : ℕ) → Host → Host
retimed again h = retimed_by (known_of h) again h

-- ---- what can be told to a host, and what a host can tell

-- an EAP packet with an identifier, which a frame can carry
abbrev pub IsCarried : List ℕ → Type 0
IsCarried eap = (2 ≤ length eap) × (length eap ≤ 1500)

-- an answer has such a packet, or none
abbrev pub IsTold : Verdict → Type 0
IsTold (word.Challenge eap wait) = IsCarried eap.now
IsTold word.Notice = Unit {0}
IsTold (word.Accept (Some eap) again) = IsCarried eap.now
IsTold (word.Accept None again) = Unit {0}
IsTold (word.Reject (Some eap)) = IsCarried eap.now
IsTold (word.Reject None) = Unit {0}

-- whether the state is HELD
abbrev pub IsHeld : Bool → Vars → Type 0
IsHeld true v = v.pae ≡ Held
IsHeld false v = v.pae ≡ Held → ⊥

-- the identity of a session that goes on, and the response while the server is asked
abbrev pub ShowsIdentity : Vars → (octets : List ℕ) → Type 0
ShowsIdentity v octets = v.gone ≡ false → octets ≡ v.identity.items

abbrev pub ShowsResponse : Vars → (octets : List ℕ) → Type 0
ShowsResponse v octets = v.gone ≡ false → v.eap ≡ AaaIdle → octets ≡ v.eap_resp_data.items

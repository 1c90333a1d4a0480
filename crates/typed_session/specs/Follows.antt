-- What a call on a host promises: to each value that the host stands for it does what settling
-- does.
use Rattle.std.specs.Prelude.{◌≡◌, ℕ, true, false, ◌++◌, List, [], map, Option, None, Some}
use Rattle.switch_event.specs.Sent.{Sent, ToHost}
use Rattle.switch_event.specs.Frames.{eap_frame, frames}
use Rattle.out_tray.specs.Tray.{Things}
use Rattle.machine_vars.specs.declared.vars.Vars.{Vars}
use Rattle.machine_vars.specs.declared.states.EapState.TheVariants.{Success2}
use Rattle.machine_vars.specs.declared.verdict.Verdict.{Verdict}
use Rattle.machine_defs.specs.Words.{event_of, wanted, period}
use Rattle.machine_defs.specs.Live.{Event, set, Change, Second, cleared}
use Rattle.settle_defs.specs.Settle.{Rest, settled}
use Rattle.typed_session.specs.declared.host.Common.{Common}
use Rattle.typed_session.specs.declared.host.Host.{Host}
use Rattle.typed_session.specs.declared.host.Host.TheVariants as host
use Rattle.typed_session.specs.Stands.{Stands}
use Rattle.typed_session.specs.Moves.{Move, first_round}

-- the tray after some things were sent
abbrev pub with_sent : List Sent → Things → Things
with_sent items before = record before { items = before.items ++ items }

-- a settling ended so: the host stands for the value at its end, and its packets went out in frames
abbrev pub EndsIn : Rest → Host → (before after : Things) → Type 0
EndsIn rest k before after =
    Stands k rest.vars × (after ≡ with_sent (frames rest.vars rest.packets) before)

-- after an event
abbrev pub Follows : Event → (before after : Host) → (from to : Things) → Type 0
Follows e h k from to = (v : Vars) → Stands h v → EndsIn (settled (set e v)) k from to

-- after an answer of the server
abbrev pub FollowsWord : Verdict → (before after : Host) → (from to : Things) → Type 0
FollowsWord word h k from to =
    (v : Vars) → Stands h v → EndsIn (settled (set (event_of word v) v)) k from to

-- the times of reauthentication were set, and nothing was settled
abbrev pub SetsTimes : (again : ℕ) → (before after : Host) → Type 0
SetsTimes again h k =
    (v : Vars) → Stands h v →
    Stands k (set (Change (wanted again v.times) (period again v.times)) v)

-- the host is Authorized, goes on (RFC 4137, 7: SUCCESS2), and nothing is left to be done for the
-- server's side
pub record IsLetIn (h : Host) (v : Vars) : Type 0 where
  pub status : v.auth_port_status ≡ true
  pub state : v.eap ≡ Success2
  pub ask : v.aaa_eap_resp ≡ false
  pub abort : v.aaa_abort ≡ false
  pub gone : v.gone ≡ false
  pub cleared : Stands h (cleared v)

-- a second in which the server is not given up: nothing was sent, and a host that was let in still is
pub record Idles (h k : Host) : Type 0 where
  pub follows : (tray : Things) → Follows (Second false) h k tray tray
  pub before : (v : Vars) → Stands h v → IsLetIn h v
  pub after : (v : Vars) → Stands k v → IsLetIn k v

-- ---- how a call does it: the frames of some packets, from what a host holds

abbrev pub frames_from : Common → (packets : List (List ℕ)) → List Sent
frames_from c packets = map (λ eap. ToHost c.port (eap_frame c.peer c.own eap)) packets

abbrev pub frames_by : Host → (packets : List (List ℕ)) → List Sent
frames_by (host.Request a) packets = frames_from a.common packets
frames_by (host.Ignore a) packets = frames_from a.common packets
frames_by (host.Server a) packets = frames_from a.common packets
frames_by (host.GaveUp a) packets = frames_from a.common packets
frames_by (host.Authenticated a) packets = frames_from a.common packets
frames_by (host.Held a) packets = frames_from a.common packets
frames_by (host.Ended a) packets = []

-- the packets of a move were sent, by a host and by what it held
abbrev pub Says : Host → Move → (from to : Things) → Type 0
Says h m from to = to ≡ with_sent (frames_by h m.packets) from

abbrev pub SaysFrom : Common → Move → (from to : Things) → Type 0
SaysFrom c m from to = to ≡ with_sent (frames_from c m.packets) from

-- of a session that goes on
abbrev pub SaysBy : Option Common → Move → (from to : Things) → Type 0
SaysBy None m from to = to ≡ from
SaysBy (Some c) m from to = SaysFrom c m from to

abbrev pub OpensFrom : Common → (from to : Things) → Type 0
OpensFrom c from to = SaysFrom c (first_round c) from to

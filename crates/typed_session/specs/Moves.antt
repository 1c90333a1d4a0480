-- What each event makes of a host, and the EAP packets that it sends. No public promise speaks of
-- these: the calls promise what settling gives, and this is how they do it.
use Rattle.std.specs.Prelude.{◌≡◌, ℕ, ◌+◌, Bool, true, false, not, ◌&&◌, ◌||◌, nat_lt, if◌then◌else◌, List, [], ◌∷◌, drop, slice_index, Option, None, Some}
use Rattle.std.specs.Borrow.{Bor}
use Rattle.std.specs.Option.{option_map}
use Rattle.wire_defs.specs.Eap.{identity_request}
use Rattle.machine_defs.specs.EapTable.{next_id, idle_time, response_fits, is_identity}
use Rattle.machine_defs.specs.Live.{as_octets}
use Rattle.typed_session.specs.declared.host.Common.{Common}
use Rattle.typed_session.specs.declared.host.Asked.{Asked}
use Rattle.typed_session.specs.declared.host.Served.{Served}
use Rattle.typed_session.specs.declared.host.Host.{Host}
use Rattle.typed_session.specs.declared.host.Host.TheVariants as host

-- the host afterwards, and the packets in order
pub record Move : Type 0 where
  pub host : Host
  pub packets : List (List ℕ)

abbrev pub silent : Host → Move
silent h = record { host = h; packets = [] }

-- ---- a new round

-- what was asked of the server is no longer wanted
abbrev pub dropped : Common → Common
dropped c = record c { ask = false; abort = true }

abbrev pub numbered : Common → Common
numbered c = record c { id = next_id c.id }

-- the identity is asked for, under the next identifier
abbrev pub asked_anew : Common → (status : Bool) → (tries : ℕ) → Asked
asked_anew c status tries = record {
  common = numbered c;
  status = status;
  tries = tries;
  sent = 0;
  wait = 10;
  method = 0;
  local = true;
  due = false;
  request = as_octets (identity_request (next_id c.id));
}

abbrev pub identity_asked : Common → (status : Bool) → (tries : ℕ) → Move
identity_asked c status tries = record {
  host = host.Request (asked_anew c status tries);
  packets = identity_request (next_id c.id) ∷ [];
}

-- once more would be too often
abbrev pub is_tired : Common → (tries : ℕ) → Bool
is_tired c tries = nat_lt c.times.reauth_max (tries + 1)

-- the session ends, without a word
abbrev pub end_of : Common → Move
end_of c = silent (host.Ended (record { id = next_id c.id; ask = c.ask; abort = c.abort }))

-- the identity is asked for once more. After a Logoff, or where that would be too often, the host
-- is shut out and asked as if for the first time, under the second identifier from now; a host that
-- was shut out before and has not begun anew is given up
abbrev pub new_round : Common → (status start logoff : Bool) → (tries : ℕ) → Move
new_round c status start logoff tries =
    if logoff || is_tired c tries
    then (if not status && not start && is_tired c tries
    then end_of c
    else identity_asked (numbered c) false 1)
    else identity_asked c status (tries + 1)

-- the first
abbrev pub first_round : Common → Move
first_round c = new_round c false false false 0

-- ---- a new round in whichever state

-- what each state holds, of a session that goes on
abbrev pub kept_by : Host → Option Common
kept_by (host.Request a) = Some a.common
kept_by (host.Ignore a) = Some a.common
kept_by (host.Server a) = Some a.common
kept_by (host.GaveUp a) = Some a.common
kept_by (host.Authenticated a) = Some a.common
kept_by (host.Held a) = Some a.common
kept_by (host.Ended a) = None

abbrev pub kept_in : Option (Bor Common) → Option Common
kept_in common = option_map (λ (c : Bor Common). c.now) common

-- the identity is asked for, under the identifier after `id`
abbrev pub asked_by : Option Common → (id : ℕ) → (status : Bool) → (tries : ℕ) → Host → Move
asked_by None id status tries h = silent h
asked_by (Some c) id status tries h = identity_asked (record c { id = id }) status tries

abbrev pub end_by : Option Common → Host → Move
end_by None h = silent h
end_by (Some c) h = end_of c

abbrev pub round_by : Option Common → (status start logoff : Bool) → (tries : ℕ) → Host → Move
round_by None status start logoff tries h = silent h
round_by (Some c) status start logoff tries h = new_round c status start logoff tries

-- ---- the host begins, or logs off

abbrev pub after_start : Host → Move
after_start (host.Request a) = new_round (dropped a.common) a.status true false a.tries
after_start (host.Ignore a) = new_round (dropped a.common) a.status true false a.tries
after_start (host.Server a) = new_round (dropped a.common) a.status true false a.tries
after_start (host.GaveUp a) = new_round (dropped a.common) a.status true false a.tries
after_start (host.Authenticated a) = new_round a.common true true false a.tries
after_start (host.Held a) = silent (host.Held (record a { starts = true }))
after_start (host.Ended a) = silent (host.Ended a)

abbrev pub after_logoff : Host → Move
after_logoff (host.Request a) = new_round (dropped a.common) false false false 0
after_logoff (host.Ignore a) = new_round (dropped a.common) false false false 0
after_logoff (host.Server a) = new_round (dropped a.common) false false false 0
after_logoff (host.GaveUp a) = new_round (dropped a.common) false false false 0
after_logoff (host.Authenticated a) = new_round a.common false false false 0
after_logoff (host.Held a) = silent (host.Held (record a { logs_off = true }))
after_logoff (host.Ended a) = silent (host.Ended a)

-- ---- an EAP packet of the host

-- who gives its identity is known by it from then on
abbrev pub asking : Common → (eap : List ℕ) → Common
asking c eap = record c {
  ask = true;
  identity = if is_identity eap then as_octets (drop 5 eap) else c.identity;
}

-- a response goes to the server
abbrev pub to_server : (eap : List ℕ) → Asked → Served
to_server eap a = record {
  common = asking a.common eap;
  status = a.status;
  tries = a.tries;
  sent = a.sent;
  wait = a.common.times.server;
  method = a.method;
  local = a.local;
  due = a.due;
  heard = false;
  request = a.request;
  latest = as_octets eap;
  response = as_octets eap;
}

-- in either state in which the host is asked: a response fits, goes to the server, or is ignored
abbrev pub Fits : (eap : List ℕ) → Host → Type 0
Fits eap (host.Request a) = response_fits eap a.common.id a.local ≡ true
Fits eap (host.Ignore a) = response_fits eap a.common.id a.local ≡ true
Fits eap h = Unit {0}

abbrev pub served_by : (eap : List ℕ) → Host → Host
served_by eap (host.Request a) = host.Server (to_server eap a)
served_by eap (host.Ignore a) = host.Server (to_server eap a)
served_by eap h = h

abbrev pub ignored_by : Host → Host
ignored_by (host.Request a) = host.Ignore (record a { wait = idle_time a.method })
ignored_by (host.Ignore a) = host.Ignore (record a { wait = idle_time a.method })
ignored_by h = h

-- a response to what was asked goes to the server, and another packet is ignored
abbrev pub answered : (eap : List ℕ) → Asked → Host
answered eap a =
    if response_fits eap a.common.id a.local
    then host.Server (to_server eap a)
    else host.Ignore (record a { wait = idle_time a.method })

abbrev pub after_packet : (eap : List ℕ) → Host → Move
after_packet eap (host.Request a) = silent (answered eap a)
after_packet eap (host.Ignore a) = silent (answered eap a)
after_packet eap (host.Server a) =
    silent (host.Server (record a { heard = true; latest = as_octets eap }))
after_packet eap h = silent h

-- ---- an answer of the server

-- the server's request goes to the host
abbrev pub from_server : (eap : List ℕ) → (wait : ℕ) → Served → Asked
from_server eap wait a = record {
  common = record a.common { id = slice_index eap 1 };
  status = a.status;
  tries = a.tries;
  sent = 0;
  wait = idle_time wait;
  method = wait;
  local = false;
  due = a.due;
  request = as_octets eap;
}

abbrev pub after_challenge : (eap : List ℕ) → (wait : ℕ) → Host → Move
after_challenge eap wait (host.Request a) = silent (host.Request (record a { method = wait }))
after_challenge eap wait (host.Ignore a) = silent (host.Ignore (record a { method = wait }))
after_challenge eap wait (host.Server a) =
    record { host = host.Request (from_server eap wait a); packets = eap ∷ [] }
after_challenge eap wait h = silent h

-- without a request of the server's, the host is waited for as before its response
abbrev pub waiting_again : Served → Asked
waiting_again a = record {
  common = a.common;
  status = a.status;
  tries = a.tries;
  sent = a.sent;
  wait = idle_time a.method;
  method = a.method;
  local = a.local;
  due = a.due;
  request = a.request;
}

-- a packet that came since is looked at
abbrev pub after_notice : Host → Move
after_notice (host.Server a) =
    let b = waiting_again a in
    silent (if a.heard then answered a.latest.items b else host.Ignore b)
after_notice h = silent h

-- the times of reauthentication are set, and the timer begins anew
abbrev pub timed : (again : Bool) → (period : ℕ) → Common → Common
timed again period c = record c { reauth = again; period = period; left = period }

abbrev pub after_change : (again : Bool) → (period : ℕ) → Host → Move
after_change again n (host.Request a) =
    silent (host.Request (record a { common = timed again n a.common }))
after_change again n (host.Ignore a) =
    silent (host.Ignore (record a { common = timed again n a.common }))
after_change again n (host.Server a) =
    silent (host.Server (record a { common = timed again n a.common }))
after_change again n (host.GaveUp a) =
    silent (host.GaveUp (record a { common = timed again n a.common }))
after_change again n (host.Authenticated a) =
    silent (host.Authenticated (record a { common = timed again n a.common }))
after_change again n (host.Held a) =
    silent (host.Held (record a { common = timed again n a.common }))
after_change again n (host.Ended a) = silent (host.Ended a)

abbrev pub after_word : (eap : List ℕ) → Move → Move
after_word eap m = record { host = m.host; packets = eap ∷ m.packets }

-- the host is let in, and asked anew at once where that is due
abbrev pub let_in : Common → (due : Bool) → Move
let_in c due =
    if due
    then new_round c true false false 0
    else silent (host.Authenticated (record { common = c; tries = 0 }))

abbrev pub after_accept : (eap : List ℕ) → (again : Bool) → (period : ℕ) → Host → Move
after_accept eap again n (host.Server a) = after_word eap (let_in (timed again n a.common) a.due)
after_accept eap again n h = after_change again n h

-- ---- an answer, in the state in which the server is asked

abbrev pub asked_on_by : (eap : List ℕ) → (wait : ℕ) → Host → Host
asked_on_by eap wait (host.Server a) = host.Request (from_server eap wait a)
asked_on_by eap wait h = h

abbrev pub waiting_by : Host → Host
waiting_by (host.Server a) = host.Ignore (waiting_again a)
waiting_by h = h

abbrev pub admitted_by : Option Common → Host → Host
admitted_by None h = h
admitted_by (Some c) h = host.Authenticated (record { common = c; tries = 0 })

-- the host is shut out for the quiet period
abbrev pub shut_out : Served → Host
shut_out a = host.Held (record {
  common = a.common;
  tries = a.tries;
  wait = a.common.times.quiet;
  starts = false;
  logs_off = false;
})

abbrev pub shut_out_by : Host → Host
shut_out_by (host.Server a) = shut_out a
shut_out_by h = h

abbrev pub after_reject : (eap : List ℕ) → Host → Move
after_reject eap (host.Server a) = record { host = shut_out a; packets = eap ∷ [] }
after_reject eap h = silent h

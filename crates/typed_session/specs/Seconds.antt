-- What a second makes of a host, and what each event does.
use Rattle.std.specs.Prelude.{◌≡◌, ℕ, ◌+◌, ◌-◌, Bool, true, false, not, ◌&&◌, ◌||◌, nat_lt, if◌then◌else◌, [], ◌∷◌}
use Rattle.machine_defs.specs.Table.{is_zero}
use Rattle.machine_defs.specs.EapTable.{idle_time}
use Rattle.machine_defs.specs.Live.{Event, Start, Logoff, Greeting, Packet, Challenge, Notice, Accept, Reject, Second, Change}
use Rattle.typed_session.specs.declared.host.Common.{Common}
use Rattle.typed_session.specs.declared.host.Asked.{Asked}
use Rattle.typed_session.specs.declared.host.Served.{Served}
use Rattle.typed_session.specs.declared.host.Lapsed.{Lapsed}
use Rattle.typed_session.specs.declared.host.Admitted.{Admitted}
use Rattle.typed_session.specs.declared.host.Refused.{Refused}
use Rattle.typed_session.specs.declared.host.Host.{Host}
use Rattle.typed_session.specs.declared.host.Host.TheVariants as host
use Rattle.typed_session.specs.Moves.{Move, silent, dropped, new_round, after_start, after_logoff, after_packet, after_challenge, after_notice, after_change, after_accept, after_reject}

-- ---- the timer of reauthentication (IEEE Std 802.1X-2004, 8.2.8)

-- it stands while the host is not Authorized, or not to be authenticated again
abbrev pub is_still : (status : Bool) → Common → Bool
is_still status c = not status || not c.reauth

-- what it has left after a second
abbrev pub time_left : (status : Bool) → Common → ℕ
time_left status c = if is_still status c then c.left else c.left - 1

-- with that left it has run out, and begins anew
abbrev pub is_due : (status : Bool) → Common → (left : ℕ) → Bool
is_due status c left = not (is_still status c) && is_zero left

abbrev pub wound : (status : Bool) → Common → (left : ℕ) → Common
wound status c left = record c { left = if is_due status c left then c.period else left }

-- ---- a second in each state, after which the state's own timer has `wait` left, and that of
-- reauthentication `left`

-- the request is sent again, the fourth time no more
abbrev pub once_more : Asked → Asked
once_more a = record a { sent = a.sent + 1; wait = idle_time a.method }

abbrev pub asked_again : Asked → Move
asked_again a =
    if nat_lt 3 (a.sent + 1)
    then new_round (dropped a.common) a.status false false a.tries
    else record { host = host.Request (once_more a); packets = a.request.items ∷ [] }

-- in either state in which the host is asked
abbrev pub again_by : Host → Move
again_by (host.Request a) = asked_again a
again_by (host.Ignore a) = asked_again a
again_by h = silent h

-- what it sends is heeded again
abbrev pub heeded : Host → Host
heeded (host.Ignore a) = host.Request a
heeded h = h

abbrev pub asked_still : (wait : ℕ) → (state : Asked → Host) → Asked → Move
asked_still wait state a =
    if is_zero wait then asked_again a else silent (state (record a { wait = wait }))

abbrev pub asked_second : (wait left : ℕ) → (state : Asked → Host) → Asked → Move
asked_second wait left state a =
    asked_still wait state (record a {
      common = wound a.status a.common left;
      due = is_due a.status a.common left || a.due;
    })

-- what is kept once the server was given up
abbrev pub lapsed : Common → (wait : ℕ) → Served → Lapsed
lapsed c wait a = record { common = c; status = a.status; tries = a.tries; wait = wait }

-- the server has not answered
abbrev pub served_second : (gave_up : Bool) → (wait left : ℕ) → Served → Move
served_second gave_up wait left a =
    let c = wound a.status a.common left in
    if is_zero wait
    then new_round (dropped c) a.status false false a.tries
    else (if gave_up
    then silent (host.GaveUp (lapsed c wait a))
    else silent (host.Server (record a {
      common = c;
      wait = wait;
      due = is_due a.status a.common left || a.due;
    })))

-- in the state in which it is asked
abbrev pub lapsed_by : Host → Host
lapsed_by (host.Server a) = host.GaveUp (lapsed a.common a.wait a)
lapsed_by h = h

abbrev pub lapsed_second : (wait left : ℕ) → Lapsed → Move
lapsed_second wait left a =
    let c = wound a.status a.common left in
    if is_zero wait
    then new_round (dropped c) a.status false false a.tries
    else silent (host.GaveUp (record a { common = c; wait = wait }))

-- the host is to be authenticated again
abbrev pub admitted_second : (left : ℕ) → Admitted → Move
admitted_second left a =
    let c = wound true a.common left in
    if is_due true a.common left
    then new_round c true false false a.tries
    else silent (host.Authenticated (record a { common = c }))

-- it is not, and its timer falls
abbrev pub fallen : Admitted → Admitted
fallen a = record a { common = record a.common { left = time_left true a.common } }

-- whether nothing falls due in a second for a host that is let in, and nothing is left to be done for
-- the server's side
abbrev pub is_idle : Host → Bool
is_idle (host.Authenticated a) =
    not (a.common.ask || a.common.abort) && not (is_due true a.common (time_left true a.common))
is_idle h = false

-- the host may be asked again
abbrev pub refused_second : (wait left : ℕ) → Refused → Move
refused_second wait left a =
    let c = wound false a.common left in
    if is_zero wait
    then new_round c false a.starts a.logs_off a.tries
    else silent (host.Held (record a { common = c; wait = wait }))

abbrev pub after_second : (gave_up : Bool) → Host → Move
after_second late (host.Request a) =
    asked_second (a.wait - 1) (time_left a.status a.common) host.Request a
after_second late (host.Ignore a) =
    asked_second (a.wait - 1) (time_left a.status a.common) host.Ignore a
after_second late (host.Server a) = served_second late (a.wait - 1) (time_left a.status a.common) a
after_second late (host.GaveUp a) = lapsed_second (a.wait - 1) (time_left a.status a.common) a
after_second late (host.Authenticated a) = admitted_second (time_left true a.common) a
after_second late (host.Held a) = refused_second (a.wait - 1) (time_left false a.common) a
after_second late (host.Ended a) = silent (host.Ended a)

-- a second was done, and nothing sent, or nothing was done
abbrev pub Ticks : (gave_up done : Bool) → Host → Host → Type 0
Ticks gave_up true h k =
    (k ≡ (after_second gave_up h).host) × ((after_second gave_up h).packets ≡ [])
Ticks gave_up false h k = k ≡ h

-- ---- each event

abbrev pub move : Event → Host → Move
move Start h = after_start h
move Logoff h = after_logoff h
move (Greeting source) h = silent h
move (Packet eap) h = after_packet eap h
move (Challenge eap wait) h = after_challenge eap wait h
move Notice h = after_notice h
move (Accept eap again period) h = after_accept eap again period h
move (Reject eap) h = after_reject eap h
move (Second gave_up) h = after_second gave_up h
move (Change again period) h = after_change again period h

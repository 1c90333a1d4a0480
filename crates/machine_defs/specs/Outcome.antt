-- What each event makes of a settled value, and the EAP packets that are sent: the rows that settling
-- takes, each by what it does, one after another. No table is looked at; that the tables lead to the
-- same is proved.
use Rattle.std.specs.Prelude.{ℕ, ◌+◌, Bool, true, not, ◌&&◌, ◌||◌, nat_lt, if◌then◌else◌, List, [], ◌∷◌}
use Rattle.machine_vars.specs.declared.vars.Vars.{Vars}
use Rattle.machine_vars.specs.declared.control.Control.{Control}
use Rattle.machine_vars.specs.declared.control.Control.TheVariants as control
use Rattle.machine_vars.specs.declared.states.Pae.{Pae}
use Rattle.machine_vars.specs.declared.states.Pae.TheVariants as pae
use Rattle.machine_vars.specs.declared.states.Backend.{Backend}
use Rattle.machine_vars.specs.declared.states.Backend.TheVariants as backend
use Rattle.machine_vars.specs.declared.states.EapState.{EapState}
use Rattle.machine_vars.specs.declared.states.EapState.TheVariants as eap
use Rattle.machine_defs.specs.Table.{is_zero}
use Rattle.machine_defs.specs.PaeTable as Pae
use Rattle.machine_defs.specs.BackendTable as Back
use Rattle.machine_defs.specs.ReauthTable as Re
use Rattle.machine_defs.specs.EapTable as Eap
use Rattle.machine_defs.specs.Settling.{Rest}
use Rattle.machine_defs.specs.Live.{Event, Start, Logoff, Greeting, Packet, Challenge, Notice, Accept, Reject, Second, Change, set}

-- the nine combinations of states that are settled, and the opening one
pub data Combination : Type 0 where
  -- nothing was done yet
  Opening : Combination
  -- the host is asked, and is asked again after a response that was not taken
  Request : Combination
  Ignore : Combination
  -- the server is asked, and was given up
  Server : Combination
  GaveUp : Combination
  -- the host was let in, and was refused
  Authenticated : Combination
  Held : Combination
  -- the port is forced open, and is forced shut
  Open : Combination
  Shut : Combination
  -- the host was given up
  Ended : Combination

-- the combination of a settled value
abbrev pub by_eap : EapState → Combination
by_eap eap.AaaIdle = Server
by_eap _ = GaveUp

abbrev pub by_backend : Backend → EapState → Combination
by_backend backend.Request s = Request
by_backend backend.Ignore s = Ignore
by_backend _ s = by_eap s

abbrev pub by_pae : Pae → Backend → EapState → Combination
by_pae pae.Initialize b s = Opening
by_pae pae.Authenticated b s = Authenticated
by_pae pae.Held b s = Held
by_pae pae.ForceAuth b s = Open
by_pae pae.ForceUnauth b s = Shut
by_pae _ b s = by_backend b s

abbrev pub combination : Vars → Combination
combination v = if v.gone then Ended else by_pae v.pae v.backend v.eap

-- no row is taken
abbrev pub silent : Vars → Rest
silent v = record { vars = v; packets = [] }

-- ---- a new round, from RESTART

-- E1 P6 P8 B4 E2: the host is asked for its identity
abbrev pub asked : Vars → Rest
asked v =
    let w = Pae.authenticating (Pae.connecting (Eap.start v)) in
    record { vars = Eap.idle2 (Back.request w); packets = w.last_req_data.items ∷ [] }

-- E1 P6 P7 P5: the host was asked too often, or logs off, and is Unauthorized from now on
abbrev pub disconnected : Vars → Vars
disconnected v = Pae.restart (Pae.disconnected (Pae.connecting (Eap.start v)))

-- E1 P6 P7: an Unauthorized host was asked too often and does not begin anew
abbrev pub ended : Vars → Vars
ended v = record (Pae.disconnected (Pae.connecting (Eap.start v))) { gone = true }

-- there is no try left
abbrev pub is_tired : Vars → Bool
is_tired v = nat_lt v.times.reauth_max (v.re_auth_count + 1)

abbrev pub anew : Vars → Rest
anew v =
    if v.eapol_logoff || is_tired v
    then (if not v.auth_port_status && not v.eapol_start && is_tired v
    then silent (ended v)
    else asked (disconnected v))
    else asked v

-- P11 B1 P15 B2, and after a Logoff P11 B1 P14 P5 B2: what was begun is broken off
abbrev pub aborted : Vars → Vars
aborted v = Back.idle (Pae.restart (Back.initialize (Pae.aborting v)))

abbrev pub left : Vars → Vars
left v = Back.idle (Pae.restart (Pae.disconnected (Back.initialize (Pae.aborting v))))

-- ---- the opening value

-- P4 P5 B2 of an Auto port, P2 and P3 of the others
abbrev pub begun_by : Control → Vars → Rest
begun_by control.Auto v = anew (Back.idle (Pae.restart (Pae.disconnected v)))
begun_by control.ForceAuth v = record { vars = Pae.force_auth v; packets = Pae.success v }
begun_by control.ForceUnauth v = record { vars = Pae.force_unauth v; packets = Pae.failure v }

abbrev pub begun : Vars → Rest
begun v = begun_by v.port_control v

-- ---- what the host sends; the event is set

-- P12, P17 or P18
abbrev pub started : Combination → Vars → Rest
started Request v = anew (aborted v)
started Ignore v = anew (aborted v)
started Server v = anew (aborted v)
started GaveUp v = anew (aborted v)
started Authenticated v = anew (Pae.restart v)
started Open v = record { vars = Pae.force_auth v; packets = Pae.success v }
started Shut v = record { vars = Pae.force_unauth v; packets = Pae.failure v }
started _ v = silent v

-- P13 P5
abbrev pub logged_off : Combination → Vars → Rest
logged_off Request v = anew (left v)
logged_off Ignore v = anew (left v)
logged_off Server v = anew (left v)
logged_off GaveUp v = anew (left v)
logged_off Authenticated v = anew (Pae.restart (Pae.disconnected v))
logged_off _ v = silent v

-- E3, and then E7 E10, or where it does not fit E8 B9 E9: a response is looked at
abbrev pub looked_at : Vars → Rest
looked_at v =
    let w = Eap.received2 v in
    if Eap.fits w
    then silent (Eap.aaa_idle (Eap.aaa_request w))
    else silent (Eap.idle2 (Back.ignore (Eap.discard2 w)))

-- B6
abbrev pub received : Combination → Vars → Rest
received Request v = looked_at (Back.response v)
received Ignore v = looked_at (Back.response v)
received _ v = silent v

-- ---- what the server answers

-- E12 E16 B10 E17
abbrev pub challenged : Combination → Vars → Rest
challenged Server v = record {
  vars = Eap.idle2 (Back.request (Eap.send_request2 (Eap.aaa_response v)));
  packets = v.aaa_eap_req_data.items ∷ [];
}
challenged _ v = silent v

-- E11 B9 E9, or where a packet has come since E11 B9 B6 E9
abbrev pub noted_from : Vars → Rest
noted_from v = if v.eapol_eap then looked_at (Eap.idle2 (Back.response v)) else silent (Eap.idle2 v)

abbrev pub noted : Combination → Vars → Rest
noted Server v = noted_from (Back.ignore (Eap.discard2 v))
noted _ v = silent v

-- what is sent before a new round
abbrev pub says : List ℕ → Rest → Rest
says packet r = record { vars = r.vars; packets = packet ∷ r.packets }

-- E15 B13 P9 B14, or where the host is to be authenticated again E15 B13 P9 P12 B14
abbrev pub accepted : Combination → Vars → Rest
accepted Server v =
    let w = Pae.authenticated (Back.success (Eap.success2 v)) in
    says v.aaa_eap_req_data.items
    (if v.re_authenticate then anew (Back.idle (Pae.restart w)) else silent (Back.idle w))
accepted _ v = silent v

-- E14 B12 P10 B14
abbrev pub refused : Combination → Vars → Rest
refused Server v = record {
  vars = Back.idle (Pae.held (Back.fail (Eap.failure2 v)));
  packets = v.aaa_eap_req_data.items ∷ [];
}
refused _ v = silent v

-- ---- a second; the timers have fallen

-- the reauthentication timer has run out
abbrev pub is_due : Vars → Bool
is_due v = not (Re.stops v) && is_zero v.re_auth_when

-- A2 A3
abbrev pub timed : Vars → Vars
timed v = if is_due v then Re.initialize (Re.reauthenticate v) else v

-- E4 E5 B8, and what was begun is broken off: the request was sent too often
abbrev pub spent : Vars → Vars
spent v = aborted (Back.timeout (Eap.timeout_failure2 (Eap.retransmit2 v)))

-- E4 B7 E6: the request is sent again
abbrev pub resent : Vars → Rest
resent v =
    if is_zero v.retrans_while
    then (if nat_lt 3 (v.retrans_count + 1)
    then anew (spent v)
    else record {
      vars = Eap.idle2 (Back.request (Eap.retransmit2 v));
      packets = v.last_req_data.items ∷ [];
    })
    else silent v

-- B11: the server has not answered, or is given up by E13
abbrev pub waited : Vars → Rest
waited v =
    if is_zero v.a_while
    then anew (aborted (Back.timeout v))
    else (if v.aaa_timeout then silent (Eap.timeout_failure2 v) else silent v)

abbrev pub given_up : Vars → Rest
given_up v = if is_zero v.a_while then anew (aborted (Back.timeout v)) else silent v

-- A2 P12 A3, P16
abbrev pub passed : Combination → Vars → Rest
passed Request v = resent (timed v)
passed Ignore v = resent (timed v)
passed Server v = waited (timed v)
passed GaveUp v = given_up (timed v)
passed Authenticated v = if is_due v then anew (Pae.restart (timed v)) else silent v
passed Held v = if is_zero v.quiet_while then anew (Pae.restart v) else silent v
passed _ v = silent v

-- ---- all events

abbrev pub follows : Event → Combination → Vars → Rest
follows e Opening v = begun v
follows Start c v = started c v
follows Logoff c v = logged_off c v
follows (Greeting source) c v = started c v
follows (Packet eap) c v = received c v
follows (Challenge eap wait) c v = challenged c v
follows Notice c v = noted c v
follows (Accept eap again period) c v = accepted c v
follows (Reject eap) c v = refused c v
follows (Second gave_up) c v = passed c v
follows (Change again period) c v = silent v

abbrev pub outcome : Event → Vars → Rest
outcome e v = follows e (combination v) (set e v)

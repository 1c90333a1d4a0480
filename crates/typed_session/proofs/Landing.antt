-- Each event of each combination of states: the host that it leads to is that of the move, and what is sent is what the
-- move says.
use Rattle.std.proofs.Common.{◌≡◌, ℕ, ◌-◌, ◌∙◌, Bool, true, false, List, ◌∷◌, Some, refl, subst, sym, ap}
use Rattle.std.specs.Prelude.{◌||◌, if◌then◌else◌}
use Rattle.machine_vars.specs.declared.vars.Vars.{Vars}
use Rattle.machine_vars.specs.declared.control.Control.{Control}
use Rattle.machine_vars.specs.declared.control.Control.TheVariants.{Auto}
use Rattle.machine_vars.specs.declared.states.Pae.TheVariants as Pae
use Rattle.machine_vars.specs.declared.states.Backend.TheVariants as Backend
use Rattle.machine_vars.specs.declared.states.EapState.TheVariants as EapState
use Rattle.machine_defs.specs.Table.{is_zero}
use Rattle.machine_defs.specs.PaeTable as PaeTable
use Rattle.machine_defs.specs.BackendTable as Back
use Rattle.machine_defs.specs.ReauthTable as Re
use Rattle.machine_defs.specs.EapTable as Eap
use Rattle.machine_defs.specs.Live.{Event, IsProper, set, Start, Logoff, Greeting, Packet, Challenge, Notice, Accept, Reject, Second, Change}
use Rattle.machine_defs.specs.Settled.{GoesOn, IsAuthenticating, AtRequest, AtIgnore, AtServer}
use Rattle.machine_defs.specs.Outcome as outcome
use Rattle.typed_session.specs.declared.host.Asked.{Asked}
use Rattle.typed_session.specs.declared.host.Host.{Host}
use Rattle.typed_session.specs.declared.host.Host.TheVariants as host
use Rattle.typed_session.specs.Stands.{host_of, common_of, asked_of, served_of, lapsed_of, admitted_of, refused_of, closed_of}
use Rattle.typed_session.specs.Moves.{Move, silent, new_round, dropped, answered, waiting_again, timed, after_word}
use Rattle.typed_session.specs.Seconds.{move, is_due, time_left, asked_second, asked_still}
use Rattle.typed_session.proofs.Rounds.{Lands, begins, looked, resent}

-- the host of a value in each combination
pub request_host : (v : Vars) → v.gone ≡ false → v.pae ≡ Pae.Authenticating → v.backend ≡ Backend.Request → host_of v ≡ Some (host.Request (asked_of v))
request_host v g p b = rw (g, p, b) refl

pub ignore_host : (v : Vars) → v.gone ≡ false → v.pae ≡ Pae.Authenticating → v.backend ≡ Backend.Ignore → host_of v ≡ Some (host.Ignore (asked_of v))
ignore_host v g p b = rw (g, p, b) refl

pub server_host : (v : Vars) → v.gone ≡ false → v.pae ≡ Pae.Authenticating → v.backend ≡ Backend.Response → v.eap ≡ EapState.AaaIdle → host_of v ≡ Some (host.Server (served_of v))
server_host v g p b e = rw (g, p, b, e) refl

pub gave_up_host : (v : Vars) → v.gone ≡ false → v.pae ≡ Pae.Authenticating → v.backend ≡ Backend.Response → v.eap ≡ EapState.TimeoutFailure2 → host_of v ≡ Some (host.GaveUp (lapsed_of v))
gave_up_host v g p b e = rw (g, p, b, e) refl

pub authenticated_host : (v : Vars) → v.gone ≡ false → v.pae ≡ Pae.Authenticated → host_of v ≡ Some (host.Authenticated (admitted_of v))
authenticated_host v g p = rw (g, p) refl

pub held_host : (v : Vars) → v.gone ≡ false → v.pae ≡ Pae.Held → host_of v ≡ Some (host.Held (refused_of v))
held_host v g p = rw (g, p) refl

pub ended_host : (v : Vars) → v.gone ≡ true → host_of v ≡ Some (host.Ended (closed_of v))
ended_host v g = rw g refl

-- a forced port alone is greeted
pub not_forced : {c : Control} {X : Type 0} → c ≡ Auto → Back.is_auto c ≡ false → X
not_forced e i = let P : Control → Type 0 = λ x. Back.is_auto x ≡ false in let f : true ≡ false = subst P e i in cc

-- ---- the timer of reauthentication

-- whether it has run out, and what it has left, are the same of the value
module _ (v : Vars) (late : Bool) {on : Bool} (control : v.port_control ≡ Auto) (calm : v.initialize ≡ false) (status : v.auth_port_status ≡ on) where
  pub due_same : outcome.is_due (set (Second late) v) ≡ is_due on (common_of v) (time_left on (common_of v))
  due_same = rw (control, calm, status) refl

  pub left_same : (set (Second late) v).re_auth_when ≡ time_left on (common_of v)
  left_same = rw (control, calm, status) refl

-- the value after the timer has run out
abbrev pub wound_up : Vars → Vars
wound_up v = Re.initialize (Re.reauthenticate v)

-- ---- while the host is asked

module _ (v : Vars) (late : Bool) (state : Asked → Host) (on : GoesOn v) (p : v.pae ≡ Pae.Authenticating) (f : IsAuthenticating v)
    (h : (w : Vars) → w.gone ≡ false → w.pae ≡ Pae.Authenticating → w.backend ≡ v.backend → host_of w ≡ Some (state (asked_of w))) where
  abbrev passed : Vars
  passed = set (Second late) v

  abbrev after : (due : Bool) → (left : ℕ) → Asked
  after due left = record (asked_of v) { common = record (common_of v) { left = if due then v.re_auth_period else left }; due = due || v.re_authenticate }

  by_due : (due : Bool) (left : ℕ) → passed.re_auth_when ≡ left → Lands (asked_still (v.retrans_while - 1) state (after due left)) (outcome.resent (if due then wound_up passed else passed))
  by_due true left e = let y = wound_up passed in resent y state on.gone p f.eapol_start f.eapol_logoff (h y on.gone p refl)
  by_due false left e =
      let P : ℕ → Type 0 = λ n. Lands (asked_still (v.retrans_while - 1) state (after false n)) (outcome.resent passed) in
      subst P e (resent passed state on.gone p f.eapol_start f.eapol_logoff (h passed on.gone p refl))

  asked_passes : let c = common_of v in let left = time_left v.auth_port_status c in
      Lands (asked_second (v.retrans_while - 1) left state (asked_of v)) (outcome.resent (outcome.timed passed))
  asked_passes =
      let c = common_of v in
      let left = time_left v.auth_port_status c in
      let m = asked_second (v.retrans_while - 1) left state (asked_of v) in
      let P : Bool → Type 0 = λ b. Lands m (outcome.resent (if b then wound_up passed else passed)) in
      subst P (sym (due_same v late on.control on.initialize refl)) (by_due (is_due v.auth_port_status c left) left (left_same v late on.control on.initialize refl))

pub request_lands : (e : Event) (v : Vars) → IsProper e v → AtRequest v → Lands (move e (host.Request (asked_of v))) (outcome.follows e outcome.Request (set e v))
request_lands Start v i a = begins (outcome.aborted (set Start v)) a.session.gone refl refl a.flags.eapol_logoff
request_lands Logoff v i a = begins (outcome.left (set Logoff v)) a.session.gone refl a.flags.eapol_start refl
request_lands (Greeting source) v i a = not_forced a.session.control i
request_lands (Packet eap) v i a = looked (Back.response (set (Packet eap) v)) a.session.gone a.states.pae refl refl refl refl
request_lands (Challenge eap wait) v i a = (request_host (set (Challenge eap wait) v) a.session.gone a.states.pae a.states.backend, refl)
request_lands Notice v i a = (request_host (set Notice v) a.session.gone a.states.pae a.states.backend, refl)
request_lands (Accept eap again n) v i a = (request_host (set (Accept eap again n) v) a.session.gone a.states.pae a.states.backend, refl)
request_lands (Reject eap) v i a = (request_host (set (Reject eap) v) a.session.gone a.states.pae a.states.backend, refl)
request_lands (Second late) v i a =
    asked_passes v late host.Request a.session a.states.pae a.flags (λ w g p b. request_host w g p (b ∙ a.states.backend))
request_lands (Change again n) v i a = (request_host (set (Change again n) v) a.session.gone a.states.pae a.states.backend, refl)

pub ignore_lands : (e : Event) (v : Vars) → IsProper e v → AtIgnore v → Lands (move e (host.Ignore (asked_of v))) (outcome.follows e outcome.Ignore (set e v))
ignore_lands Start v i a = begins (outcome.aborted (set Start v)) a.session.gone refl refl a.flags.eapol_logoff
ignore_lands Logoff v i a = begins (outcome.left (set Logoff v)) a.session.gone refl a.flags.eapol_start refl
ignore_lands (Greeting source) v i a = not_forced a.session.control i
ignore_lands (Packet eap) v i a = looked (Back.response (set (Packet eap) v)) a.session.gone a.states.pae refl refl refl refl
ignore_lands (Challenge eap wait) v i a = (ignore_host (set (Challenge eap wait) v) a.session.gone a.states.pae a.states.backend, refl)
ignore_lands Notice v i a = (ignore_host (set Notice v) a.session.gone a.states.pae a.states.backend, refl)
ignore_lands (Accept eap again n) v i a = (ignore_host (set (Accept eap again n) v) a.session.gone a.states.pae a.states.backend, refl)
ignore_lands (Reject eap) v i a = (ignore_host (set (Reject eap) v) a.session.gone a.states.pae a.states.backend, refl)
ignore_lands (Second late) v i a =
    asked_passes v late host.Ignore a.session a.states.pae a.flags (λ w g p b. ignore_host w g p (b ∙ a.states.backend))
ignore_lands (Change again n) v i a = (ignore_host (set (Change again n) v) a.session.gone a.states.pae a.states.backend, refl)

-- ---- while the server is asked

-- a packet that came since is looked at
noted : (v : Vars) → v.gone ≡ false → v.pae ≡ Pae.Authenticating →
    Lands (move Notice (host.Server (served_of v))) (outcome.follows Notice outcome.Server (set Notice v))
noted v g p = by_heard v.eapol_eap
  where
    ignored : Vars
    ignored = Back.ignore (Eap.discard2 (set Notice v))

    by_heard : (heard : Bool) →
        (let a = waiting_again (served_of v) in
        Lands (silent (if heard then answered v.rx_eap.items a else host.Ignore a))
        (if heard then outcome.looked_at (Eap.idle2 (Back.response ignored)) else outcome.silent (Eap.idle2 ignored)))
    by_heard true = looked (Eap.idle2 (Back.response ignored)) g p refl refl refl refl
    by_heard false = (ignore_host (Eap.idle2 ignored) g p refl, refl)

-- the host is let in
accepted : (eap : List ℕ) (again : Bool) (n : ℕ) (v : Vars) → AtServer v →
    Lands (move (Accept eap again n) (host.Server (served_of v))) (outcome.follows (Accept eap again n) outcome.Server (set (Accept eap again n) v))
accepted eap again n v a = by_due v.re_authenticate
  where
    admitted : Vars
    admitted = PaeTable.authenticated (Back.success (Eap.success2 (set (Accept eap again n) v)))

    by_due : (due : Bool) →
        (let c = timed again n (common_of v) in
        Lands (after_word eap (if due then new_round c true false false 0 else silent (host.Authenticated (record { common = c; tries = 0 }))))
        (outcome.says eap (if due then outcome.anew (Back.idle (PaeTable.restart admitted)) else outcome.silent (Back.idle admitted))))
    by_due true =
        let l = begins (Back.idle (PaeTable.restart admitted)) a.session.gone refl a.flags.eapol_start a.flags.eapol_logoff in
        (l.0, ap (λ xs. eap ∷ xs) l.1)
    by_due false = (authenticated_host (Back.idle admitted) a.session.gone refl, refl)

-- it is waited for, and once its time has run out given up
waited : (y : Vars) (late : Bool) → y.gone ≡ false → y.pae ≡ Pae.Authenticating → y.backend ≡ Backend.Response → y.eap ≡ EapState.AaaIdle →
    y.eapol_start ≡ false → y.eapol_logoff ≡ false → y.aaa_timeout ≡ late →
    Lands (if is_zero y.a_while then new_round (dropped (common_of y)) y.auth_port_status false false y.re_auth_count else (if late then silent (host.GaveUp (lapsed_of y)) else silent (host.Server (served_of y)))) (outcome.waited y)
waited y late g p b e s l t =
    let m = (if is_zero y.a_while then new_round (dropped (common_of y)) y.auth_port_status false false y.re_auth_count else (if late then silent (host.GaveUp (lapsed_of y)) else silent (host.Server (served_of y)))) in
    let P : Bool → Type 0 = λ x. Lands m (if is_zero y.a_while then outcome.anew (outcome.aborted (Back.timeout y)) else (if x then outcome.silent (Eap.timeout_failure2 y) else outcome.silent y)) in
    subst P (sym t) (by_tests (is_zero y.a_while) late)
  where
    by_tests : (due late : Bool) →
        Lands (if due then new_round (dropped (common_of y)) y.auth_port_status false false y.re_auth_count else (if late then silent (host.GaveUp (lapsed_of y)) else silent (host.Server (served_of y))))
        (if due then outcome.anew (outcome.aborted (Back.timeout y)) else (if late then outcome.silent (Eap.timeout_failure2 y) else outcome.silent y))
    by_tests true late = begins (outcome.aborted (Back.timeout y)) g refl s l
    by_tests false true = (gave_up_host (Eap.timeout_failure2 y) g p b refl, refl)
    by_tests false false = (server_host y g p b e, refl)

module _ (v : Vars) (late : Bool) (a : AtServer v) where
  abbrev server_passed : Vars
  server_passed = set (Second late) v

  abbrev served_after : (due : Bool) → (left : ℕ) → Move
  served_after due left =
      let c = record (common_of v) { left = if due then v.re_auth_period else left } in
      if is_zero (v.a_while - 1)
      then new_round (dropped c) v.auth_port_status false false v.re_auth_count
      else (if late
      then silent (host.GaveUp (record { common = c; status = v.auth_port_status; tries = v.re_auth_count; wait = v.a_while - 1 }))
      else silent (host.Server (record (served_of v) { common = c; wait = v.a_while - 1; due = due || v.re_authenticate })))

  is_late : server_passed.aaa_timeout ≡ late
  is_late = rw a.calm.aaa_timeout refl

  served_by : (due : Bool) (left : ℕ) → server_passed.re_auth_when ≡ left → Lands (served_after due left) (outcome.waited (if due then wound_up server_passed else server_passed))
  served_by true left e = waited (wound_up server_passed) late a.session.gone a.states.pae a.states.backend a.states.eap a.flags.eapol_start a.flags.eapol_logoff is_late
  served_by false left e =
      let P : ℕ → Type 0 = λ n. Lands (served_after false n) (outcome.waited server_passed) in
      subst P e (waited server_passed late a.session.gone a.states.pae a.states.backend a.states.eap a.flags.eapol_start a.flags.eapol_logoff is_late)

  server_passes : Lands (move (Second late) (host.Server (served_of v))) (outcome.waited (outcome.timed server_passed))
  server_passes =
      let c = common_of v in
      let left = time_left v.auth_port_status c in
      let m = move (Second late) (host.Server (served_of v)) in
      let P : Bool → Type 0 = λ b. Lands m (outcome.waited (if b then wound_up server_passed else server_passed)) in
      subst P (sym (due_same v late a.session.control a.session.initialize refl)) (served_by (is_due v.auth_port_status c left) left (left_same v late a.session.control a.session.initialize refl))

pub server_lands : (e : Event) (v : Vars) → IsProper e v → AtServer v → Lands (move e (host.Server (served_of v))) (outcome.follows e outcome.Server (set e v))
server_lands Start v i a = begins (outcome.aborted (set Start v)) a.session.gone refl refl a.flags.eapol_logoff
server_lands Logoff v i a = begins (outcome.left (set Logoff v)) a.session.gone refl a.flags.eapol_start refl
server_lands (Greeting source) v i a = not_forced a.session.control i
server_lands (Packet eap) v i a = (server_host (set (Packet eap) v) a.session.gone a.states.pae a.states.backend a.states.eap, refl)
server_lands (Challenge eap wait) v i a = (request_host (Eap.idle2 (Back.request (Eap.send_request2 (Eap.aaa_response (set (Challenge eap wait) v))))) a.session.gone a.states.pae refl, refl)
server_lands Notice v i a = noted v a.session.gone a.states.pae
server_lands (Accept eap again n) v i a = accepted eap again n v a
server_lands (Reject eap) v i a = (held_host (Back.idle (PaeTable.held (Back.fail (Eap.failure2 (set (Reject eap) v))))) a.session.gone refl ∙ rw a.flags.eapol_start refl, refl)
server_lands (Second late) v i a = server_passes v late a
server_lands (Change again n) v i a = (server_host (set (Change again n) v) a.session.gone a.states.pae a.states.backend a.states.eap, refl)

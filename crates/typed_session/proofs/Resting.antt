-- Each event of a host that neither it nor the server is waited for: the host that it leads to is that of the move, and
-- what is sent is what the move says.
use Rattle.std.proofs.Common.{◌≡◌, ℕ, ◌-◌, Bool, true, false, refl, subst, sym}
use Rattle.std.specs.Prelude.{if◌then◌else◌}
use Rattle.machine_vars.specs.declared.vars.Vars.{Vars}
use Rattle.machine_vars.specs.declared.states.Pae.TheVariants as Pae
use Rattle.machine_vars.specs.declared.states.Backend.TheVariants as Backend
use Rattle.machine_vars.specs.declared.states.EapState.TheVariants as EapState
use Rattle.machine_defs.specs.Table.{is_zero}
use Rattle.machine_defs.specs.PaeTable as PaeTable
use Rattle.machine_defs.specs.BackendTable as Back
use Rattle.machine_defs.specs.Live.{Event, IsProper, set, Start, Logoff, Greeting, Packet, Challenge, Notice, Accept, Reject, Second, Change}
use Rattle.machine_defs.specs.Settled.{AtGaveUp, AtAuthenticated, AtHeld}
use Rattle.machine_defs.specs.Outcome as outcome
use Rattle.typed_session.specs.declared.host.Host.TheVariants as host
use Rattle.typed_session.specs.Stands.{common_of, lapsed_of, admitted_of, refused_of, closed_of}
use Rattle.typed_session.specs.Moves.{Move, silent, new_round, dropped}
use Rattle.typed_session.specs.Seconds.{move, is_due, time_left}
use Rattle.typed_session.proofs.Rounds.{Lands, begins}
use Rattle.typed_session.proofs.Landing.{gave_up_host, authenticated_host, held_host, ended_host, not_forced, due_same, left_same, wound_up}

-- ---- the server was given up

lapsed : (y : Vars) → y.gone ≡ false → y.pae ≡ Pae.Authenticating → y.backend ≡ Backend.Response → y.eap ≡ EapState.TimeoutFailure2 →
    y.eapol_start ≡ false → y.eapol_logoff ≡ false →
    Lands (if is_zero y.a_while then new_round (dropped (common_of y)) y.auth_port_status false false y.re_auth_count else silent (host.GaveUp (lapsed_of y))) (outcome.given_up y)
lapsed y g p b e s l = by_test (is_zero y.a_while)
  where
    by_test : (due : Bool) →
        Lands (if due then new_round (dropped (common_of y)) y.auth_port_status false false y.re_auth_count else silent (host.GaveUp (lapsed_of y)))
        (if due then outcome.anew (outcome.aborted (Back.timeout y)) else outcome.silent y)
    by_test true = begins (outcome.aborted (Back.timeout y)) g refl s l
    by_test false = (gave_up_host y g p b e, refl)

module _ (v : Vars) (late : Bool) (a : AtGaveUp v) where
  abbrev lapsed_passed : Vars
  lapsed_passed = set (Second late) v

  abbrev lapsed_after : (due : Bool) → (left : ℕ) → Move
  lapsed_after due left =
      let c = record (common_of v) { left = if due then v.re_auth_period else left } in
      if is_zero (v.a_while - 1)
      then new_round (dropped c) v.auth_port_status false false v.re_auth_count
      else silent (host.GaveUp (record (lapsed_of v) { common = c; wait = v.a_while - 1 }))

  lapsed_by : (due : Bool) (left : ℕ) → lapsed_passed.re_auth_when ≡ left → Lands (lapsed_after due left) (outcome.given_up (if due then wound_up lapsed_passed else lapsed_passed))
  lapsed_by true left e = lapsed (wound_up lapsed_passed) a.session.gone a.states.pae a.states.backend a.states.eap a.flags.eapol_start a.flags.eapol_logoff
  lapsed_by false left e =
      let P : ℕ → Type 0 = λ n. Lands (lapsed_after false n) (outcome.given_up lapsed_passed) in
      subst P e (lapsed lapsed_passed a.session.gone a.states.pae a.states.backend a.states.eap a.flags.eapol_start a.flags.eapol_logoff)

  lapsed_passes : Lands (move (Second late) (host.GaveUp (lapsed_of v))) (outcome.given_up (outcome.timed lapsed_passed))
  lapsed_passes =
      let c = common_of v in
      let left = time_left v.auth_port_status c in
      let m = move (Second late) (host.GaveUp (lapsed_of v)) in
      let P : Bool → Type 0 = λ b. Lands m (outcome.given_up (if b then wound_up lapsed_passed else lapsed_passed)) in
      subst P (sym (due_same v late a.session.control a.session.initialize refl)) (lapsed_by (is_due v.auth_port_status c left) left (left_same v late a.session.control a.session.initialize refl))

pub gave_up_lands : (e : Event) (v : Vars) → IsProper e v → AtGaveUp v → Lands (move e (host.GaveUp (lapsed_of v))) (outcome.follows e outcome.GaveUp (set e v))
gave_up_lands Start v i a = begins (outcome.aborted (set Start v)) a.session.gone refl refl a.flags.eapol_logoff
gave_up_lands Logoff v i a = begins (outcome.left (set Logoff v)) a.session.gone refl a.flags.eapol_start refl
gave_up_lands (Greeting source) v i a = not_forced a.session.control i
gave_up_lands (Packet eap) v i a = (gave_up_host (set (Packet eap) v) a.session.gone a.states.pae a.states.backend a.states.eap, refl)
gave_up_lands (Challenge eap wait) v i a = (gave_up_host (set (Challenge eap wait) v) a.session.gone a.states.pae a.states.backend a.states.eap, refl)
gave_up_lands Notice v i a = (gave_up_host (set Notice v) a.session.gone a.states.pae a.states.backend a.states.eap, refl)
gave_up_lands (Accept eap again n) v i a = (gave_up_host (set (Accept eap again n) v) a.session.gone a.states.pae a.states.backend a.states.eap, refl)
gave_up_lands (Reject eap) v i a = (gave_up_host (set (Reject eap) v) a.session.gone a.states.pae a.states.backend a.states.eap, refl)
gave_up_lands (Second late) v i a = lapsed_passes v late a
gave_up_lands (Change again n) v i a = (gave_up_host (set (Change again n) v) a.session.gone a.states.pae a.states.backend a.states.eap, refl)

-- ---- the host is let in

module _ (v : Vars) (late : Bool) (a : AtAuthenticated v) where
  abbrev admitted_passed : Vars
  admitted_passed = set (Second late) v

  abbrev admitted_after : (due : Bool) → (left : ℕ) → Move
  admitted_after due left =
      let c = record (common_of v) { left = if due then v.re_auth_period else left } in
      if due
      then new_round c true false false v.re_auth_count
      else silent (host.Authenticated (record (admitted_of v) { common = c }))

  admitted_by : (due : Bool) (left : ℕ) → admitted_passed.re_auth_when ≡ left →
      Lands (admitted_after due left) (if due then outcome.anew (PaeTable.restart (if due then wound_up admitted_passed else admitted_passed)) else outcome.silent admitted_passed)
  admitted_by true left e = begins (PaeTable.restart (wound_up admitted_passed)) a.session.gone a.status a.flags.eapol_start a.flags.eapol_logoff
  admitted_by false left e =
      let P : ℕ → Type 0 = λ n. Lands (admitted_after false n) (outcome.silent admitted_passed) in
      subst P e (authenticated_host admitted_passed a.session.gone a.states.pae, refl)

  admitted_passes : Lands (move (Second late) (host.Authenticated (admitted_of v))) (outcome.follows (Second late) outcome.Authenticated admitted_passed)
  admitted_passes =
      let c = common_of v in
      let left = time_left true c in
      let m = move (Second late) (host.Authenticated (admitted_of v)) in
      let P : Bool → Type 0 = λ b. Lands m (if b then outcome.anew (PaeTable.restart (if b then wound_up admitted_passed else admitted_passed)) else outcome.silent admitted_passed) in
      subst P (sym (due_same v late a.session.control a.session.initialize a.status)) (admitted_by (is_due true c left) left (left_same v late a.session.control a.session.initialize a.status))

pub authenticated_lands : (e : Event) (v : Vars) → IsProper e v → AtAuthenticated v → Lands (move e (host.Authenticated (admitted_of v))) (outcome.follows e outcome.Authenticated (set e v))
authenticated_lands Start v i a = begins (PaeTable.restart (set Start v)) a.session.gone a.status refl a.flags.eapol_logoff
authenticated_lands Logoff v i a = begins (PaeTable.restart (PaeTable.disconnected (set Logoff v))) a.session.gone refl a.flags.eapol_start refl
authenticated_lands (Greeting source) v i a = not_forced a.session.control i
authenticated_lands (Packet eap) v i a = (authenticated_host (set (Packet eap) v) a.session.gone a.states.pae, refl)
authenticated_lands (Challenge eap wait) v i a = (authenticated_host (set (Challenge eap wait) v) a.session.gone a.states.pae, refl)
authenticated_lands Notice v i a = (authenticated_host (set Notice v) a.session.gone a.states.pae, refl)
authenticated_lands (Accept eap again n) v i a = (authenticated_host (set (Accept eap again n) v) a.session.gone a.states.pae, refl)
authenticated_lands (Reject eap) v i a = (authenticated_host (set (Reject eap) v) a.session.gone a.states.pae, refl)
authenticated_lands (Second late) v i a = admitted_passes v late a
authenticated_lands (Change again n) v i a = (authenticated_host (set (Change again n) v) a.session.gone a.states.pae, refl)

-- ---- the host was refused

module _ (v : Vars) (late : Bool) (a : AtHeld v) where
  abbrev refused_passed : Vars
  refused_passed = set (Second late) v

  abbrev refused_after : (due : Bool) → (left : ℕ) → Move
  refused_after due left =
      let c = record (common_of v) { left = left } in
      if due
      then new_round c false v.eapol_start v.eapol_logoff v.re_auth_count
      else silent (host.Held (record (refused_of v) { common = c; wait = v.quiet_while - 1 }))

  refused_by : (due : Bool) → Lands (refused_after due refused_passed.re_auth_when) (if due then outcome.anew (PaeTable.restart refused_passed) else outcome.silent refused_passed)
  refused_by true = begins (PaeTable.restart refused_passed) a.session.gone a.status refl refl
  refused_by false = (held_host refused_passed a.session.gone a.states.pae, refl)

  refused_passes : Lands (move (Second late) (host.Held (refused_of v))) (outcome.follows (Second late) outcome.Held refused_passed)
  refused_passes =
      let r = outcome.follows (Second late) outcome.Held refused_passed in
      let P : ℕ → Type 0 = λ n. Lands (refused_after (is_zero (v.quiet_while - 1)) n) r in
      subst P (left_same v late a.session.control a.session.initialize a.status) (refused_by (is_zero (v.quiet_while - 1)))

pub held_lands : (e : Event) (v : Vars) → IsProper e v → AtHeld v → Lands (move e (host.Held (refused_of v))) (outcome.follows e outcome.Held (set e v))
held_lands Start v i a = (held_host (set Start v) a.session.gone a.states.pae, refl)
held_lands Logoff v i a = (held_host (set Logoff v) a.session.gone a.states.pae, refl)
held_lands (Greeting source) v i a = not_forced a.session.control i
held_lands (Packet eap) v i a = (held_host (set (Packet eap) v) a.session.gone a.states.pae, refl)
held_lands (Challenge eap wait) v i a = (held_host (set (Challenge eap wait) v) a.session.gone a.states.pae, refl)
held_lands Notice v i a = (held_host (set Notice v) a.session.gone a.states.pae, refl)
held_lands (Accept eap again n) v i a = (held_host (set (Accept eap again n) v) a.session.gone a.states.pae, refl)
held_lands (Reject eap) v i a = (held_host (set (Reject eap) v) a.session.gone a.states.pae, refl)
held_lands (Second late) v i a = refused_passes v late a
held_lands (Change again n) v i a = (held_host (set (Change again n) v) a.session.gone a.states.pae, refl)

-- ---- the session ended

pub ended_lands : (e : Event) (v : Vars) → v.gone ≡ true → Lands (move e (host.Ended (closed_of v))) (outcome.follows e outcome.Ended (set e v))
ended_lands Start v g = (ended_host (set Start v) g, refl)
ended_lands Logoff v g = (ended_host (set Logoff v) g, refl)
ended_lands (Greeting source) v g = (ended_host (set (Greeting source) v) g, refl)
ended_lands (Packet eap) v g = (ended_host (set (Packet eap) v) g, refl)
ended_lands (Challenge eap wait) v g = (ended_host (set (Challenge eap wait) v) g, refl)
ended_lands Notice v g = (ended_host (set Notice v) g, refl)
ended_lands (Accept eap again n) v g = (ended_host (set (Accept eap again n) v) g, refl)
ended_lands (Reject eap) v g = (ended_host (set (Reject eap) v) g, refl)
ended_lands (Second late) v g = (ended_host (set (Second late) v) g, refl)
ended_lands (Change again n) v g = (ended_host (set (Change again n) v) g, refl)

-- The settled values as they are read, and as the chains compute on them, are the same.
use Rattle.std.proofs.Common.{◌≡◌, ℕ, suc, ◌-◌, ◌≤◌, Bool, true, false, refl, sym, subst, arith}
use Rattle.std.specs.Prelude.{nat_lt}
use Rattle.std.proofs.lemmas.Bool.Decides.{nat_tests}
use Rattle.machine_vars.specs.declared.vars.Vars.{Vars}
use Rattle.machine_vars.specs.declared.control.Times.{Times}
use Rattle.machine_vars.specs.declared.states.Pae.TheVariants as Pae
use Rattle.machine_vars.specs.declared.states.Backend.TheVariants as Backend
use Rattle.machine_vars.specs.declared.states.Reauth.TheVariants as Reauth
use Rattle.machine_vars.specs.declared.states.EapState.TheVariants as Eap
use Rattle.machine_defs.specs.Settled.{AreStates, AreFew, GoesOn, AtRequest, AtIgnore, AtServer, AtGaveUp, AtAuthenticated, AtHeld, AtOpen, AtShut, AtEnd, Settled, at_request, at_ignore, at_server, at_gave_up, at_authenticated, at_held, at_open, at_shut, at_end}
use Rattle.machine_defs.proofs.Forms.{Numbers, numbers, Clock, shut, still, ticks, status, enabled, when, has_left, Kept, auto, request, ignore, asks_server, gave_up, authenticated, held, forced_open, forced_shut, gone, Formed, as_request, as_ignore, as_server, as_gave_up, as_authenticated, as_held, as_open, as_shut, as_end}
use Rattle.machine_defs.proofs.Counts.{below}
use Rattle.machine_defs.proofs.Filling.{same, to_pae, to_backend, to_reauth, to_eap, to_port_control, to_port_mode, to_times, to_port_enabled, to_port_valid, to_initialize, to_auth_port_status, to_re_auth_enabled, to_eapol_start, to_eapol_logoff, to_eapol_eap, to_auth_start, to_auth_abort, to_auth_success, to_auth_fail, to_auth_timeout, to_key_run, to_key_done, to_re_authenticate, to_eap_restart, to_eap_req, to_eap_no_req, to_eap_resp, to_eap_success, to_eap_fail, to_eap_timeout, to_aaa_eap_req, to_aaa_eap_no_req, to_aaa_timeout, to_aaa_fail, to_aaa_success, to_gone, to_quiet_while, to_a_while, to_re_auth_when, to_retrans_while, to_re_auth_period}

-- ---- from what is read

not_below : {a b : ℕ} → b ≤ a → nat_lt a b ≡ false
not_below i = grind (arith, nat_tests)

kept : (v : Vars) → AreFew v → Kept v
kept v f = record { some = not_below f.most; tried = not_below f.tries; sent = not_below f.again }

-- a timer that runs has something left
left : {n : ℕ} → 1 ≤ n → n ≡ suc (n - 1)
left i = omega (arith, i)

abbrev numbers_of : Vars → Numbers
numbers_of v = numbers (v.times.quiet - 1) (v.times.server - 1) (v.re_auth_period - 1) v.method_timeout

times_left : (t : Times) → 1 ≤ t.quiet → 1 ≤ t.server → t ≡ record t { quiet = suc (t.quiet - 1); server = suc (t.server - 1) }
times_left t q s = rw (← left q, ← left s) refl

-- the status and the reauthentication timer
abbrev clock_of : Bool → Bool → ℕ → Clock
clock_of false on w = shut on w
clock_of true false w = still w
clock_of true true w = ticks (w - 1)

clock_status : (s on : Bool) (w : ℕ) → s ≡ status (clock_of s on w)
clock_status false on w = refl
clock_status true false w = refl
clock_status true true w = refl

clock_enabled : (s on : Bool) (w : ℕ) → on ≡ enabled (clock_of s on w)
clock_enabled false on w = refl
clock_enabled true false w = refl
clock_enabled true true w = refl

clock_when : (s on : Bool) (w : ℕ) → (s ≡ true → on ≡ true → 1 ≤ w) → w ≡ when (clock_of s on w)
clock_when false on w h = refl
clock_when true false w h = refl
clock_when true true w h = left (h refl refl)

abbrev clock : Vars → Clock
clock v = clock_of v.auth_port_status v.re_auth_enabled v.re_auth_when

goes_on : (v : Vars) → v.reauth ≡ Reauth.Initialize → GoesOn v → v ≡ auto v (numbers_of v) (clock v)
goes_on v r a =
    let s = v.auth_port_status in
    let on_ = v.re_auth_enabled in
    let w = v.re_auth_when in
    (to_reauth v r
    (to_times v (times_left v.times a.quiet a.server)
    (to_re_auth_period v (left a.period)
    (to_port_control v a.control
    (to_port_enabled v a.enabled
    (to_port_mode v a.mode
    (to_port_valid v a.valid
    (to_initialize v a.initialize
    (to_gone v a.gone
    (to_auth_port_status v (clock_status s on_ w)
    (to_re_auth_enabled v (clock_enabled s on_ w)
    (to_re_auth_when v (clock_when s on_ w a.clock)
    (same v)))))))))))))

read_request : (v : Vars) → AtRequest v → v ≡ request v (numbers_of v) (clock v) (v.retrans_while - 1)
read_request v a =
    (to_pae v a.states.pae
    (to_backend v a.states.backend
    (to_eap v a.states.eap
    (to_auth_start v a.flags.auth_start
    (to_eapol_start v a.flags.eapol_start
    (to_eapol_logoff v a.flags.eapol_logoff
    (to_auth_abort v a.flags.auth_abort
    (to_auth_success v a.flags.auth_success
    (to_auth_fail v a.flags.auth_fail
    (to_auth_timeout v a.flags.auth_timeout
    (to_key_run v a.flags.key_run
    (to_key_done v a.flags.key_done
    (to_eap_restart v a.flags.eap_restart
    (to_eap_req v a.flags.eap_req
    (to_eap_no_req v a.flags.eap_no_req
    (to_eap_success v a.flags.eap_success
    (to_eap_fail v a.flags.eap_fail
    (to_eapol_eap v a.calm.eapol_eap
    (to_eap_resp v a.calm.eap_resp
    (to_eap_timeout v a.calm.eap_timeout
    (to_retrans_while v (left a.runs)
    (goes_on v a.states.reauth a.session))))))))))))))))))))))

read_ignore : (v : Vars) → AtIgnore v → v ≡ ignore v (numbers_of v) (clock v) (v.retrans_while - 1)
read_ignore v a =
    (to_pae v a.states.pae
    (to_backend v a.states.backend
    (to_eap v a.states.eap
    (to_auth_start v a.flags.auth_start
    (to_eapol_start v a.flags.eapol_start
    (to_eapol_logoff v a.flags.eapol_logoff
    (to_auth_abort v a.flags.auth_abort
    (to_auth_success v a.flags.auth_success
    (to_auth_fail v a.flags.auth_fail
    (to_auth_timeout v a.flags.auth_timeout
    (to_key_run v a.flags.key_run
    (to_key_done v a.flags.key_done
    (to_eap_restart v a.flags.eap_restart
    (to_eap_req v a.flags.eap_req
    (to_eap_no_req v a.flags.eap_no_req
    (to_eap_success v a.flags.eap_success
    (to_eap_fail v a.flags.eap_fail
    (to_eapol_eap v a.calm.eapol_eap
    (to_eap_resp v a.calm.eap_resp
    (to_eap_timeout v a.calm.eap_timeout
    (to_retrans_while v (left a.runs)
    (goes_on v a.states.reauth a.session))))))))))))))))))))))

read_server : (v : Vars) → AtServer v → v ≡ asks_server v (numbers_of v) (clock v) (v.a_while - 1) v.eapol_eap v.re_authenticate
read_server v a =
    (to_pae v a.states.pae
    (to_backend v a.states.backend
    (to_eap v a.states.eap
    (to_auth_start v a.flags.auth_start
    (to_eapol_start v a.flags.eapol_start
    (to_eapol_logoff v a.flags.eapol_logoff
    (to_auth_abort v a.flags.auth_abort
    (to_auth_success v a.flags.auth_success
    (to_auth_fail v a.flags.auth_fail
    (to_auth_timeout v a.flags.auth_timeout
    (to_key_run v a.flags.key_run
    (to_key_done v a.flags.key_done
    (to_eap_restart v a.flags.eap_restart
    (to_eap_req v a.flags.eap_req
    (to_eap_no_req v a.flags.eap_no_req
    (to_eap_success v a.flags.eap_success
    (to_eap_fail v a.flags.eap_fail
    (to_eap_resp v a.calm.eap_resp
    (to_eap_timeout v a.calm.eap_timeout
    (to_aaa_eap_req v a.calm.aaa_eap_req
    (to_aaa_eap_no_req v a.calm.aaa_eap_no_req
    (to_aaa_timeout v a.calm.aaa_timeout
    (to_aaa_fail v a.calm.aaa_fail
    (to_aaa_success v a.calm.aaa_success
    (to_a_while v (left a.runs)
    (goes_on v a.states.reauth a.session))))))))))))))))))))))))))

read_gave_up : (v : Vars) → AtGaveUp v → v ≡ gave_up v (numbers_of v) (clock v) (v.a_while - 1)
read_gave_up v a =
    (to_pae v a.states.pae
    (to_backend v a.states.backend
    (to_eap v a.states.eap
    (to_auth_start v a.flags.auth_start
    (to_eapol_start v a.flags.eapol_start
    (to_eapol_logoff v a.flags.eapol_logoff
    (to_auth_abort v a.flags.auth_abort
    (to_auth_success v a.flags.auth_success
    (to_auth_fail v a.flags.auth_fail
    (to_auth_timeout v a.flags.auth_timeout
    (to_key_run v a.flags.key_run
    (to_key_done v a.flags.key_done
    (to_eap_restart v a.flags.eap_restart
    (to_eap_req v a.flags.eap_req
    (to_eap_no_req v a.flags.eap_no_req
    (to_eap_success v a.flags.eap_success
    (to_eap_fail v a.flags.eap_fail
    (to_eap_resp v a.eap_resp
    (to_eap_timeout v a.eap_timeout
    (to_a_while v (left a.runs)
    (goes_on v a.states.reauth a.session)))))))))))))))))))))

-- the reauthentication timer of a host that is let in
abbrev time_left : Bool → ℕ → ℕ
time_left true w = w - 1
time_left false w = w

time_when : (on : Bool) (w : ℕ) → (on ≡ true → 1 ≤ w) → w ≡ has_left on (time_left on w)
time_when true w h = left (h refl)
time_when false w h = refl

read_authenticated : (v : Vars) → AtAuthenticated v → v ≡ authenticated v (numbers_of v) v.re_auth_enabled (time_left v.re_auth_enabled v.re_auth_when)
read_authenticated v a =
    (to_pae v a.states.pae
    (to_backend v a.states.backend
    (to_eap v a.states.eap
    (to_auth_start v a.flags.auth_start
    (to_eapol_start v a.flags.eapol_start
    (to_eapol_logoff v a.flags.eapol_logoff
    (to_auth_abort v a.flags.auth_abort
    (to_auth_fail v a.flags.auth_fail
    (to_auth_timeout v a.flags.auth_timeout
    (to_re_authenticate v a.flags.re_authenticate
    (to_eap_restart v a.flags.eap_restart
    (to_eap_req v a.flags.eap_req
    (to_eap_no_req v a.flags.eap_no_req
    (to_eap_fail v a.flags.eap_fail
    (to_eap_timeout v a.flags.eap_timeout
    (to_reauth v a.states.reauth
    (to_times v (times_left v.times a.session.quiet a.session.server)
    (to_re_auth_period v (left a.session.period)
    (to_port_control v a.session.control
    (to_port_enabled v a.session.enabled
    (to_port_mode v a.session.mode
    (to_port_valid v a.session.valid
    (to_initialize v a.session.initialize
    (to_gone v a.session.gone
    (to_auth_port_status v a.status
    (to_re_auth_when v (time_when v.re_auth_enabled v.re_auth_when (a.session.clock a.status))
    (same v)))))))))))))))))))))))))))

read_held : (v : Vars) → AtHeld v → v ≡ held v (numbers_of v) v.re_auth_enabled v.re_auth_when (v.quiet_while - 1)
read_held v a =
    (to_pae v a.states.pae
    (to_backend v a.states.backend
    (to_eap v a.states.eap
    (to_auth_start v a.flags.auth_start
    (to_auth_abort v a.flags.auth_abort
    (to_auth_success v a.flags.auth_success
    (to_auth_timeout v a.flags.auth_timeout
    (to_eap_restart v a.flags.eap_restart
    (to_eap_req v a.flags.eap_req
    (to_eap_no_req v a.flags.eap_no_req
    (to_eap_success v a.flags.eap_success
    (to_eap_timeout v a.flags.eap_timeout
    (to_reauth v a.states.reauth
    (to_times v (times_left v.times a.session.quiet a.session.server)
    (to_re_auth_period v (left a.session.period)
    (to_port_control v a.session.control
    (to_port_enabled v a.session.enabled
    (to_port_mode v a.session.mode
    (to_port_valid v a.session.valid
    (to_initialize v a.session.initialize
    (to_gone v a.session.gone
    (to_auth_port_status v a.status
    (to_quiet_while v (left a.runs)
    (same v))))))))))))))))))))))))

read_open : (v : Vars) → AtOpen v → v ≡ forced_open v
read_open v a =
    (to_pae v a.states.pae
    (to_backend v a.states.backend
    (to_reauth v a.states.reauth
    (to_eap v a.states.eap
    (to_port_control v a.control
    (to_port_mode v a.mode
    (to_port_enabled v a.flags.enabled
    (to_initialize v a.flags.initialize
    (to_gone v a.flags.gone
    (to_eapol_start v a.flags.eapol_start
    (to_eap_restart v a.flags.eap_restart
    (to_auth_abort v a.flags.auth_abort
    (same v)))))))))))))

read_shut : (v : Vars) → AtShut v → v ≡ forced_shut v
read_shut v a =
    (to_pae v a.states.pae
    (to_backend v a.states.backend
    (to_reauth v a.states.reauth
    (to_eap v a.states.eap
    (to_port_control v a.control
    (to_port_mode v a.mode
    (to_port_enabled v a.flags.enabled
    (to_initialize v a.flags.initialize
    (to_gone v a.flags.gone
    (to_eapol_start v a.flags.eapol_start
    (to_eap_restart v a.flags.eap_restart
    (to_auth_abort v a.flags.auth_abort
    (same v)))))))))))))

read_end : (v : Vars) → AtEnd v → v ≡ gone v
read_end v a =
    (to_pae v a.states.pae
    (to_backend v a.states.backend
    (to_reauth v a.states.reauth
    (to_eap v a.states.eap
    (to_auth_port_status v a.status
    (same v))))))

pub formed : {v : Vars} → Settled v → Formed v
formed (at_request {v} f a) = as_request _ _ _ (kept v f) (read_request v a)
formed (at_ignore {v} f a) = as_ignore _ _ _ (kept v f) (read_ignore v a)
formed (at_server {v} f a) = as_server _ _ _ _ _ (kept v f) (read_server v a)
formed (at_gave_up {v} f a) = as_gave_up _ _ _ (kept v f) (read_gave_up v a)
formed (at_authenticated {v} f a) = as_authenticated _ _ _ (kept v f) (read_authenticated v a)
formed (at_held {v} f a) = as_held _ _ _ _ (kept v f) (read_held v a)
formed (at_open {v} f a) = as_open (kept v f) (read_open v a)
formed (at_shut {v} f a) = as_shut (kept v f) (read_shut v a)
formed (at_end {v} f a) = as_end (kept v f) a.gone (read_end v a)

-- ---- to what is read

few : (v : Vars) → Kept v → AreFew v
few v k = record { most = below v.times.reauth_max 1 k.some; tries = below v.times.reauth_max v.re_auth_count k.tried; again = below 3 v.retrans_count k.sent }

ticking : (c : Clock) → status c ≡ true → enabled c ≡ true → 1 ≤ when c
ticking (shut on w) s e = cc
ticking (still w) s e = cc
ticking (ticks w) s e = omega arith

ticking_on : (on : Bool) (w : ℕ) → on ≡ true → 1 ≤ has_left on w
ticking_on true w e = omega arith
ticking_on false w e = cc

module _ (v : Vars) (n : Numbers) where
  tell_request : (c : Clock) (r : ℕ) → AtRequest (request v n c r)
  tell_request c r =
      record {
        states = record { pae = refl; backend = refl; reauth = refl; eap = refl };
        session = record { control = refl; mode = refl; enabled = refl; valid = refl; initialize = refl; gone = refl; quiet = omega arith; server = omega arith; period = omega arith; clock = ticking c };
        runs = omega arith;
        flags = record { auth_start = refl; eapol_start = refl; eapol_logoff = refl; auth_abort = refl; auth_success = refl; auth_fail = refl; auth_timeout = refl; key_run = refl; key_done = refl; eap_restart = refl; eap_req = refl; eap_no_req = refl; eap_success = refl; eap_fail = refl };
        calm = record { eapol_eap = refl; eap_resp = refl; eap_timeout = refl };
      }

  tell_ignore : (c : Clock) (r : ℕ) → AtIgnore (ignore v n c r)
  tell_ignore c r =
      record {
        states = record { pae = refl; backend = refl; reauth = refl; eap = refl };
        session = record { control = refl; mode = refl; enabled = refl; valid = refl; initialize = refl; gone = refl; quiet = omega arith; server = omega arith; period = omega arith; clock = ticking c };
        runs = omega arith;
        flags = record { auth_start = refl; eapol_start = refl; eapol_logoff = refl; auth_abort = refl; auth_success = refl; auth_fail = refl; auth_timeout = refl; key_run = refl; key_done = refl; eap_restart = refl; eap_req = refl; eap_no_req = refl; eap_success = refl; eap_fail = refl };
        calm = record { eapol_eap = refl; eap_resp = refl; eap_timeout = refl };
      }

  tell_server : (c : Clock) (a : ℕ) (h g : Bool) → AtServer (asks_server v n c a h g)
  tell_server c a h g =
      record {
        states = record { pae = refl; backend = refl; reauth = refl; eap = refl };
        session = record { control = refl; mode = refl; enabled = refl; valid = refl; initialize = refl; gone = refl; quiet = omega arith; server = omega arith; period = omega arith; clock = ticking c };
        runs = omega arith;
        flags = record { auth_start = refl; eapol_start = refl; eapol_logoff = refl; auth_abort = refl; auth_success = refl; auth_fail = refl; auth_timeout = refl; key_run = refl; key_done = refl; eap_restart = refl; eap_req = refl; eap_no_req = refl; eap_success = refl; eap_fail = refl };
        calm = record { eap_resp = refl; eap_timeout = refl; aaa_eap_req = refl; aaa_eap_no_req = refl; aaa_timeout = refl; aaa_fail = refl; aaa_success = refl };
      }

  tell_gave_up : (c : Clock) (a : ℕ) → AtGaveUp (gave_up v n c a)
  tell_gave_up c a =
      record {
        states = record { pae = refl; backend = refl; reauth = refl; eap = refl };
        session = record { control = refl; mode = refl; enabled = refl; valid = refl; initialize = refl; gone = refl; quiet = omega arith; server = omega arith; period = omega arith; clock = ticking c };
        runs = omega arith;
        flags = record { auth_start = refl; eapol_start = refl; eapol_logoff = refl; auth_abort = refl; auth_success = refl; auth_fail = refl; auth_timeout = refl; key_run = refl; key_done = refl; eap_restart = refl; eap_req = refl; eap_no_req = refl; eap_success = refl; eap_fail = refl };
        eap_resp = refl;
        eap_timeout = refl;
      }

  tell_authenticated : (on : Bool) (w : ℕ) → AtAuthenticated (authenticated v n on w)
  tell_authenticated on w =
      record {
        states = record { pae = refl; backend = refl; reauth = refl; eap = refl };
        session = record { control = refl; mode = refl; enabled = refl; valid = refl; initialize = refl; gone = refl; quiet = omega arith; server = omega arith; period = omega arith; clock = λ _ e. ticking_on on w e };
        status = refl;
        flags = record { auth_start = refl; eapol_start = refl; eapol_logoff = refl; auth_abort = refl; auth_fail = refl; auth_timeout = refl; re_authenticate = refl; eap_restart = refl; eap_req = refl; eap_no_req = refl; eap_fail = refl; eap_timeout = refl };
      }

  tell_held : (on : Bool) (w q : ℕ) → AtHeld (held v n on w q)
  tell_held on w q =
      record {
        states = record { pae = refl; backend = refl; reauth = refl; eap = refl };
        session = record { control = refl; mode = refl; enabled = refl; valid = refl; initialize = refl; gone = refl; quiet = omega arith; server = omega arith; period = omega arith; clock = ticking (shut on w) };
        status = refl;
        runs = omega arith;
        flags = record { auth_start = refl; auth_abort = refl; auth_success = refl; auth_timeout = refl; eap_restart = refl; eap_req = refl; eap_no_req = refl; eap_success = refl; eap_timeout = refl };
      }

tell_open : (v : Vars) → AtOpen (forced_open v)
tell_open v = record { states = record { pae = refl; backend = refl; reauth = refl; eap = refl }; control = refl; mode = refl; flags = record { enabled = refl; initialize = refl; gone = refl; eapol_start = refl; eap_restart = refl; auth_abort = refl } }

tell_shut : (v : Vars) → AtShut (forced_shut v)
tell_shut v = record { states = record { pae = refl; backend = refl; reauth = refl; eap = refl }; control = refl; mode = refl; flags = record { enabled = refl; initialize = refl; gone = refl; eapol_start = refl; eap_restart = refl; auth_abort = refl } }

-- the states and the status of a session that is gone
abbrev AtLast : Vars → Type 0
AtLast v = AreStates v Pae.Disconnected Backend.Idle Eap.Start × (v.auth_port_status ≡ false)

along : (P : Vars → Type 0) {v x : Vars} → v ≡ x → P x → P v
along P e p = subst P (sym e) p

pub settled_form : {v : Vars} → Formed v → Settled v
settled_form (as_request {v} n c r k e) = at_request (few v k) (along AtRequest e (tell_request v n c r))
settled_form (as_ignore {v} n c r k e) = at_ignore (few v k) (along AtIgnore e (tell_ignore v n c r))
settled_form (as_server {v} n c a h g k e) = at_server (few v k) (along AtServer e (tell_server v n c a h g))
settled_form (as_gave_up {v} n c a k e) = at_gave_up (few v k) (along AtGaveUp e (tell_gave_up v n c a))
settled_form (as_authenticated {v} n on w k e) = at_authenticated (few v k) (along AtAuthenticated e (tell_authenticated v n on w))
settled_form (as_held {v} n on w q k e) = at_held (few v k) (along AtHeld e (tell_held v n on w q))
settled_form (as_open {v} k e) = at_open (few v k) (along AtOpen e (tell_open v))
settled_form (as_shut {v} k e) = at_shut (few v k) (along AtShut e (tell_shut v))
settled_form (as_end {v} k g e) =
    let a = along AtLast e (record { pae = refl; backend = refl; reauth = refl; eap = refl }, refl) in
    at_end (few v k) (record { states = a.0; status = a.1; gone = g })

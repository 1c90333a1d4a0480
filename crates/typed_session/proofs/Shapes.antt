-- A host is what its variant keeps of each value that it stands for.
use Rattle.std.proofs.Common.{◌≡◌, ℕ, zero, suc, ◌∙◌, ◌≤◌, arith, Bool, true, false, List, Some, None, refl, subst, sym, ap}
use Rattle.machine_vars.specs.declared.vars.Vars.{Vars}
use Rattle.machine_vars.specs.declared.states.Row.{Row}
use Rattle.machine_vars.specs.declared.states.Pae.TheVariants as Pae
use Rattle.machine_vars.specs.declared.states.EapState.TheVariants as Eap
use Rattle.machine_vars.specs.declared.control.Times.{Times}
use Rattle.machine_vars.specs.declared.verdict.Verdict.{Verdict}
use Rattle.machine_vars.specs.declared.verdict.Verdict.TheVariants as word
use Rattle.machine_defs.specs.Settling.{Settles}
use Rattle.machine_defs.specs.Live.{Live, born, rested, turned, taken, addressed, InRange, cleared as cleared_vars, set, Change, Event, IsProper, Start, Logoff, Greeting, Packet, Challenge, Notice, Accept, Reject, Second}
use Rattle.machine_defs.specs.Words.{event_of, event_with, wanted, period}
use Rattle.machine_defs.specs.Settled.{Settled, at_request, at_ignore, at_server, at_gave_up, at_authenticated, at_held, at_open, at_shut, at_end}
use Rattle.machine_defs.proofs.Bound.{formed_idle}
use Rattle.machine_defs.proofs.Reading.{formed}
use Rattle.machine_defs.proofs.Growth.{Own}
use Rattle.machine_defs.proofs.Keeping.{keeps_own}
use Rattle.machine_defs.proofs.Idle.{change_idle}
use Rattle.typed_session.specs.declared.host.Host.{Host}
use Rattle.typed_session.specs.declared.host.Host.TheVariants as host
use Rattle.typed_session.specs.Stands.{host_of, asked_of, served_of, lapsed_of, admitted_of, refused_of, closed_of, Stands}
use Rattle.typed_session.specs.Moves.{Move}
use Rattle.typed_session.specs.Seconds.{move}
use Rattle.typed_session.specs.Reads.{status_of, id_of, ask_of, abort_of, is_ended, is_held, cleared, identity_of, response_of, after_verdict, IsTold, IsHeld, retimed}
use Rattle.out_tray.specs.Tray.{Things}
use Rattle.typed_session.specs.Follows.{FollowsWord, SetsTimes, frames_by, with_sent}
use Rattle.settle_defs.specs.Settle.{Rest}
use Rattle.settle_defs.proofs.SettleLaws.{stays_at_rest}
use Rattle.typed_session.proofs.Lands.{host_settled, some_host, no_host, open_host, shut_host, speaks_on, follows, moves}
use Rattle.typed_session.proofs.Landing.{request_host, ignore_host, server_host, gave_up_host, authenticated_host, held_host, ended_host}

pub data Shape (h : Host) (v : Vars) : Type 0 where
  in_request : h ≡ host.Request (asked_of v) → v.gone ≡ false → v.pae ≡ Pae.Authenticating → v.eap ≡ Eap.Idle2 → Shape h v
  in_ignore : h ≡ host.Ignore (asked_of v) → v.gone ≡ false → v.pae ≡ Pae.Authenticating → v.eap ≡ Eap.Idle2 → Shape h v
  in_server : h ≡ host.Server (served_of v) → v.gone ≡ false → v.pae ≡ Pae.Authenticating → v.eap ≡ Eap.AaaIdle → Shape h v
  in_gave_up : h ≡ host.GaveUp (lapsed_of v) → v.gone ≡ false → v.pae ≡ Pae.Authenticating → v.eap ≡ Eap.TimeoutFailure2 → Shape h v
  in_authenticated : h ≡ host.Authenticated (admitted_of v) → v.gone ≡ false → v.pae ≡ Pae.Authenticated → v.eap ≡ Eap.Success2 → v.auth_port_status ≡ true → Shape h v
  in_held : h ≡ host.Held (refused_of v) → v.gone ≡ false → v.pae ≡ Pae.Held → v.eap ≡ Eap.Failure2 → v.auth_port_status ≡ false → Shape h v
  in_ended : h ≡ host.Ended (closed_of v) → v.gone ≡ true → v.pae ≡ Pae.Disconnected → v.auth_port_status ≡ false → Shape h v

settled_shape : {h : Host} {v : Vars} → Settled v → host_of v ≡ Some h → Shape h v
settled_shape {v = v} (at_request f a) s =
    let g = a.session.gone in in_request (some_host (sym s ∙ request_host v g a.states.pae a.states.backend)) g a.states.pae a.states.eap
settled_shape {v = v} (at_ignore f a) s =
    let g = a.session.gone in in_ignore (some_host (sym s ∙ ignore_host v g a.states.pae a.states.backend)) g a.states.pae a.states.eap
settled_shape {v = v} (at_server f a) s =
    let g = a.session.gone in in_server (some_host (sym s ∙ server_host v g a.states.pae a.states.backend a.states.eap)) g a.states.pae a.states.eap
settled_shape {v = v} (at_gave_up f a) s =
    let g = a.session.gone in in_gave_up (some_host (sym s ∙ gave_up_host v g a.states.pae a.states.backend a.states.eap)) g a.states.pae a.states.eap
settled_shape {v = v} (at_authenticated f a) s =
    let g = a.session.gone in in_authenticated (some_host (sym s ∙ authenticated_host v g a.states.pae)) g a.states.pae a.states.eap a.status
settled_shape {v = v} (at_held f a) s =
    let g = a.session.gone in in_held (some_host (sym s ∙ held_host v g a.states.pae)) g a.states.pae a.states.eap a.status
settled_shape {v = v} (at_open f a) s = no_host v (open_host v a) s
settled_shape {v = v} (at_shut f a) s = no_host v (shut_host v a) s
settled_shape {v = v} (at_end f a) s = in_ended (some_host (sym s ∙ ended_host v a.gone)) a.gone a.states.pae a.status

pub shape : {h : Host} {v : Vars} → Stands h v → Shape h v
shape s = settled_shape (host_settled s.0 s.1) s.1

pub same_status : {h : Host} {v : Vars} → Stands h v → status_of h ≡ v.auth_port_status
same_status {h} {v} s = by_shape (shape s)
  where
    by_shape : Shape h v → status_of h ≡ v.auth_port_status
    by_shape (in_request e g p q) = ap status_of e
    by_shape (in_ignore e g p q) = ap status_of e
    by_shape (in_server e g p q) = ap status_of e
    by_shape (in_gave_up e g p q) = ap status_of e
    by_shape (in_authenticated e g p q t) = ap status_of e ∙ sym t
    by_shape (in_held e g p q t) = ap status_of e ∙ sym t
    by_shape (in_ended e g p t) = ap status_of e ∙ sym t

pub same_id : {h : Host} {v : Vars} → Stands h v → id_of h ≡ v.current_id
same_id {h} {v} s = by_shape (shape s)
  where
    by_shape : Shape h v → id_of h ≡ v.current_id
    by_shape (in_request e g p q) = ap id_of e
    by_shape (in_ignore e g p q) = ap id_of e
    by_shape (in_server e g p q) = ap id_of e
    by_shape (in_gave_up e g p q) = ap id_of e
    by_shape (in_authenticated e g p q t) = ap id_of e
    by_shape (in_held e g p q t) = ap id_of e
    by_shape (in_ended e g p t) = ap id_of e

pub same_ask : {h : Host} {v : Vars} → Stands h v → ask_of h ≡ v.aaa_eap_resp
same_ask {h} {v} s = by_shape (shape s)
  where
    by_shape : Shape h v → ask_of h ≡ v.aaa_eap_resp
    by_shape (in_request e g p q) = ap ask_of e
    by_shape (in_ignore e g p q) = ap ask_of e
    by_shape (in_server e g p q) = ap ask_of e
    by_shape (in_gave_up e g p q) = ap ask_of e
    by_shape (in_authenticated e g p q t) = ap ask_of e
    by_shape (in_held e g p q t) = ap ask_of e
    by_shape (in_ended e g p t) = ap ask_of e

pub same_abort : {h : Host} {v : Vars} → Stands h v → abort_of h ≡ v.aaa_abort
same_abort {h} {v} s = by_shape (shape s)
  where
    by_shape : Shape h v → abort_of h ≡ v.aaa_abort
    by_shape (in_request e g p q) = ap abort_of e
    by_shape (in_ignore e g p q) = ap abort_of e
    by_shape (in_server e g p q) = ap abort_of e
    by_shape (in_gave_up e g p q) = ap abort_of e
    by_shape (in_authenticated e g p q t) = ap abort_of e
    by_shape (in_held e g p q t) = ap abort_of e
    by_shape (in_ended e g p t) = ap abort_of e

pub same_gone : {h : Host} {v : Vars} → Stands h v → is_ended h ≡ v.gone
same_gone {h} {v} s = by_shape (shape s)
  where
    by_shape : Shape h v → is_ended h ≡ v.gone
    by_shape (in_request e g p q) = ap is_ended e ∙ sym g
    by_shape (in_ignore e g p q) = ap is_ended e ∙ sym g
    by_shape (in_server e g p q) = ap is_ended e ∙ sym g
    by_shape (in_gave_up e g p q) = ap is_ended e ∙ sym g
    by_shape (in_authenticated e g p q t) = ap is_ended e ∙ sym g
    by_shape (in_held e g p q t) = ap is_ended e ∙ sym g
    by_shape (in_ended e g p t) = ap is_ended e ∙ sym g

gone_apart : {b : Bool} → b ≡ true → b ≡ false → ⊥
gone_apart e f = let c : true ≡ false = sym e ∙ f in cc

pub same_identity : {h : Host} {v : Vars} → Stands h v → v.gone ≡ false → identity_of h ≡ v.identity.items
same_identity {h} {v} s o = by_shape (shape s)
  where
    by_shape : Shape h v → identity_of h ≡ v.identity.items
    by_shape (in_request e g p q) = ap identity_of e
    by_shape (in_ignore e g p q) = ap identity_of e
    by_shape (in_server e g p q) = ap identity_of e
    by_shape (in_gave_up e g p q) = ap identity_of e
    by_shape (in_authenticated e g p q t) = ap identity_of e
    by_shape (in_held e g p q t) = ap identity_of e
    by_shape (in_ended e g p t) = absurd (gone_apart g o)

-- the flags of a value are taken back
pub stands_cleared : {h : Host} {v : Vars} → Stands h v → Stands (cleared h) (cleared_vars v)
stands_cleared {h} {v} s = (taken s.0, by_settled (host_settled s.0 s.1))
  where
    by_host : (g : Host) → host_of v ≡ Some g → host_of (cleared_vars v) ≡ Some (cleared g) → host_of (cleared_vars v) ≡ Some (cleared h)
    by_host g a b = b ∙ ap (λ y. Some (cleared y)) (some_host (sym a ∙ s.1))

    by_settled : Settled v → host_of (cleared_vars v) ≡ Some (cleared h)
    by_settled (at_request f a) = by_host _ (request_host v a.session.gone a.states.pae a.states.backend) (request_host (cleared_vars v) a.session.gone a.states.pae a.states.backend)
    by_settled (at_ignore f a) = by_host _ (ignore_host v a.session.gone a.states.pae a.states.backend) (ignore_host (cleared_vars v) a.session.gone a.states.pae a.states.backend)
    by_settled (at_server f a) =
        by_host _ (server_host v a.session.gone a.states.pae a.states.backend a.states.eap) (server_host (cleared_vars v) a.session.gone a.states.pae a.states.backend a.states.eap)
    by_settled (at_gave_up f a) =
        by_host _ (gave_up_host v a.session.gone a.states.pae a.states.backend a.states.eap) (gave_up_host (cleared_vars v) a.session.gone a.states.pae a.states.backend a.states.eap)
    by_settled (at_authenticated f a) = by_host _ (authenticated_host v a.session.gone a.states.pae) (authenticated_host (cleared_vars v) a.session.gone a.states.pae)
    by_settled (at_held f a) = by_host _ (held_host v a.session.gone a.states.pae) (held_host (cleared_vars v) a.session.gone a.states.pae)
    by_settled (at_open f a) = no_host v (open_host v a) s.1
    by_settled (at_shut f a) = no_host v (shut_host v a) s.1
    by_settled (at_end f a) = by_host _ (ended_host v a.gone) (ended_host (cleared_vars v) a.gone)

-- ---- the times of a session are in their ranges

times_stay : {v w : Vars} {rows : List Row} {sent : List (List ℕ)} → Settles v rows sent w → InRange v.times → InRange w.times
times_stay s r = let P : Times → Type 0 = λ t. InRange t in subst P (sym (ap (λ (x : Own). x.times) (keeps_own s))) r

times_set : (e : Event) (v : Vars) → InRange v.times → InRange (set e v).times
times_set Start v r = r
times_set Logoff v r = r
times_set (Greeting x) v r = r
times_set (Packet x) v r = r
times_set (Challenge x wait) v r = r
times_set Notice v r = r
times_set (Accept x on p) v r = r
times_set (Reject x) v r = r
times_set (Second late) v r = r
times_set (Change on p) v r = r

pub live_times : {v : Vars} → Live v → InRange v.times
live_times (born port own peer control t r) = r
live_times (rested l s) = times_stay s (live_times l)
live_times (turned e l i s) = times_stay s (times_set e _ (live_times l))
live_times (taken l) = live_times l
live_times (addressed l c) = live_times l

-- ---- an answer of the server

told_ended : (word : Verdict) (id : ℕ) (t : Times) (v : Vars) → move (event_with word id t) (host.Ended (closed_of v)) ≡ after_verdict word (host.Ended (closed_of v))
told_ended (word.Challenge eap wait) id t v = refl
told_ended word.Notice id t v = refl
told_ended (word.Accept (Some eap) again) id t v = refl
told_ended (word.Accept None again) id t v = refl
told_ended (word.Reject (Some eap)) id t v = refl
told_ended (word.Reject None) id t v = refl

pub told_same : (word : Verdict) {h : Host} {v : Vars} → Stands h v → move (event_of word v) h ≡ after_verdict word h
told_same word {h} {v} s = by_shape (shape s)
  where
    by_shape : Shape h v → move (event_of word v) h ≡ after_verdict word h
    by_shape (in_request e g p q) = ap (λ y. move (event_of word v) y) e ∙ sym (ap (after_verdict word) e)
    by_shape (in_ignore e g p q) = ap (λ y. move (event_of word v) y) e ∙ sym (ap (after_verdict word) e)
    by_shape (in_server e g p q) = ap (λ y. move (event_of word v) y) e ∙ sym (ap (after_verdict word) e)
    by_shape (in_gave_up e g p q) = ap (λ y. move (event_of word v) y) e ∙ sym (ap (after_verdict word) e)
    by_shape (in_authenticated e g p q t) = ap (λ y. move (event_of word v) y) e ∙ sym (ap (after_verdict word) e)
    by_shape (in_held e g p q t) = ap (λ y. move (event_of word v) y) e ∙ sym (ap (after_verdict word) e)
    by_shape (in_ended e g p t) = ap (λ y. move (event_of word v) y) e ∙ told_ended word v.current_id v.times v ∙ sym (ap (after_verdict word) e)

proper_period : (again : ℕ) (t : Times) → 1 ≤ t.reauth_period → 1 ≤ period again t
proper_period zero t h = h
proper_period (suc again) t h = omega arith

pub told_proper : (word : Verdict) (v : Vars) → Live v → IsTold word → IsProper (event_of word v) v
told_proper (word.Challenge eap wait) v l i = i.0
told_proper word.Notice v l i = tt
told_proper (word.Accept (Some eap) again) v l i = (i.0, proper_period again v.times (live_times l).period_from)
told_proper (word.Accept None again) v l i = (omega arith, proper_period again v.times (live_times l).period_from)
told_proper (word.Reject (Some eap)) v l i = i.0
told_proper (word.Reject None) v l i = omega arith

-- no answer of the server greets a forced port
pub word_speaks_on : (word : Verdict) (v : Vars) → speaks_on (event_of word v) ≡ true
word_speaks_on (word.Challenge eap wait) v = refl
word_speaks_on word.Notice v = refl
word_speaks_on (word.Accept (Some eap) again) v = refl
word_speaks_on (word.Accept None again) v = refl
word_speaks_on (word.Reject (Some eap)) v = refl
word_speaks_on (word.Reject None) v = refl

pub follows_word : (word : Verdict) (h k : Host) (before after : Things) → IsTold word → k ≡ (after_verdict word h).host →
    after ≡ with_sent (frames_by h (after_verdict word h).packets) before → FollowsWord word h k before after
follows_word word h k before after i a b = λ v s.
    let P : Move → Type 0 = λ m. (k ≡ m.host) × (after ≡ with_sent (frames_by h m.packets) before) in
    let m = subst P (sym (told_same word s)) (a, b) in
    follows (event_of word v) h k before after m.0 m.1 v (told_proper word v s.0 i) (word_speaks_on word v) s

-- ---- a change of the times

stands_changed : (on : Bool) (p : ℕ) (h : Host) (v : Vars) → 1 ≤ p → Stands h v → Stands (move (Change on p) h).host (set (Change on p) v)
stands_changed on p h v i s =
    let P : Rest → Type 0 = λ r. Stands (move (Change on p) h).host r.vars in
    let idle = change_idle on p i s.0 (formed_idle v (formed (host_settled s.0 s.1))) in
    subst P (stays_at_rest (set (Change on p) v) idle) (moves (Change on p) h v i s).0

retimed_same : (again : ℕ) {h : Host} {v : Vars} → Stands h v → (move (Change (wanted again v.times) (period again v.times)) h).host ≡ retimed again h
retimed_same again {h} {v} s = by_shape (shape s)
  where
    by_shape : Shape h v → (move (Change (wanted again v.times) (period again v.times)) h).host ≡ retimed again h
    by_shape (in_request e g p q) = ap (λ y. (move (Change (wanted again v.times) (period again v.times)) y).host) e ∙ sym (ap (retimed again) e)
    by_shape (in_ignore e g p q) = ap (λ y. (move (Change (wanted again v.times) (period again v.times)) y).host) e ∙ sym (ap (retimed again) e)
    by_shape (in_server e g p q) = ap (λ y. (move (Change (wanted again v.times) (period again v.times)) y).host) e ∙ sym (ap (retimed again) e)
    by_shape (in_gave_up e g p q) = ap (λ y. (move (Change (wanted again v.times) (period again v.times)) y).host) e ∙ sym (ap (retimed again) e)
    by_shape (in_authenticated e g p q t) = ap (λ y. (move (Change (wanted again v.times) (period again v.times)) y).host) e ∙ sym (ap (retimed again) e)
    by_shape (in_held e g p q t) = ap (λ y. (move (Change (wanted again v.times) (period again v.times)) y).host) e ∙ sym (ap (retimed again) e)
    by_shape (in_ended e g p t) = ap (λ y. (move (Change (wanted again v.times) (period again v.times)) y).host) e ∙ sym (ap (retimed again) e)

pub sets_times : (again : ℕ) (h k : Host) → k ≡ retimed again h → SetsTimes again h k
sets_times again h k a = λ v s.
    let P : Host → Type 0 = λ y. Stands y (set (Change (wanted again v.times) (period again v.times)) v) in
    let i = proper_period again v.times (live_times s.0).period_from in
    subst P (sym a) (subst P (retimed_same again s) (stands_changed (wanted again v.times) (period again v.times) h v i s))

-- ---- what is read off

pub same_response : {h : Host} {v : Vars} → Stands h v → v.gone ≡ false → v.eap ≡ Eap.AaaIdle → response_of h ≡ v.eap_resp_data.items
same_response {h} {v} s o a = by_shape (shape s)
  where
    by_shape : Shape h v → response_of h ≡ v.eap_resp_data.items
    by_shape (in_request e g p q) = let c : Eap.Idle2 ≡ Eap.AaaIdle = sym q ∙ a in cc
    by_shape (in_ignore e g p q) = let c : Eap.Idle2 ≡ Eap.AaaIdle = sym q ∙ a in cc
    by_shape (in_server e g p q) = ap response_of e
    by_shape (in_gave_up e g p q) = let c : Eap.TimeoutFailure2 ≡ Eap.AaaIdle = sym q ∙ a in cc
    by_shape (in_authenticated e g p q t) = let c : Eap.Success2 ≡ Eap.AaaIdle = sym q ∙ a in cc
    by_shape (in_held e g p q t) = let c : Eap.Failure2 ≡ Eap.AaaIdle = sym q ∙ a in cc
    by_shape (in_ended e g p t) = absurd (gone_apart g o)

pub same_held : {h : Host} {v : Vars} → Stands h v → IsHeld (is_held h) v
same_held {h} {v} s = by_shape (shape s)
  where
    at : {g : Host} → h ≡ g → IsHeld (is_held g) v → IsHeld (is_held h) v
    at e p = let P : Host → Type 0 = λ y. IsHeld (is_held y) v in subst P (sym e) p

    by_shape : Shape h v → IsHeld (is_held h) v
    by_shape (in_request e g p q) = at e (λ k. let c : Pae.Authenticating ≡ Pae.Held = sym p ∙ k in cc)
    by_shape (in_ignore e g p q) = at e (λ k. let c : Pae.Authenticating ≡ Pae.Held = sym p ∙ k in cc)
    by_shape (in_server e g p q) = at e (λ k. let c : Pae.Authenticating ≡ Pae.Held = sym p ∙ k in cc)
    by_shape (in_gave_up e g p q) = at e (λ k. let c : Pae.Authenticating ≡ Pae.Held = sym p ∙ k in cc)
    by_shape (in_authenticated e g p q t) = at e (λ k. let c : Pae.Authenticated ≡ Pae.Held = sym p ∙ k in cc)
    by_shape (in_held e g p q t) = at e p
    by_shape (in_ended e g p t) = at e (λ k. let c : Pae.Disconnected ≡ Pae.Held = sym p ∙ k in cc)

-- The requests that wait: one that is sent again, and a second of a session that has none.
use Rattle.std.proofs.Common.{◌≡◌, ℕ, ◌<◌, ◌∙◌, refl, ap, List, [], ◌∷◌, map, Option, Some, None, Bool, true, false, cond, arith}
use Rattle.std.specs.Prelude.{◌==◌, find, is_some}
use Rattle.machine_vars.specs.declared.states.EapState.{EapState}
use Rattle.machine_vars.specs.declared.states.EapState.TheVariants.{AaaIdle}
use Rattle.aaa_defs.specs.declared.Aged.TheVariants.{Resend}
use Rattle.aaa_defs.specs.Waits.{Pending, Waits, name_of, pending_of, socket_of}
use Rattle.aaa_defs.specs.Age.{aged, aged_request, after_second, older}
use Rattle.switch_defs.specs.Turn.{sent_again}
use Rattle.host_session.specs.Shows.{is_aaa_idle}
use Rattle.host_sessions.specs.Follows.{sent_of_pending}

-- what is sent again is the request as it was
pub resent : (o : Option Pending) → aged o ≡ Resend →
    sent_of_pending (aged_request o) ≡ sent_again (aged o) o
resent None e = cc
resent (Some p) e = rw (e) refl

unolder : (n : ℕ) (ps : List Pending) → find (λ p. p.session == n) ps ≡ None →
    map (λ p. cond (p.session == n) (older p) p) ps ≡ ps
unolder n [] none = refl
unolder n (p ∷ ps) none = by (p.session == n) none (unolder n ps)
  where
    by : (b : Bool) → cond b (Some p) (find (λ q. q.session == n) ps) ≡ None →
        (find (λ q. q.session == n) ps ≡ None → map (λ q. cond (q.session == n) (older q) q) ps ≡ ps) →
        cond b (older p) p ∷ map (λ q. cond (q.session == n) (older q) q) ps ≡ p ∷ ps
    by true found rest = cc
    by false found rest = ap (λ (qs : List Pending). p ∷ qs) (rest found)

-- where a session has no request, a second changes none
pub unaged : (n : ℕ) (w : Waits) → pending_of n w ≡ None → after_second n w ≡ w
unaged n w none = rw none (ap (λ (ps : List Pending). record w { requests = ps }) (unolder n w.requests none))

-- a session that does not wait for the server has none
pub none_waits : (o : Option Pending) (state : EapState) → (is_some o ≡ true → state ≡ AaaIdle) →
    false ≡ is_aaa_idle state → o ≡ None
none_waits None state waits other = refl
none_waits (Some p) state waits other = absurd (never (other ∙ ap is_aaa_idle (waits refl)))
  where
    never : false ≡ true → ⊥
    never e = cc

pub socket_is : (socket id : ℕ) → id < 256 → socket_of (name_of socket id) ≡ socket
socket_is socket id small = omega arith

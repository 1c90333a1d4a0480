-- While the server is asked, what comes from the host and the time that passes leave it waited for, or end the wish for
-- its answer.
use Rattle.std.proofs.Common.{◌≡◌, ◌⊎◌, inl, inr, Bool, true, false, refl, subst, sym, ◌∙◌}
use Rattle.std.specs.Prelude.{◌&&◌, ◌||◌, not, if◌then◌else◌}
use Rattle.machine_vars.specs.declared.vars.Vars.{Vars}
use Rattle.machine_vars.specs.declared.states.EapState.{EapState}
use Rattle.machine_vars.specs.declared.states.EapState.TheVariants.{AaaIdle}
use Rattle.machine_defs.specs.Table.{is_zero}
use Rattle.machine_defs.specs.BackendTable as Back
use Rattle.machine_defs.specs.ReauthTable as Re
use Rattle.machine_defs.specs.EapTable as Eap
use Rattle.machine_defs.specs.Live.{Event, set, Start, Logoff, Second, ComesBetween, start, logoff, packet, second}
use Rattle.machine_defs.specs.Settled.{Settled, AtServer, at_request, at_ignore, at_server, at_gave_up, at_authenticated, at_held, at_open, at_shut, at_end}
use Rattle.machine_defs.specs.Outcome.{Combination, Server, combination, follows, outcome, silent, anew, asked, disconnected, ended, is_tired, aborted, left, is_due, timed, waited}

-- what holds of each way in which a new round may go, holds of the one that it goes
pub of_anew : (P : Vars → Type 0) (v : Vars) → P (ended v) → P (asked (disconnected v)).vars → P (asked v).vars → P (anew v).vars
of_anew P v e d a = by_tests (v.eapol_logoff || is_tired v) (not v.auth_port_status && not v.eapol_start && is_tired v)
  where
    by_tests : (b c : Bool) → P (if b then (if c then silent (ended v) else asked (disconnected v)) else asked v).vars
    by_tests true true = e
    by_tests true false = d
    by_tests false c = a

-- and of a timer that may be wound up
pub of_timed : (P : Vars → Type 0) (v : Vars) → P (Re.initialize (Re.reauthenticate v)) → P v → P (timed v)
of_timed P v w p = by_test (is_due v)
  where
    by_test : (b : Bool) → P (if b then Re.initialize (Re.reauthenticate v) else v)
    by_test true = w
    by_test false = p

-- the server is waited for as before, or what was asked is no longer wanted
abbrev pub Leaves : Vars → Type 0
Leaves v = (v.aaa_abort ≡ true) ⊎ ((v.eap ≡ AaaIdle) × (v.aaa_eap_resp ≡ false))

-- it is waited for
pub record Waits (v : Vars) : Type 0 where
  pub eap : v.eap ≡ AaaIdle
  pub asked : v.aaa_eap_resp ≡ false
  pub given : v.aaa_timeout ≡ false

anew_leaves : (v : Vars) → v.aaa_abort ≡ true → Leaves (anew v).vars
anew_leaves v a = inl (of_anew (λ w. w.aaa_abort ≡ true) v a a a)

waited_leaves : (v : Vars) → Waits v → Leaves (waited v).vars
waited_leaves v w = by_tests (is_zero v.a_while) v.aaa_timeout w.given
  where
    by_tests : (b late : Bool) → late ≡ false → Leaves (if b then anew (aborted (Back.timeout v)) else (if late then silent (Eap.timeout_failure2 v) else silent v)).vars
    by_tests true late h = anew_leaves (aborted (Back.timeout v)) refl
    by_tests false true h = cc
    by_tests false false h = inr (w.eap, w.asked)

follows_leaves : (e : Event) (v : Vars) → ComesBetween e → Waits v → Leaves (follows e Server (set e v)).vars
follows_leaves _ v start w = anew_leaves (aborted (set Start v)) refl
follows_leaves _ v logoff w = anew_leaves (left (set Logoff v)) refl
follows_leaves _ v (packet eap) w = inr (w.eap, w.asked)
follows_leaves _ v second w =
    let x = set (Second false) v in
    let late : x.aaa_timeout ≡ false = rw w.given refl in
    waited_leaves (timed x) (of_timed Waits x (record { eap = w.eap; asked = w.asked; given = late }) (record { eap = w.eap; asked = w.asked; given = late }))

-- ---- it is waited for in one combination alone

is_server : (v : Vars) → AtServer v → combination v ≡ Server
is_server v a = rw (a.session.gone, a.states.pae, a.states.backend, a.states.eap) refl

at_server_leaves : (e : Event) (v : Vars) → ComesBetween e → v.aaa_eap_resp ≡ false → AtServer v → Leaves (outcome e v).vars
at_server_leaves e v b z a =
    let P : Combination → Type 0 = λ c. Leaves (follows e c (set e v)).vars in
    subst P (sym (is_server v a)) (follows_leaves e v b (record { eap = a.states.eap; asked = z; given = a.calm.aaa_timeout }))

elsewhere : {X : Type 0} {s t : EapState} → s ≡ t → s ≡ AaaIdle → (t ≡ AaaIdle → X) → X
elsewhere e i f = f (sym e ∙ i)

pub server_leaves : (e : Event) (v : Vars) → ComesBetween e → v.eap ≡ AaaIdle → v.aaa_eap_resp ≡ false → Settled v → Leaves (outcome e v).vars
server_leaves e v b i z (at_request f a) = elsewhere a.states.eap i (λ h. cc)
server_leaves e v b i z (at_ignore f a) = elsewhere a.states.eap i (λ h. cc)
server_leaves e v b i z (at_server f a) = at_server_leaves e v b z a
server_leaves e v b i z (at_gave_up f a) = elsewhere a.states.eap i (λ h. cc)
server_leaves e v b i z (at_authenticated f a) = elsewhere a.states.eap i (λ h. cc)
server_leaves e v b i z (at_held f a) = elsewhere a.states.eap i (λ h. cc)
server_leaves e v b i z (at_open f a) = elsewhere a.states.eap i (λ h. cc)
server_leaves e v b i z (at_shut f a) = elsewhere a.states.eap i (λ h. cc)
server_leaves e v b i z (at_end f a) = elsewhere a.states.eap i (λ h. cc)

-- What a host shows of the variables that it stands for, and the marks that are set by them.
use Rattle.std.proofs.Common.{◌≡◌, ◌∙◌, Bool, true, false, ◌||◌, refl, sym, ap}
use Rattle.machine_vars.specs.declared.vars.Vars.{Vars}
use Rattle.machine_vars.specs.declared.states.Pae.{Pae}
use Rattle.machine_vars.specs.declared.states.Pae.TheVariants.{Held}
use Rattle.machine_vars.specs.declared.states.EapState.{EapState}
use Rattle.machine_vars.specs.declared.states.EapState.TheVariants as Eap
use Rattle.machine_vars.specs.declared.states.EapState.TheVariants.{AaaIdle}
use Rattle.machine_defs.specs.Settled.{Settled, at_request, at_ignore, at_server, at_gave_up, at_authenticated, at_held, at_open, at_shut, at_end}
use Rattle.typed_session.specs.declared.host.Served.{Served}
use Rattle.typed_session.specs.declared.host.Host.{Host}
use Rattle.typed_session.specs.declared.host.Host.TheVariants as host
use Rattle.typed_session.specs.Stands.{Stands}
use Rattle.typed_session.specs.Reads.{IsHeld}
use Rattle.typed_session.proofs.Lands.{host_settled}
use Rattle.typed_session.proofs.Shapes.{Shape, shape, in_request, in_ignore, in_server, in_gave_up, in_authenticated, in_held, in_ended}
use Rattle.switch_defs.specs.Session.{AnAnswer, Another, is_held, mark}
use Rattle.host_session.specs.Shows.{is_aaa_idle}

-- ---- the state HELD

pub held_is : (b : Bool) (v : Vars) → IsHeld b v → b ≡ is_held v.pae
held_is true v h = sym (ap is_held h)
held_is false v h = by v.pae refl
  where
    by : (p : Pae) → v.pae ≡ p → false ≡ is_held p
    by Held e = absurd (h e)
    by _ e = refl

pub told_mark : (b r was : Bool) (v : Vars) → IsHeld b v → r ≡ mark Another v was →
    (b || r) ≡ mark AnAnswer v was
told_mark b r was v h e = rw (e, held_is b v h) refl

-- ---- the state that waits for the server

idle_of : {v : Vars} → Settled v → v.eap ≡ AaaIdle → v.gone ≡ false
idle_of (at_request f a) e = a.session.gone
idle_of (at_ignore f a) e = a.session.gone
idle_of (at_server f a) e = a.session.gone
idle_of (at_gave_up f a) e = a.session.gone
idle_of (at_authenticated f a) e = a.session.gone
idle_of (at_held f a) e = a.session.gone
idle_of (at_open f a) e = a.flags.gone
idle_of (at_shut f a) e = a.flags.gone
idle_of {v} (at_end f a) e = absurd (other (sym a.states.eap ∙ e))
  where
    other : Eap.Start ≡ AaaIdle → ⊥
    other k = cc

-- a session that waits for the server goes on
pub idle_goes_on : {h : Host} {v : Vars} → Stands h v → v.eap ≡ AaaIdle → v.gone ≡ false
idle_goes_on s e = idle_of (host_settled s.0 s.1) e

-- and no other host does
pub not_server : {h : Host} {v : Vars} → Stands h v → ((a : Served) → h ≡ host.Server a → ⊥) →
    false ≡ is_aaa_idle v.eap
not_server {h} {v} s other = by (shape s)
  where
    by : Shape h v → false ≡ is_aaa_idle v.eap
    by (in_request e g p q) = sym (ap is_aaa_idle q)
    by (in_ignore e g p q) = sym (ap is_aaa_idle q)
    by (in_server e g p q) = absurd (other _ e)
    by (in_gave_up e g p q) = sym (ap is_aaa_idle q)
    by (in_authenticated e g p q t) = sym (ap is_aaa_idle q)
    by (in_held e g p q t) = sym (ap is_aaa_idle q)
    by (in_ended e g p t) = ended v.eap refl g
      where
        ended : (state : EapState) → v.eap ≡ state → v.gone ≡ true → false ≡ is_aaa_idle state
        ended AaaIdle k gone = absurd (both (idle_goes_on s k) gone)
          where
            both : v.gone ≡ false → v.gone ≡ true → ⊥
            both a b = cc
        ended _ k gone = refl

-- The opening value, also with an event.
use Rattle.std.proofs.Common.{◌≡◌, ℕ, suc, zero, ◌-◌, ◌≤◌, true, false, List, refl, subst, arith}
use Rattle.std.specs.Prelude.{nat_lt}
use Rattle.std.proofs.lemmas.Bool.Decides.{nat_tests}
use lib.Dec.{leb-suc-zero}
use Rattle.machine_vars.specs.declared.vars.Vars.{Vars}
use Rattle.machine_vars.specs.declared.control.Times.{Times}
use Rattle.machine_vars.specs.declared.control.Control.{Control}
use Rattle.machine_vars.specs.declared.control.Control.TheVariants.{Auto, ForceAuth, ForceUnauth}
use Rattle.machine_defs.specs.PaeTable as Pae
use Rattle.machine_defs.specs.BackendTable as Back
use Rattle.machine_defs.specs.Live.{fresh, InRange, set, Event, IsProper, Start, Logoff, Greeting, Packet, Challenge, Notice, Accept, Reject, Second, Change}
use Rattle.machine_defs.specs.Outcome.{begun}
use Rattle.machine_defs.proofs.Forms.{Bounds, shut, numbers, as_open, as_shut}
use Rattle.machine_defs.proofs.Goes.{Leads, Turns}
use Rattle.machine_defs.proofs.Round.{round}
use Rattle.machine_defs.proofs.Seconds.{none, not_auto}

-- P4 P5 B2
abbrev restarted : Vars → Vars
restarted v = Back.idle (Pae.restart (Pae.disconnected v))

module _ (port : ℕ) (own peer : List ℕ) (t : Times) (q s p : ℕ) (m : nat_lt t.reauth_max 1 ≡ false) where
  -- with times that are not 0
  abbrev t' : Times
  t' = record t { quiet = suc q; server = suc s; reauth_period = suc p }

  abbrev at_auto : Vars
  at_auto = fresh port own peer Auto t'

  kept : Bounds t.reauth_max 0 0
  kept = record { some = m; tried = leb-suc-zero _; sent = refl }

  auto_opens : Leads 48 at_auto (begun at_auto)
  auto_opens = round 35 (restarted at_auto) (numbers q s p 0) m (shut t.reauth 0) false false refl

  auto_turns : (e : Event) → IsProper e at_auto → Turns e at_auto
  auto_turns Start i = round 35 (restarted (set Start at_auto)) (numbers q s p 0) m (shut t.reauth 0) true false refl
  auto_turns Logoff i = round 35 (restarted (set Logoff at_auto)) (numbers q s p 0) m (shut t.reauth 0) false false refl
  auto_turns (Greeting source) i = absurd (not_auto i)
  auto_turns (Packet eap) i = round 35 (restarted (set (Packet eap) at_auto)) (numbers q s p 0) m (shut t.reauth 0) false false refl
  auto_turns (Challenge eap wait) i = round 35 (restarted (set (Challenge eap wait) at_auto)) (numbers q s p wait) m (shut t.reauth 0) false false refl
  auto_turns Notice i = round 35 (restarted (set Notice at_auto)) (numbers q s p 0) m (shut t.reauth 0) false false refl
  auto_turns (Accept eap on (suc less)) i = round 35 (restarted (set (Accept eap on (suc less)) at_auto)) (numbers q s less 0) m (shut on (suc less)) false false refl
  auto_turns (Accept eap on zero) i = absurd (none i.1)
  auto_turns (Reject eap) i = round 35 (restarted (set (Reject eap) at_auto)) (numbers q s p 0) m (shut t.reauth 0) false false refl
  auto_turns (Second late) i = round 35 (restarted (set (Second late) at_auto)) (numbers q s p 0) m (shut t.reauth 0) false false refl
  auto_turns (Change on (suc less)) i = round 35 (restarted (set (Change on (suc less)) at_auto)) (numbers q s less 0) m (shut on (suc less)) false false refl
  auto_turns (Change on zero) i = absurd (none i)

  open_turns : (e : Event) → Turns e (fresh port own peer ForceAuth t')
  open_turns Start = (refl, refl, as_open kept refl)
  open_turns Logoff = (refl, refl, as_open kept refl)
  open_turns (Greeting source) = (refl, refl, as_open kept refl)
  open_turns (Packet eap) = (refl, refl, as_open kept refl)
  open_turns (Challenge eap wait) = (refl, refl, as_open kept refl)
  open_turns Notice = (refl, refl, as_open kept refl)
  open_turns (Accept eap on less) = (refl, refl, as_open kept refl)
  open_turns (Reject eap) = (refl, refl, as_open kept refl)
  open_turns (Second late) = (refl, refl, as_open kept refl)
  open_turns (Change on less) = (refl, refl, as_open kept refl)

  shut_turns : (e : Event) → Turns e (fresh port own peer ForceUnauth t')
  shut_turns Start = (refl, refl, as_shut kept refl)
  shut_turns Logoff = (refl, refl, as_shut kept refl)
  shut_turns (Greeting source) = (refl, refl, as_shut kept refl)
  shut_turns (Packet eap) = (refl, refl, as_shut kept refl)
  shut_turns (Challenge eap wait) = (refl, refl, as_shut kept refl)
  shut_turns Notice = (refl, refl, as_shut kept refl)
  shut_turns (Accept eap on less) = (refl, refl, as_shut kept refl)
  shut_turns (Reject eap) = (refl, refl, as_shut kept refl)
  shut_turns (Second late) = (refl, refl, as_shut kept refl)
  shut_turns (Change on less) = (refl, refl, as_shut kept refl)

  turns_at : (control : Control) (e : Event) → IsProper e (fresh port own peer control t') → Turns e (fresh port own peer control t')
  turns_at Auto e i = auto_turns e i
  turns_at ForceAuth e i = open_turns e
  turns_at ForceUnauth e i = shut_turns e

  opens_at : (control : Control) → let x = fresh port own peer control t' in Leads 48 x (begun x)
  opens_at Auto = auto_opens
  opens_at ForceAuth = (refl, refl, as_open kept refl)
  opens_at ForceUnauth = (refl, refl, as_shut kept refl)

-- times in their ranges
times_parts : (t : Times) (q s p : ℕ) → suc q ≡ t.quiet → suc s ≡ t.server → suc p ≡ t.reauth_period → record t { quiet = suc q; server = suc s; reauth_period = suc p } ≡ t
times_parts t q s p a b c = rw (a, b, c) refl

one_try : (m : ℕ) → 1 ≤ m → nat_lt m 1 ≡ false
one_try m h = grind (arith, nat_tests)

as_in_range : (P : Times → Type 0) (t : Times) → InRange t → ((q s p : ℕ) → nat_lt t.reauth_max 1 ≡ false → P (record t { quiet = suc q; server = suc s; reauth_period = suc p })) → P t
as_in_range P t r f =
    subst P (times_parts t (t.quiet - 1) (t.server - 1) (t.reauth_period - 1) (omega (arith, r.quiet_from)) (omega (arith, r.server_from)) (omega (arith, r.period_from)))
    (f (t.quiet - 1) (t.server - 1) (t.reauth_period - 1) (one_try t.reauth_max r.most_from))

pub fresh_opens : (port : ℕ) (own peer : List ℕ) (control : Control) (t : Times) → InRange t → let x = fresh port own peer control t in Leads 48 x (begun x)
fresh_opens port own peer control t r =
    as_in_range (λ y. (let x = fresh port own peer control y in Leads 48 x (begun x))) t r (λ q s p m. opens_at port own peer t q s p m control)

pub fresh_turns : (e : Event) (port : ℕ) (own peer : List ℕ) (control : Control) (t : Times) → IsProper e (fresh port own peer control t) → InRange t → Turns e (fresh port own peer control t)
fresh_turns e port own peer control t i r =
    as_in_range (λ y. IsProper e (fresh port own peer control y) → Turns e (fresh port own peer control y)) t r (λ q s p m. turns_at port own peer t q s p m control e) i

-- The chain from a restart: a new round, or the end.
use Rattle.std.proofs.Common.{◌≡◌, ℕ, suc, ◌+◌, Bool, true, false, List, refl, subst, sym}
use Rattle.std.specs.Prelude.{nat_lt}
use lib.Dec.{leb-suc-zero}
use Rattle.machine_vars.specs.declared.vars.Vars.{Vars}
use Rattle.machine_vars.specs.declared.states.Pae.TheVariants as Pae
use Rattle.machine_vars.specs.declared.states.Backend.TheVariants as Backend
use Rattle.machine_defs.specs.Outcome.{anew}
use Rattle.machine_defs.proofs.Forms.{Numbers, Clock, shut, still, ticks, auto, as_request, as_end}
use Rattle.machine_defs.proofs.Goes.{Goes, Leads}

-- in RESTART, with a backend that waits; a Start and a Logoff may be there
abbrev pub restart : Vars → Numbers → Clock → Bool → Bool → Vars
restart v n c start logoff = record (auto v n c) { pae = Pae.Restart; backend = Backend.Idle; eap_restart = true; auth_start = false; auth_abort = false; eapol_start = start; eapol_logoff = logoff }

-- START sets the method's time back
abbrev started_over : Numbers → Numbers
started_over n = record n { method = 0 }

abbrev pub ten : ℕ → ℕ
ten n = suc (suc (suc (suc (suc (suc (suc (suc (suc (suc n)))))))))

module _ (fuel : ℕ) (v : Vars) (n : Numbers) (m : nat_lt v.times.reauth_max 1 ≡ false) where
  -- with room for a try
  new : (c : Clock) (start : Bool) → nat_lt v.times.reauth_max (v.re_auth_count + 1) ≡ false → let x = restart v n c start false in Leads (ten fuel) x (anew x)
  new (shut on w) start t = rw (t, Goes, t) (refl, refl, as_request (started_over n) (shut on w) 9 (record { some = m; tried = t; sent = refl }) refl)
  new (still w) start t = rw (t, Goes, t) (refl, refl, as_request (started_over n) (still w) 9 (record { some = m; tried = t; sent = refl }) refl)
  new (ticks w) start t = rw (t, Goes, t) (refl, refl, as_request (started_over n) (ticks w) 9 (record { some = m; tried = t; sent = refl }) refl)

  -- with no room
  tired : (c : Clock) (start : Bool) → nat_lt v.times.reauth_max (v.re_auth_count + 1) ≡ true → let x = restart v n c start false in Leads (ten fuel) x (anew x)
  tired (shut on w) true t = rw (t, m, Goes, t) (refl, refl, as_request (started_over n) (shut on w) 9 (record { some = m; tried = m; sent = refl }) refl)
  tired (shut on w) false t = rw (t, t, Goes, t) (refl, refl, as_end (record { some = m; tried = leb-suc-zero _; sent = refl }) refl refl)
  tired (still w) start t = rw (t, m, Goes, t) (refl, refl, as_request (started_over n) (shut false w) 9 (record { some = m; tried = m; sent = refl }) refl)
  tired (ticks w) start t = rw (t, m, Goes, t) (refl, refl, as_request (started_over n) (shut true (suc w)) 9 (record { some = m; tried = m; sent = refl }) refl)

  -- after a Logoff
  after_logoff : (c : Clock) (start t : Bool) → nat_lt v.times.reauth_max (v.re_auth_count + 1) ≡ t → let x = restart v n c start true in Leads (ten fuel) x (anew x)
  after_logoff (shut on w) true t e = rw (m, Goes) (refl, refl, as_request (started_over n) (shut on w) 9 (record { some = m; tried = m; sent = refl }) refl)
  after_logoff (shut on w) false true e = rw (e, Goes, e) (refl, refl, as_end (record { some = m; tried = leb-suc-zero _; sent = refl }) refl refl)
  after_logoff (shut on w) false false e = rw (e, e, e, e, m, e, e, e, e, Goes) (refl, refl, as_request (started_over n) (shut on w) 9 (record { some = m; tried = m; sent = refl }) refl)
  after_logoff (still w) start t e = rw (m, Goes) (refl, refl, as_request (started_over n) (shut false w) 9 (record { some = m; tried = m; sent = refl }) refl)
  after_logoff (ticks w) start t e = rw (m, Goes) (refl, refl, as_request (started_over n) (shut true (suc w)) 9 (record { some = m; tried = m; sent = refl }) refl)

-- each of these, of a value that looks so
pub round : (fuel : ℕ) (v : Vars) (n : Numbers) → nat_lt v.times.reauth_max 1 ≡ false → (c : Clock) (start logoff : Bool) →
    v ≡ restart v n c start logoff → Leads (ten fuel) v (anew v)
round fuel v n m c start logoff e =
    let P : Vars → Type 0 = λ x. Leads (ten fuel) x (anew x) in
    subst P (sym e) (by_tries start logoff (nat_lt v.times.reauth_max (v.re_auth_count + 1)) refl)
  where
    by_tries : (start logoff t : Bool) → nat_lt v.times.reauth_max (v.re_auth_count + 1) ≡ t → let x = restart v n c start logoff in Leads (ten fuel) x (anew x)
    by_tries start true t e = after_logoff fuel v n m c start t e
    by_tries start false true e = tired fuel v n m c start e
    by_tries start false false e = new fuel v n m c start e

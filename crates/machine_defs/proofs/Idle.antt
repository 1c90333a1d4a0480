-- A change of the times of a settled value takes no row, and neither does what is set back in one.
use Rattle.std.proofs.Common.{◌≡◌, ℕ, suc, zero, ◌≤◌, Bool, refl, subst, sym, ap, arith, None}
use Rattle.machine_vars.specs.declared.vars.Vars.{Vars}
use Rattle.machine_defs.specs.Settling.{next, rests}
use Rattle.machine_defs.specs.Live.{set, Change, Live, turned, cleared, to_all}
use Rattle.machine_defs.specs.Settled.{Settled}
use Rattle.machine_defs.specs.Outcome.{silent}
use Rattle.machine_defs.proofs.Forms.{Formed, as_request, as_ignore, as_server, as_gave_up, as_authenticated, as_held, as_open, as_shut, as_end}
use Rattle.machine_defs.proofs.Goes.{goes_end, goes_nowhere, Lands, Leads}
use Rattle.machine_defs.proofs.Asking.{request_changed, ignore_changed}
use Rattle.machine_defs.proofs.Serving.{server_changed}
use Rattle.machine_defs.proofs.Over.{gave_up_changed, authenticated_changed, held_changed}
use Rattle.machine_defs.proofs.Turning.{gone_rests}
use Rattle.machine_defs.proofs.Bound.{idle_formed, cleared_formed, to_all_formed}
use Rattle.machine_defs.proofs.Reading.{formed, settled_form}

-- a value that rests so has no next, and is of one of the forms
abbrev Rests : Vars → Type 0
Rests v = (next v ≡ None) × Formed v

at_rest : (x : Vars) → Leads 1 x (silent x) → Rests x
at_rest x l = let h = goes_nowhere x (Lands (silent x)) l in (h, (goes_end (rests h) 1 (Lands (silent x)) l).0.2)

changed : (on : Bool) (p : ℕ) (v w : Vars) → v ≡ w → (let x = set (Change on (suc p)) w in Leads 1 x (silent x)) → Rests (set (Change on (suc p)) v)
changed on p v w h l =
    let P : Vars → Type 0 = λ y. (let x = set (Change on (suc p)) y in Leads 1 x (silent x)) in
    at_rest (set (Change on (suc p)) v) (subst P (sym h) l)

formed_change : (on : Bool) (p : ℕ) (v : Vars) → Formed v → Rests (set (Change on (suc p)) v)
formed_change on p v (as_request n c r k e) = changed on p v _ e (request_changed v n c r k on p)
formed_change on p v (as_ignore n c r k e) = changed on p v _ e (ignore_changed v n c r k on p)
formed_change on p v (as_server n c a h g k e) = changed on p v _ e (server_changed v n c a h g k on p)
formed_change on p v (as_gave_up n c a k e) = changed on p v _ e (gave_up_changed v n c a k on p)
formed_change on p v (as_authenticated n was w k e) = changed on p v _ e (authenticated_changed v n was w k on p)
formed_change on p v (as_held n was w q k e) = changed on p v _ e (held_changed v n was w q k on p)
formed_change on p v (as_open k e) = changed on p v _ e (refl, refl, as_open k refl)
formed_change on p v (as_shut k e) = changed on p v _ e (refl, refl, as_shut k refl)
formed_change on p v (as_end k e f) = (gone_rests (set (Change on (suc p)) v) e, as_end k e (ap (set (Change on (suc p))) f))

-- a change of the times
pub change_idle : (on : Bool) (period : ℕ) {v : Vars} → 1 ≤ period → Live v → next v ≡ None → next (set (Change on period) v) ≡ None
change_idle on zero i l h = absurd (omega (arith, i))
change_idle on (suc p) i l h = (formed_change on p _ (idle_formed l h)).0

pub change_live : (on : Bool) (period : ℕ) {v : Vars} → 1 ≤ period → Live v → next v ≡ None → Live (set (Change on period) v)
change_live on period i l h = turned (Change on period) l i (rests (change_idle on period i l h))

pub change_settled : (on : Bool) (period : ℕ) {v : Vars} → 1 ≤ period → Live v → next v ≡ None → Settled (set (Change on period) v)
change_settled on zero i l h = absurd (omega (arith, i))
change_settled on (suc p) i l h = settled_form (formed_change on p _ (idle_formed l h)).1

-- what is set back leaves a settled value settled
pub cleared_settled : {v : Vars} → Settled v → Settled (cleared v)
cleared_settled s = settled_form (cleared_formed (formed s))

pub to_all_settled : {v : Vars} → Settled v → Settled (to_all v)
to_all_settled s = settled_form (to_all_formed (formed s))

-- no row looks at what is cleared, nor at the address of the peer
pub cleared_next : (v : Vars) → next (cleared v) ≡ next v
cleared_next v = refl

pub to_all_next : (v : Vars) → next (to_all v) ≡ next v
to_all_next v = refl

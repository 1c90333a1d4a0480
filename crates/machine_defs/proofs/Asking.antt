-- While the host is asked.
use Rattle.std.proofs.Common.{◌≡◌, ℕ, suc, zero, ◌+◌, Bool, true, false, List, refl, subst}
use Rattle.std.specs.Prelude.{nat_lt}
use Rattle.machine_vars.specs.declared.vars.Vars.{Vars}
use Rattle.machine_defs.specs.EapTable.{response_fits}
use Rattle.machine_defs.specs.Live.{set, Event, IsProper, Start, Logoff, Greeting, Packet, Challenge, Notice, Accept, Reject, Second, Change}
use Rattle.machine_defs.specs.Settling.{Rest}
use Rattle.machine_defs.specs.Outcome.{aborted, left, spent, anew, silent, resent, Request, Ignore, passed}
use Rattle.machine_defs.proofs.Forms.{Numbers, Clock, shut, still, ticks, enabled, when, Kept, numbers, request, ignore, as_request, as_ignore, as_server}
use Rattle.machine_defs.proofs.Goes.{Goes, Leads, Turns, stays}
use Rattle.machine_defs.proofs.Round.{round, ten}
use Rattle.machine_defs.proofs.Seconds.{after, wound, none, not_auto}

-- the request was sent too often
spent_anew : (x : Vars) → nat_lt 3 (x.retrans_count + 1) ≡ true → anew (spent (record x { retrans_while = 0 })) ≡ resent (record x { retrans_while = 0 })
spent_anew x e = rw e refl

-- ---- REQUEST

pub request_rests : (v : Vars) (n : Numbers) (c : Clock) (r : ℕ) → Kept v → let x = request v n c r in Leads 1 x (silent x)
request_rests v n (shut on w) r k = (refl, refl, as_request n (shut on w) r k refl)
request_rests v n (still w) r k = (refl, refl, as_request n (still w) r k refl)
request_rests v n (ticks w) r k = (refl, refl, as_request n (ticks w) r k refl)

pub request_changed : (v : Vars) (n : Numbers) (c : Clock) (r : ℕ) → Kept v → (on : Bool) (p : ℕ) → let x = set (Change on (suc p)) (request v n c r) in Leads 1 x (silent x)
request_changed v n (shut was w) r k on p = (refl, refl, as_request (record n { period = p }) (shut on (suc p)) r k refl)
request_changed v n (still w) r k false p = (refl, refl, as_request (record n { period = p }) (still (suc p)) r k refl)
request_changed v n (still w) r k true p = (refl, refl, as_request (record n { period = p }) (ticks p) r k refl)
request_changed v n (ticks w) r k false p = (refl, refl, as_request (record n { period = p }) (still (suc p)) r k refl)
request_changed v n (ticks w) r k true p = (refl, refl, as_request (record n { period = p }) (ticks p) r k refl)

request_started : (v : Vars) (n : Numbers) (c : Clock) (r : ℕ) → Kept v → Turns Start (request v n c r)
request_started v n c r k = round 34 (aborted (set Start (request v n c r))) n k.some c true false refl

request_logged_off : (v : Vars) (n : Numbers) (c : Clock) (r : ℕ) → Kept v → Turns Logoff (request v n c r)
request_logged_off v n c r k = round 33 (left (set Logoff (request v n c r))) n k.some (shut (enabled c) (when c)) false false refl

request_received : (v : Vars) (q s p m : ℕ) (c : Clock) (r : ℕ) → Kept v → (eap : List ℕ) (fits : Bool) → response_fits eap v.current_id v.local ≡ fits →
    Turns (Packet eap) (request v (numbers q s p m) c r)
request_received v q s p m (shut on w) r k eap true e = rw (e, Goes, e) (refl, refl, as_server (numbers q s p m) (shut on w) s false v.re_authenticate k refl)
request_received v q s p zero (shut on w) r k eap false e = rw (e, Goes, e) (refl, refl, as_ignore (numbers q s p zero) (shut on w) 9 k refl)
request_received v q s p (suc m) (shut on w) r k eap false e = rw (e, Goes, e) (refl, refl, as_ignore (numbers q s p (suc m)) (shut on w) m k refl)
request_received v q s p m (still w) r k eap true e = rw (e, Goes, e) (refl, refl, as_server (numbers q s p m) (still w) s false v.re_authenticate k refl)
request_received v q s p zero (still w) r k eap false e = rw (e, Goes, e) (refl, refl, as_ignore (numbers q s p zero) (still w) 9 k refl)
request_received v q s p (suc m) (still w) r k eap false e = rw (e, Goes, e) (refl, refl, as_ignore (numbers q s p (suc m)) (still w) m k refl)
request_received v q s p m (ticks w) r k eap true e = rw (e, Goes, e) (refl, refl, as_server (numbers q s p m) (ticks w) s false v.re_authenticate k refl)
request_received v q s p zero (ticks w) r k eap false e = rw (e, Goes, e) (refl, refl, as_ignore (numbers q s p zero) (ticks w) 9 k refl)
request_received v q s p (suc m) (ticks w) r k eap false e = rw (e, Goes, e) (refl, refl, as_ignore (numbers q s p (suc m)) (ticks w) m k refl)

request_challenged : (v : Vars) (n : Numbers) (c : Clock) (r : ℕ) → Kept v → (eap : List ℕ) (wait : ℕ) → Turns (Challenge eap wait) (request v n c r)
request_challenged v n (shut on w) r k eap wait = (refl, refl, as_request (record n { method = wait }) (shut on w) r k refl)
request_challenged v n (still w) r k eap wait = (refl, refl, as_request (record n { method = wait }) (still w) r k refl)
request_challenged v n (ticks w) r k eap wait = (refl, refl, as_request (record n { method = wait }) (ticks w) r k refl)

request_noted : (v : Vars) (n : Numbers) (c : Clock) (r : ℕ) → Kept v → Turns Notice (request v n c r)
request_noted v n (shut on w) r k = (refl, refl, as_request n (shut on w) r k refl)
request_noted v n (still w) r k = (refl, refl, as_request n (still w) r k refl)
request_noted v n (ticks w) r k = (refl, refl, as_request n (ticks w) r k refl)

request_refused : (v : Vars) (n : Numbers) (c : Clock) (r : ℕ) → Kept v → (eap : List ℕ) → Turns (Reject eap) (request v n c r)
request_refused v n (shut on w) r k eap = (refl, refl, as_request n (shut on w) r k refl)
request_refused v n (still w) r k eap = (refl, refl, as_request n (still w) r k refl)
request_refused v n (ticks w) r k eap = (refl, refl, as_request n (ticks w) r k refl)

request_accepted : (v : Vars) (n : Numbers) (c : Clock) (r : ℕ) → Kept v → (eap : List ℕ) (on : Bool) (p : ℕ) → Turns (Accept eap on (suc p)) (request v n c r)
request_accepted v n (shut was w) r k eap on p = (refl, refl, as_request (record n { period = p }) (shut on (suc p)) r k refl)
request_accepted v n (still w) r k eap false p = (refl, refl, as_request (record n { period = p }) (still (suc p)) r k refl)
request_accepted v n (still w) r k eap true p = (refl, refl, as_request (record n { period = p }) (ticks p) r k refl)
request_accepted v n (ticks w) r k eap false p = (refl, refl, as_request (record n { period = p }) (still (suc p)) r k refl)
request_accepted v n (ticks w) r k eap true p = (refl, refl, as_request (record n { period = p }) (ticks p) r k refl)

-- a second, where the reauthentication timer has not run out
request_waits : (fuel : ℕ) (v : Vars) (u s p m : ℕ) (c : Clock) (r : ℕ) → Kept v → (spent : Bool) → nat_lt 3 (v.retrans_count + 1) ≡ spent →
    let x = record (request v (numbers u s p m) c 0) { retrans_while = r } in Leads (suc (suc (suc (suc (suc (suc (suc (ten fuel)))))))) x (resent x)
request_waits fuel v u s p m (shut on w) (suc r) k spent e = (refl, refl, as_request (numbers u s p m) (shut on w) r k refl)
request_waits fuel v u s p zero (shut on w) zero k false e = rw (e, e, Goes, e) (refl, refl, as_request (numbers u s p zero) (shut on w) 9 (record { some = k.some; tried = k.tried; sent = e }) refl)
request_waits fuel v u s p (suc m) (shut on w) zero k false e = rw (e, e, Goes, e) (refl, refl, as_request (numbers u s p (suc m)) (shut on w) m (record { some = k.some; tried = k.tried; sent = e }) refl)
request_waits fuel v u s p m (shut on w) zero k true e =
    let x = record (request v (numbers u s p m) (shut on w) 0) { retrans_while = 0 } in
    let P : Rest → Type 0 = λ y. Leads (suc (suc (suc (suc (suc (suc (suc (ten fuel)))))))) x y in
    subst P (spent_anew x e) (rw (e, e, Goes) (round fuel (spent x) (numbers u s p m) k.some (shut on w) false false refl))
request_waits fuel v u s p m (still w) (suc r) k spent e = (refl, refl, as_request (numbers u s p m) (still w) r k refl)
request_waits fuel v u s p zero (still w) zero k false e = rw (e, e, Goes, e) (refl, refl, as_request (numbers u s p zero) (still w) 9 (record { some = k.some; tried = k.tried; sent = e }) refl)
request_waits fuel v u s p (suc m) (still w) zero k false e = rw (e, e, Goes, e) (refl, refl, as_request (numbers u s p (suc m)) (still w) m (record { some = k.some; tried = k.tried; sent = e }) refl)
request_waits fuel v u s p m (still w) zero k true e =
    let x = record (request v (numbers u s p m) (still w) 0) { retrans_while = 0 } in
    let P : Rest → Type 0 = λ y. Leads (suc (suc (suc (suc (suc (suc (suc (ten fuel)))))))) x y in
    subst P (spent_anew x e) (rw (e, e, Goes) (round fuel (spent x) (numbers u s p m) k.some (still w) false false refl))
request_waits fuel v u s p m (ticks w) (suc r) k spent e = (refl, refl, as_request (numbers u s p m) (ticks w) r k refl)
request_waits fuel v u s p zero (ticks w) zero k false e = rw (e, e, Goes, e) (refl, refl, as_request (numbers u s p zero) (ticks w) 9 (record { some = k.some; tried = k.tried; sent = e }) refl)
request_waits fuel v u s p (suc m) (ticks w) zero k false e = rw (e, e, Goes, e) (refl, refl, as_request (numbers u s p (suc m)) (ticks w) m (record { some = k.some; tried = k.tried; sent = e }) refl)
request_waits fuel v u s p m (ticks w) zero k true e =
    let x = record (request v (numbers u s p m) (ticks w) 0) { retrans_while = 0 } in
    let P : Rest → Type 0 = λ y. Leads (suc (suc (suc (suc (suc (suc (suc (ten fuel)))))))) x y in
    subst P (spent_anew x e) (rw (e, e, Goes) (round fuel (spent x) (numbers u s p m) k.some (ticks w) false false refl))

request_second : (v : Vars) (u s p m : ℕ) (c : Clock) (o : ℕ) → Kept v → (q a w r : ℕ) (late spent : Bool) → nat_lt 3 (v.retrans_count + 1) ≡ spent →
    let x = after q a w r late (request v (numbers u s p m) c o) in Leads 48 x (passed Request x)
request_second v u s p m (shut on was) o k q a w r late spent e = request_waits 31 (after q a w r late v) u s p m (shut on w) r k spent e
request_second v u s p m (still was) o k q a w r late spent e = request_waits 31 (after q a w r late v) u s p m (still w) r k spent e
request_second v u s p m (ticks was) o k q a (suc w) r late spent e = request_waits 31 (after q a (suc w) r late v) u s p m (ticks w) r k spent e
request_second v u s p m (ticks was) o k q a zero r late spent e = request_waits 29 (wound (after q a zero r late v)) u s p m (ticks p) r k spent e

pub request_turns : (e : Event) (v : Vars) (n : Numbers) (c : Clock) (r : ℕ) → Kept v → IsProper e (request v n c r) → Turns e (request v n c r)
request_turns Start v n c r k i = request_started v n c r k
request_turns Logoff v n c r k i = request_logged_off v n c r k
request_turns (Greeting source) v n c r k i = absurd (not_auto i)
request_turns (Packet eap) v n c r k i = request_received v n.quiet n.server n.period n.method c r k eap (response_fits eap v.current_id v.local) refl
request_turns (Challenge eap wait) v n c r k i = request_challenged v n c r k eap wait
request_turns Notice v n c r k i = request_noted v n c r k
request_turns (Accept eap on (suc p)) v n c r k i = request_accepted v n c r k eap on p
request_turns (Accept eap on zero) v n c r k i = absurd (none i.1)
request_turns (Reject eap) v n c r k i = request_refused v n c r k eap
request_turns (Second late) v n c r k i = request_second v n.quiet n.server n.period n.method c r k _ _ _ _ _ (nat_lt 3 (v.retrans_count + 1)) refl
request_turns (Change on (suc p)) v n c r k i = stays (set (Change on (suc p)) (request v n c r)) (request_changed v n c r k on p)
request_turns (Change on zero) v n c r k i = absurd (none i)

-- ---- IGNORE

pub ignore_rests : (v : Vars) (n : Numbers) (c : Clock) (r : ℕ) → Kept v → let x = ignore v n c r in Leads 1 x (silent x)
ignore_rests v n (shut on w) r k = (refl, refl, as_ignore n (shut on w) r k refl)
ignore_rests v n (still w) r k = (refl, refl, as_ignore n (still w) r k refl)
ignore_rests v n (ticks w) r k = (refl, refl, as_ignore n (ticks w) r k refl)

pub ignore_changed : (v : Vars) (n : Numbers) (c : Clock) (r : ℕ) → Kept v → (on : Bool) (p : ℕ) → let x = set (Change on (suc p)) (ignore v n c r) in Leads 1 x (silent x)
ignore_changed v n (shut was w) r k on p = (refl, refl, as_ignore (record n { period = p }) (shut on (suc p)) r k refl)
ignore_changed v n (still w) r k false p = (refl, refl, as_ignore (record n { period = p }) (still (suc p)) r k refl)
ignore_changed v n (still w) r k true p = (refl, refl, as_ignore (record n { period = p }) (ticks p) r k refl)
ignore_changed v n (ticks w) r k false p = (refl, refl, as_ignore (record n { period = p }) (still (suc p)) r k refl)
ignore_changed v n (ticks w) r k true p = (refl, refl, as_ignore (record n { period = p }) (ticks p) r k refl)

ignore_started : (v : Vars) (n : Numbers) (c : Clock) (r : ℕ) → Kept v → Turns Start (ignore v n c r)
ignore_started v n c r k = round 34 (aborted (set Start (ignore v n c r))) n k.some c true false refl

ignore_logged_off : (v : Vars) (n : Numbers) (c : Clock) (r : ℕ) → Kept v → Turns Logoff (ignore v n c r)
ignore_logged_off v n c r k = round 33 (left (set Logoff (ignore v n c r))) n k.some (shut (enabled c) (when c)) false false refl

ignore_received : (v : Vars) (q s p m : ℕ) (c : Clock) (r : ℕ) → Kept v → (eap : List ℕ) (fits : Bool) → response_fits eap v.current_id v.local ≡ fits →
    Turns (Packet eap) (ignore v (numbers q s p m) c r)
ignore_received v q s p m (shut on w) r k eap true e = rw (e, Goes, e) (refl, refl, as_server (numbers q s p m) (shut on w) s false v.re_authenticate k refl)
ignore_received v q s p zero (shut on w) r k eap false e = rw (e, Goes, e) (refl, refl, as_ignore (numbers q s p zero) (shut on w) 9 k refl)
ignore_received v q s p (suc m) (shut on w) r k eap false e = rw (e, Goes, e) (refl, refl, as_ignore (numbers q s p (suc m)) (shut on w) m k refl)
ignore_received v q s p m (still w) r k eap true e = rw (e, Goes, e) (refl, refl, as_server (numbers q s p m) (still w) s false v.re_authenticate k refl)
ignore_received v q s p zero (still w) r k eap false e = rw (e, Goes, e) (refl, refl, as_ignore (numbers q s p zero) (still w) 9 k refl)
ignore_received v q s p (suc m) (still w) r k eap false e = rw (e, Goes, e) (refl, refl, as_ignore (numbers q s p (suc m)) (still w) m k refl)
ignore_received v q s p m (ticks w) r k eap true e = rw (e, Goes, e) (refl, refl, as_server (numbers q s p m) (ticks w) s false v.re_authenticate k refl)
ignore_received v q s p zero (ticks w) r k eap false e = rw (e, Goes, e) (refl, refl, as_ignore (numbers q s p zero) (ticks w) 9 k refl)
ignore_received v q s p (suc m) (ticks w) r k eap false e = rw (e, Goes, e) (refl, refl, as_ignore (numbers q s p (suc m)) (ticks w) m k refl)

ignore_challenged : (v : Vars) (n : Numbers) (c : Clock) (r : ℕ) → Kept v → (eap : List ℕ) (wait : ℕ) → Turns (Challenge eap wait) (ignore v n c r)
ignore_challenged v n (shut on w) r k eap wait = (refl, refl, as_ignore (record n { method = wait }) (shut on w) r k refl)
ignore_challenged v n (still w) r k eap wait = (refl, refl, as_ignore (record n { method = wait }) (still w) r k refl)
ignore_challenged v n (ticks w) r k eap wait = (refl, refl, as_ignore (record n { method = wait }) (ticks w) r k refl)

ignore_noted : (v : Vars) (n : Numbers) (c : Clock) (r : ℕ) → Kept v → Turns Notice (ignore v n c r)
ignore_noted v n (shut on w) r k = (refl, refl, as_ignore n (shut on w) r k refl)
ignore_noted v n (still w) r k = (refl, refl, as_ignore n (still w) r k refl)
ignore_noted v n (ticks w) r k = (refl, refl, as_ignore n (ticks w) r k refl)

ignore_refused : (v : Vars) (n : Numbers) (c : Clock) (r : ℕ) → Kept v → (eap : List ℕ) → Turns (Reject eap) (ignore v n c r)
ignore_refused v n (shut on w) r k eap = (refl, refl, as_ignore n (shut on w) r k refl)
ignore_refused v n (still w) r k eap = (refl, refl, as_ignore n (still w) r k refl)
ignore_refused v n (ticks w) r k eap = (refl, refl, as_ignore n (ticks w) r k refl)

ignore_accepted : (v : Vars) (n : Numbers) (c : Clock) (r : ℕ) → Kept v → (eap : List ℕ) (on : Bool) (p : ℕ) → Turns (Accept eap on (suc p)) (ignore v n c r)
ignore_accepted v n (shut was w) r k eap on p = (refl, refl, as_ignore (record n { period = p }) (shut on (suc p)) r k refl)
ignore_accepted v n (still w) r k eap false p = (refl, refl, as_ignore (record n { period = p }) (still (suc p)) r k refl)
ignore_accepted v n (still w) r k eap true p = (refl, refl, as_ignore (record n { period = p }) (ticks p) r k refl)
ignore_accepted v n (ticks w) r k eap false p = (refl, refl, as_ignore (record n { period = p }) (still (suc p)) r k refl)
ignore_accepted v n (ticks w) r k eap true p = (refl, refl, as_ignore (record n { period = p }) (ticks p) r k refl)

-- a second, where the reauthentication timer has not run out
ignore_waits : (fuel : ℕ) (v : Vars) (u s p m : ℕ) (c : Clock) (r : ℕ) → Kept v → (spent : Bool) → nat_lt 3 (v.retrans_count + 1) ≡ spent →
    let x = record (ignore v (numbers u s p m) c 0) { retrans_while = r } in Leads (suc (suc (suc (suc (suc (suc (suc (ten fuel)))))))) x (resent x)
ignore_waits fuel v u s p m (shut on w) (suc r) k spent e = (refl, refl, as_ignore (numbers u s p m) (shut on w) r k refl)
ignore_waits fuel v u s p zero (shut on w) zero k false e = rw (e, e, Goes, e) (refl, refl, as_request (numbers u s p zero) (shut on w) 9 (record { some = k.some; tried = k.tried; sent = e }) refl)
ignore_waits fuel v u s p (suc m) (shut on w) zero k false e = rw (e, e, Goes, e) (refl, refl, as_request (numbers u s p (suc m)) (shut on w) m (record { some = k.some; tried = k.tried; sent = e }) refl)
ignore_waits fuel v u s p m (shut on w) zero k true e =
    let x = record (ignore v (numbers u s p m) (shut on w) 0) { retrans_while = 0 } in
    let P : Rest → Type 0 = λ y. Leads (suc (suc (suc (suc (suc (suc (suc (ten fuel)))))))) x y in
    subst P (spent_anew x e) (rw (e, e, Goes) (round fuel (spent x) (numbers u s p m) k.some (shut on w) false false refl))
ignore_waits fuel v u s p m (still w) (suc r) k spent e = (refl, refl, as_ignore (numbers u s p m) (still w) r k refl)
ignore_waits fuel v u s p zero (still w) zero k false e = rw (e, e, Goes, e) (refl, refl, as_request (numbers u s p zero) (still w) 9 (record { some = k.some; tried = k.tried; sent = e }) refl)
ignore_waits fuel v u s p (suc m) (still w) zero k false e = rw (e, e, Goes, e) (refl, refl, as_request (numbers u s p (suc m)) (still w) m (record { some = k.some; tried = k.tried; sent = e }) refl)
ignore_waits fuel v u s p m (still w) zero k true e =
    let x = record (ignore v (numbers u s p m) (still w) 0) { retrans_while = 0 } in
    let P : Rest → Type 0 = λ y. Leads (suc (suc (suc (suc (suc (suc (suc (ten fuel)))))))) x y in
    subst P (spent_anew x e) (rw (e, e, Goes) (round fuel (spent x) (numbers u s p m) k.some (still w) false false refl))
ignore_waits fuel v u s p m (ticks w) (suc r) k spent e = (refl, refl, as_ignore (numbers u s p m) (ticks w) r k refl)
ignore_waits fuel v u s p zero (ticks w) zero k false e = rw (e, e, Goes, e) (refl, refl, as_request (numbers u s p zero) (ticks w) 9 (record { some = k.some; tried = k.tried; sent = e }) refl)
ignore_waits fuel v u s p (suc m) (ticks w) zero k false e = rw (e, e, Goes, e) (refl, refl, as_request (numbers u s p (suc m)) (ticks w) m (record { some = k.some; tried = k.tried; sent = e }) refl)
ignore_waits fuel v u s p m (ticks w) zero k true e =
    let x = record (ignore v (numbers u s p m) (ticks w) 0) { retrans_while = 0 } in
    let P : Rest → Type 0 = λ y. Leads (suc (suc (suc (suc (suc (suc (suc (ten fuel)))))))) x y in
    subst P (spent_anew x e) (rw (e, e, Goes) (round fuel (spent x) (numbers u s p m) k.some (ticks w) false false refl))

ignore_second : (v : Vars) (u s p m : ℕ) (c : Clock) (o : ℕ) → Kept v → (q a w r : ℕ) (late spent : Bool) → nat_lt 3 (v.retrans_count + 1) ≡ spent →
    let x = after q a w r late (ignore v (numbers u s p m) c o) in Leads 48 x (passed Ignore x)
ignore_second v u s p m (shut on was) o k q a w r late spent e = ignore_waits 31 (after q a w r late v) u s p m (shut on w) r k spent e
ignore_second v u s p m (still was) o k q a w r late spent e = ignore_waits 31 (after q a w r late v) u s p m (still w) r k spent e
ignore_second v u s p m (ticks was) o k q a (suc w) r late spent e = ignore_waits 31 (after q a (suc w) r late v) u s p m (ticks w) r k spent e
ignore_second v u s p m (ticks was) o k q a zero r late spent e = ignore_waits 29 (wound (after q a zero r late v)) u s p m (ticks p) r k spent e

pub ignore_turns : (e : Event) (v : Vars) (n : Numbers) (c : Clock) (r : ℕ) → Kept v → IsProper e (ignore v n c r) → Turns e (ignore v n c r)
ignore_turns Start v n c r k i = ignore_started v n c r k
ignore_turns Logoff v n c r k i = ignore_logged_off v n c r k
ignore_turns (Greeting source) v n c r k i = absurd (not_auto i)
ignore_turns (Packet eap) v n c r k i = ignore_received v n.quiet n.server n.period n.method c r k eap (response_fits eap v.current_id v.local) refl
ignore_turns (Challenge eap wait) v n c r k i = ignore_challenged v n c r k eap wait
ignore_turns Notice v n c r k i = ignore_noted v n c r k
ignore_turns (Accept eap on (suc p)) v n c r k i = ignore_accepted v n c r k eap on p
ignore_turns (Accept eap on zero) v n c r k i = absurd (none i.1)
ignore_turns (Reject eap) v n c r k i = ignore_refused v n c r k eap
ignore_turns (Second late) v n c r k i = ignore_second v n.quiet n.server n.period n.method c r k _ _ _ _ _ (nat_lt 3 (v.retrans_count + 1)) refl
ignore_turns (Change on (suc p)) v n c r k i = stays (set (Change on (suc p)) (ignore v n c r)) (ignore_changed v n c r k on p)
ignore_turns (Change on zero) v n c r k i = absurd (none i)

-- While the server is asked.
use Rattle.std.proofs.Common.{◌≡◌, ℕ, suc, zero, Bool, true, false, List, ◌∷◌, refl, ap}
use lib.Dec.{leb-suc-zero}
use Rattle.machine_vars.specs.declared.vars.Vars.{Vars}
use Rattle.machine_defs.specs.PaeTable as Pae
use Rattle.machine_defs.specs.BackendTable as Back
use Rattle.machine_defs.specs.EapTable as Eap
use Rattle.machine_defs.specs.EapTable.{response_fits}
use Rattle.machine_defs.specs.Live.{set, Event, IsProper, Start, Logoff, Greeting, Packet, Challenge, Notice, Accept, Reject, Second, Change}
use Rattle.machine_defs.specs.Outcome.{outcome, anew, aborted, left, silent, Server, passed}
use Rattle.machine_defs.proofs.Forms.{Numbers, Clock, shut, still, ticks, enabled, when, Kept, numbers, asks_server, as_request, as_ignore, as_server, as_gave_up, as_authenticated, as_held}
use Rattle.machine_defs.proofs.Goes.{Goes, goes_on, Lands, Leads, Turns, stays}
use Rattle.machine_defs.proofs.Round.{round, ten}
use Rattle.machine_defs.proofs.Seconds.{after, wound, none, not_auto}

pub server_rests : (v : Vars) (n : Numbers) (c : Clock) (a : ℕ) (h g : Bool) → Kept v → let x = asks_server v n c a h g in Leads 1 x (silent x)
server_rests v n (shut on w) a h g k = (refl, refl, as_server n (shut on w) a h g k refl)
server_rests v n (still w) a h g k = (refl, refl, as_server n (still w) a h g k refl)
server_rests v n (ticks w) a h g k = (refl, refl, as_server n (ticks w) a h g k refl)

pub server_changed : (v : Vars) (n : Numbers) (c : Clock) (a : ℕ) (h g : Bool) → Kept v → (on : Bool) (p : ℕ) → let x = set (Change on (suc p)) (asks_server v n c a h g) in Leads 1 x (silent x)
server_changed v n (shut was w) a h g k on p = (refl, refl, as_server (record n { period = p }) (shut on (suc p)) a h g k refl)
server_changed v n (still w) a h g k false p = (refl, refl, as_server (record n { period = p }) (still (suc p)) a h g k refl)
server_changed v n (still w) a h g k true p = (refl, refl, as_server (record n { period = p }) (ticks p) a h g k refl)
server_changed v n (ticks w) a h g k false p = (refl, refl, as_server (record n { period = p }) (still (suc p)) a h g k refl)
server_changed v n (ticks w) a h g k true p = (refl, refl, as_server (record n { period = p }) (ticks p) a h g k refl)

server_started : (v : Vars) (n : Numbers) (c : Clock) (a : ℕ) (h g : Bool) → Kept v → Turns Start (asks_server v n c a h g)
server_started v n c a h g k = round 34 (aborted (set Start (asks_server v n c a h g))) n k.some c true false refl

server_logged_off : (v : Vars) (n : Numbers) (c : Clock) (a : ℕ) (h g : Bool) → Kept v → Turns Logoff (asks_server v n c a h g)
server_logged_off v n c a h g k = round 33 (left (set Logoff (asks_server v n c a h g))) n k.some (shut (enabled c) (when c)) false false refl

server_received : (v : Vars) (n : Numbers) (c : Clock) (a : ℕ) (h g : Bool) → Kept v → (eap : List ℕ) → Turns (Packet eap) (asks_server v n c a h g)
server_received v n (shut on w) a h g k eap = (refl, refl, as_server n (shut on w) a true g k refl)
server_received v n (still w) a h g k eap = (refl, refl, as_server n (still w) a true g k refl)
server_received v n (ticks w) a h g k eap = (refl, refl, as_server n (ticks w) a true g k refl)

server_challenged : (v : Vars) (n : Numbers) (c : Clock) (a : ℕ) (h g : Bool) → Kept v → (eap : List ℕ) (wait : ℕ) → Turns (Challenge eap wait) (asks_server v n c a h g)
server_challenged v n (shut on w) a h g k eap zero = (refl, refl, as_request (record n { method = zero }) (shut on w) 9 (record { some = k.some; tried = k.tried; sent = refl }) refl)
server_challenged v n (shut on w) a h g k eap (suc m) = (refl, refl, as_request (record n { method = suc m }) (shut on w) m (record { some = k.some; tried = k.tried; sent = refl }) refl)
server_challenged v n (still w) a h g k eap zero = (refl, refl, as_request (record n { method = zero }) (still w) 9 (record { some = k.some; tried = k.tried; sent = refl }) refl)
server_challenged v n (still w) a h g k eap (suc m) = (refl, refl, as_request (record n { method = suc m }) (still w) m (record { some = k.some; tried = k.tried; sent = refl }) refl)
server_challenged v n (ticks w) a h g k eap zero = (refl, refl, as_request (record n { method = zero }) (ticks w) 9 (record { some = k.some; tried = k.tried; sent = refl }) refl)
server_challenged v n (ticks w) a h g k eap (suc m) = (refl, refl, as_request (record n { method = suc m }) (ticks w) m (record { some = k.some; tried = k.tried; sent = refl }) refl)

-- the server asks on without a packet, and none has come since
noted_calm : (v : Vars) (u s p m : ℕ) (c : Clock) (a : ℕ) (g : Bool) → Kept v → Turns Notice (asks_server v (numbers u s p m) c a false g)
noted_calm v u s p zero (shut on w) a g k = (refl, refl, as_ignore (numbers u s p zero) (shut on w) 9 k refl)
noted_calm v u s p zero (still w) a g k = (refl, refl, as_ignore (numbers u s p zero) (still w) 9 k refl)
noted_calm v u s p zero (ticks w) a g k = (refl, refl, as_ignore (numbers u s p zero) (ticks w) 9 k refl)
noted_calm v u s p (suc m) (shut on w) a g k = (refl, refl, as_ignore (numbers u s p (suc m)) (shut on w) m k refl)
noted_calm v u s p (suc m) (still w) a g k = (refl, refl, as_ignore (numbers u s p (suc m)) (still w) m k refl)
noted_calm v u s p (suc m) (ticks w) a g k = (refl, refl, as_ignore (numbers u s p (suc m)) (ticks w) m k refl)

-- one has come, and fits
noted_fits : (v : Vars) (u s p m : ℕ) (c : Clock) (a : ℕ) (g : Bool) → Kept v → response_fits v.rx_eap.items v.current_id v.local ≡ true →
    Turns Notice (asks_server v (numbers u s p m) c a true g)
noted_fits v u s p zero (shut on w) a g k e = rw (e, Goes, e) (refl, refl, as_server (numbers u s p zero) (shut on w) s false g k refl)
noted_fits v u s p zero (still w) a g k e = rw (e, Goes, e) (refl, refl, as_server (numbers u s p zero) (still w) s false g k refl)
noted_fits v u s p zero (ticks w) a g k e = rw (e, Goes, e) (refl, refl, as_server (numbers u s p zero) (ticks w) s false g k refl)
noted_fits v u s p (suc m) (shut on w) a g k e = rw (e, Goes, e) (refl, refl, as_server (numbers u s p (suc m)) (shut on w) s false g k refl)
noted_fits v u s p (suc m) (still w) a g k e = rw (e, Goes, e) (refl, refl, as_server (numbers u s p (suc m)) (still w) s false g k refl)
noted_fits v u s p (suc m) (ticks w) a g k e = rw (e, Goes, e) (refl, refl, as_server (numbers u s p (suc m)) (ticks w) s false g k refl)

-- or does not
noted_misfits : (v : Vars) (u s p m : ℕ) (c : Clock) (a : ℕ) (g : Bool) → Kept v → response_fits v.rx_eap.items v.current_id v.local ≡ false →
    Turns Notice (asks_server v (numbers u s p m) c a true g)
noted_misfits v u s p zero (shut on w) a g k e = rw (e, Goes, e) (refl, refl, as_ignore (numbers u s p zero) (shut on w) 9 k refl)
noted_misfits v u s p zero (still w) a g k e = rw (e, Goes, e) (refl, refl, as_ignore (numbers u s p zero) (still w) 9 k refl)
noted_misfits v u s p zero (ticks w) a g k e = rw (e, Goes, e) (refl, refl, as_ignore (numbers u s p zero) (ticks w) 9 k refl)
noted_misfits v u s p (suc m) (shut on w) a g k e = rw (e, Goes, e) (refl, refl, as_ignore (numbers u s p (suc m)) (shut on w) m k refl)
noted_misfits v u s p (suc m) (still w) a g k e = rw (e, Goes, e) (refl, refl, as_ignore (numbers u s p (suc m)) (still w) m k refl)
noted_misfits v u s p (suc m) (ticks w) a g k e = rw (e, Goes, e) (refl, refl, as_ignore (numbers u s p (suc m)) (ticks w) m k refl)

server_noted : (v : Vars) (u s p m : ℕ) (c : Clock) (a : ℕ) (h g : Bool) → Kept v → (fits : Bool) → response_fits v.rx_eap.items v.current_id v.local ≡ fits →
    Turns Notice (asks_server v (numbers u s p m) c a h g)
server_noted v u s p m c a false g k fits e = noted_calm v u s p m c a g k
server_noted v u s p m c a true g k true e = noted_fits v u s p m c a g k e
server_noted v u s p m c a true g k false e = noted_misfits v u s p m c a g k e

-- a host that is to be authenticated again is let in, and asked anew
abbrev welcomed : Vars → Vars
welcomed v = Back.idle (Pae.restart (Pae.authenticated (Back.success (Eap.success2 v))))

-- what was sent before
spoken : (fuel : ℕ) (v : Vars) (n : Numbers) (c : Clock) (a : ℕ) (h : Bool) (eap : List ℕ) (on : Bool) (p : ℕ) →
    let x = asks_server v n c a h true in let y = welcomed (set (Accept eap on (suc p)) x) in
    Leads (ten fuel) y (anew y) → Goes (ten fuel) y (λ w sent. Lands (outcome (Accept eap on (suc p)) x) w (eap ∷ sent))
spoken fuel v n c a h eap on p g =
    let x = asks_server v n c a h true in
    let y = welcomed (set (Accept eap on (suc p)) x) in
    goes_on (ten fuel) y (Lands (anew y)) (λ w sent. Lands (outcome (Accept eap on (suc p)) x) w (eap ∷ sent)) (λ w sent q. (q.0, ap (λ (xs : List (List ℕ)). eap ∷ xs) q.1, q.2)) g

server_accepted : (v : Vars) (u s was m : ℕ) (c : Clock) (a : ℕ) (h g : Bool) → Kept v → (eap : List ℕ) (on : Bool) (p : ℕ) → Turns (Accept eap on (suc p)) (asks_server v (numbers u s was m) c a h g)
server_accepted v u s was m (shut on w) a h false k eap true p = (refl, refl, as_authenticated (numbers u s p m) true p (record { some = k.some; tried = leb-suc-zero _; sent = k.sent }) refl)
server_accepted v u s was m (shut on w) a h true k eap true p =
    spoken 33 v (numbers u s was m) (shut on w) a h eap true p (round 33 (welcomed (set (Accept eap true (suc p)) (asks_server v (numbers u s was m) (shut on w) a h true))) (numbers u s p m) k.some (ticks p) false false refl)
server_accepted v u s was m (shut on w) a h false k eap false p = (refl, refl, as_authenticated (numbers u s p m) false (suc p) (record { some = k.some; tried = leb-suc-zero _; sent = k.sent }) refl)
server_accepted v u s was m (shut on w) a h true k eap false p =
    spoken 33 v (numbers u s was m) (shut on w) a h eap false p (round 33 (welcomed (set (Accept eap false (suc p)) (asks_server v (numbers u s was m) (shut on w) a h true))) (numbers u s p m) k.some (still (suc p)) false false refl)
server_accepted v u s was m (still w) a h false k eap true p = (refl, refl, as_authenticated (numbers u s p m) true p (record { some = k.some; tried = leb-suc-zero _; sent = k.sent }) refl)
server_accepted v u s was m (still w) a h true k eap true p =
    spoken 33 v (numbers u s was m) (still w) a h eap true p (round 33 (welcomed (set (Accept eap true (suc p)) (asks_server v (numbers u s was m) (still w) a h true))) (numbers u s p m) k.some (ticks p) false false refl)
server_accepted v u s was m (still w) a h false k eap false p = (refl, refl, as_authenticated (numbers u s p m) false (suc p) (record { some = k.some; tried = leb-suc-zero _; sent = k.sent }) refl)
server_accepted v u s was m (still w) a h true k eap false p =
    spoken 33 v (numbers u s was m) (still w) a h eap false p (round 33 (welcomed (set (Accept eap false (suc p)) (asks_server v (numbers u s was m) (still w) a h true))) (numbers u s p m) k.some (still (suc p)) false false refl)
server_accepted v u s was m (ticks w) a h false k eap true p = (refl, refl, as_authenticated (numbers u s p m) true p (record { some = k.some; tried = leb-suc-zero _; sent = k.sent }) refl)
server_accepted v u s was m (ticks w) a h true k eap true p =
    spoken 33 v (numbers u s was m) (ticks w) a h eap true p (round 33 (welcomed (set (Accept eap true (suc p)) (asks_server v (numbers u s was m) (ticks w) a h true))) (numbers u s p m) k.some (ticks p) false false refl)
server_accepted v u s was m (ticks w) a h false k eap false p = (refl, refl, as_authenticated (numbers u s p m) false (suc p) (record { some = k.some; tried = leb-suc-zero _; sent = k.sent }) refl)
server_accepted v u s was m (ticks w) a h true k eap false p =
    spoken 33 v (numbers u s was m) (ticks w) a h eap false p (round 33 (welcomed (set (Accept eap false (suc p)) (asks_server v (numbers u s was m) (ticks w) a h true))) (numbers u s p m) k.some (still (suc p)) false false refl)

server_refused : (v : Vars) (n : Numbers) (c : Clock) (a : ℕ) (h g : Bool) → Kept v → (eap : List ℕ) → Turns (Reject eap) (asks_server v n c a h g)
server_refused v n (shut on w) a h g k eap = (refl, refl, as_held n (enabled (shut on w)) (when (shut on w)) n.quiet k refl)
server_refused v n (still w) a h g k eap = (refl, refl, as_held n (enabled (still w)) (when (still w)) n.quiet k refl)
server_refused v n (ticks w) a h g k eap = (refl, refl, as_held n (enabled (ticks w)) (when (ticks w)) n.quiet k refl)

server_second : (v : Vars) (u s p m : ℕ) (c : Clock) (o : ℕ) (h g : Bool) → Kept v → (q a w r : ℕ) (late : Bool) →
    let x = after q a w r late (asks_server v (numbers u s p m) c o h g) in Leads 48 x (passed Server x)
server_second v u s p m (shut on was) o h g k q zero w r late = round 33 (aborted (Back.timeout (after q zero w r late (asks_server v (numbers u s p m) (shut on was) o h g)))) (numbers u s p m) k.some (shut on w) false false refl
server_second v u s p m (shut on was) o h g k q (suc a) w r true = (refl, refl, as_gave_up (numbers u s p m) (shut on w) a k refl)
server_second v u s p m (shut on was) o h g k q (suc a) w r false = (refl, refl, as_server (numbers u s p m) (shut on w) a h g k refl)
server_second v u s p m (still was) o h g k q zero w r late = round 33 (aborted (Back.timeout (after q zero w r late (asks_server v (numbers u s p m) (still was) o h g)))) (numbers u s p m) k.some (still w) false false refl
server_second v u s p m (still was) o h g k q (suc a) w r true = (refl, refl, as_gave_up (numbers u s p m) (still w) a k refl)
server_second v u s p m (still was) o h g k q (suc a) w r false = (refl, refl, as_server (numbers u s p m) (still w) a h g k refl)
server_second v u s p m (ticks was) o h g k q zero (suc w) r late = round 33 (aborted (Back.timeout (after q zero (suc w) r late (asks_server v (numbers u s p m) (ticks was) o h g)))) (numbers u s p m) k.some (ticks w) false false refl
server_second v u s p m (ticks was) o h g k q (suc a) (suc w) r true = (refl, refl, as_gave_up (numbers u s p m) (ticks w) a k refl)
server_second v u s p m (ticks was) o h g k q (suc a) (suc w) r false = (refl, refl, as_server (numbers u s p m) (ticks w) a h g k refl)
server_second v u s p m (ticks was) o h g k q zero zero r late = round 31 (wound (aborted (Back.timeout (after q zero zero r late (asks_server v (numbers u s p m) (ticks was) o h g))))) (numbers u s p m) k.some (ticks p) false false refl
server_second v u s p m (ticks was) o h g k q (suc a) zero r true = (refl, refl, as_gave_up (numbers u s p m) (ticks p) a k refl)
server_second v u s p m (ticks was) o h g k q (suc a) zero r false = (refl, refl, as_server (numbers u s p m) (ticks p) a h true k refl)

pub server_turns : (e : Event) (v : Vars) (n : Numbers) (c : Clock) (a : ℕ) (h g : Bool) → Kept v → IsProper e (asks_server v n c a h g) → Turns e (asks_server v n c a h g)
server_turns Start v n c a h g k i = server_started v n c a h g k
server_turns Logoff v n c a h g k i = server_logged_off v n c a h g k
server_turns (Greeting source) v n c a h g k i = absurd (not_auto i)
server_turns (Packet eap) v n c a h g k i = server_received v n c a h g k eap
server_turns (Challenge eap wait) v n c a h g k i = server_challenged v n c a h g k eap wait
server_turns Notice v n c a h g k i = server_noted v n.quiet n.server n.period n.method c a h g k (response_fits v.rx_eap.items v.current_id v.local) refl
server_turns (Accept eap on (suc p)) v n c a h g k i = server_accepted v n.quiet n.server n.period n.method c a h g k eap on p
server_turns (Accept eap on zero) v n c a h g k i = absurd (none i.1)
server_turns (Reject eap) v n c a h g k i = server_refused v n c a h g k eap
server_turns (Second late) v n c a h g k i = server_second v n.quiet n.server n.period n.method c a h g k _ _ _ _ _
server_turns (Change on (suc p)) v n c a h g k i = stays (set (Change on (suc p)) (asks_server v n c a h g)) (server_changed v n c a h g k on p)
server_turns (Change on zero) v n c a h g k i = absurd (none i)

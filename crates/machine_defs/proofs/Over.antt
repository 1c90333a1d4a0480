-- When the server gave up or decided.
use Rattle.std.proofs.Common.{ℕ, suc, zero, Bool, true, false, List, refl}
use Rattle.machine_vars.specs.declared.vars.Vars.{Vars}
use Rattle.machine_defs.specs.PaeTable as Pae
use Rattle.machine_defs.specs.BackendTable as Back
use Rattle.machine_defs.specs.ReauthTable as Re
use Rattle.machine_defs.specs.Live.{set, Event, IsProper, Start, Logoff, Greeting, Packet, Challenge, Notice, Accept, Reject, Second, Change}
use Rattle.machine_defs.specs.Outcome.{aborted, left, silent, GaveUp, Authenticated, Held, passed}
use Rattle.machine_defs.proofs.Forms.{Numbers, Clock, shut, still, ticks, enabled, when, Kept, numbers, gave_up, authenticated, has_left, held, as_gave_up, as_authenticated, as_held}
use Rattle.machine_defs.proofs.Goes.{Leads, Turns, stays}
use Rattle.machine_defs.proofs.Round.{round}
use Rattle.machine_defs.proofs.Seconds.{after, wound, none, not_auto}

-- ---- RESPONSE with TIMEOUT_FAILURE2

pub gave_up_rests : (v : Vars) (n : Numbers) (c : Clock) (a : ℕ) → Kept v → let x = gave_up v n c a in Leads 1 x (silent x)
gave_up_rests v n (shut on w) a k = (refl, refl, as_gave_up n (shut on w) a k refl)
gave_up_rests v n (still w) a k = (refl, refl, as_gave_up n (still w) a k refl)
gave_up_rests v n (ticks w) a k = (refl, refl, as_gave_up n (ticks w) a k refl)

pub gave_up_changed : (v : Vars) (n : Numbers) (c : Clock) (a : ℕ) → Kept v → (on : Bool) (p : ℕ) → let x = set (Change on (suc p)) (gave_up v n c a) in Leads 1 x (silent x)
gave_up_changed v n (shut was w) a k on p = (refl, refl, as_gave_up (record n { period = p }) (shut on (suc p)) a k refl)
gave_up_changed v n (still w) a k false p = (refl, refl, as_gave_up (record n { period = p }) (still (suc p)) a k refl)
gave_up_changed v n (still w) a k true p = (refl, refl, as_gave_up (record n { period = p }) (ticks p) a k refl)
gave_up_changed v n (ticks w) a k false p = (refl, refl, as_gave_up (record n { period = p }) (still (suc p)) a k refl)
gave_up_changed v n (ticks w) a k true p = (refl, refl, as_gave_up (record n { period = p }) (ticks p) a k refl)

gave_up_started : (v : Vars) (n : Numbers) (c : Clock) (a : ℕ) → Kept v → Turns Start (gave_up v n c a)
gave_up_started v n c a k = round 34 (aborted (set Start (gave_up v n c a))) n k.some c true false refl

gave_up_logged_off : (v : Vars) (n : Numbers) (c : Clock) (a : ℕ) → Kept v → Turns Logoff (gave_up v n c a)
gave_up_logged_off v n c a k = round 33 (left (set Logoff (gave_up v n c a))) n k.some (shut (enabled c) (when c)) false false refl

gave_up_challenged : (v : Vars) (n : Numbers) (c : Clock) (a : ℕ) → Kept v → (eap : List ℕ) (wait : ℕ) → Turns (Challenge eap wait) (gave_up v n c a)
gave_up_challenged v n (shut on w) a k eap wait = (refl, refl, as_gave_up (record n { method = wait }) (shut on w) a k refl)
gave_up_challenged v n (still w) a k eap wait = (refl, refl, as_gave_up (record n { method = wait }) (still w) a k refl)
gave_up_challenged v n (ticks w) a k eap wait = (refl, refl, as_gave_up (record n { method = wait }) (ticks w) a k refl)

gave_up_noted : (v : Vars) (n : Numbers) (c : Clock) (a : ℕ) → Kept v → Turns Notice (gave_up v n c a)
gave_up_noted v n (shut on w) a k = (refl, refl, as_gave_up n (shut on w) a k refl)
gave_up_noted v n (still w) a k = (refl, refl, as_gave_up n (still w) a k refl)
gave_up_noted v n (ticks w) a k = (refl, refl, as_gave_up n (ticks w) a k refl)

gave_up_refused : (v : Vars) (n : Numbers) (c : Clock) (a : ℕ) → Kept v → (eap : List ℕ) → Turns (Reject eap) (gave_up v n c a)
gave_up_refused v n (shut on w) a k eap = (refl, refl, as_gave_up n (shut on w) a k refl)
gave_up_refused v n (still w) a k eap = (refl, refl, as_gave_up n (still w) a k refl)
gave_up_refused v n (ticks w) a k eap = (refl, refl, as_gave_up n (ticks w) a k refl)

gave_up_received : (v : Vars) (n : Numbers) (c : Clock) (a : ℕ) → Kept v → (eap : List ℕ) → Turns (Packet eap) (gave_up v n c a)
gave_up_received v n (shut on w) a k eap = (refl, refl, as_gave_up n (shut on w) a k refl)
gave_up_received v n (still w) a k eap = (refl, refl, as_gave_up n (still w) a k refl)
gave_up_received v n (ticks w) a k eap = (refl, refl, as_gave_up n (ticks w) a k refl)

gave_up_accepted : (v : Vars) (n : Numbers) (c : Clock) (a : ℕ) → Kept v → (eap : List ℕ) (on : Bool) (p : ℕ) → Turns (Accept eap on (suc p)) (gave_up v n c a)
gave_up_accepted v n (shut was w) a k eap on p = (refl, refl, as_gave_up (record n { period = p }) (shut on (suc p)) a k refl)
gave_up_accepted v n (still w) a k eap false p = (refl, refl, as_gave_up (record n { period = p }) (still (suc p)) a k refl)
gave_up_accepted v n (still w) a k eap true p = (refl, refl, as_gave_up (record n { period = p }) (ticks p) a k refl)
gave_up_accepted v n (ticks w) a k eap false p = (refl, refl, as_gave_up (record n { period = p }) (still (suc p)) a k refl)
gave_up_accepted v n (ticks w) a k eap true p = (refl, refl, as_gave_up (record n { period = p }) (ticks p) a k refl)

gave_up_second : (v : Vars) (u s p m : ℕ) (c : Clock) (o : ℕ) → Kept v → (q a w r : ℕ) (late : Bool) →
    let x = after q a w r late (gave_up v (numbers u s p m) c o) in Leads 48 x (passed GaveUp x)
gave_up_second v u s p m (shut on was) o k q zero w r late = round 33 (aborted (Back.timeout (after q zero w r late (gave_up v (numbers u s p m) (shut on was) o)))) (numbers u s p m) k.some (shut on w) false false refl
gave_up_second v u s p m (shut on was) o k q (suc a) w r late = (refl, refl, as_gave_up (numbers u s p m) (shut on w) a k refl)
gave_up_second v u s p m (still was) o k q zero w r late = round 33 (aborted (Back.timeout (after q zero w r late (gave_up v (numbers u s p m) (still was) o)))) (numbers u s p m) k.some (still w) false false refl
gave_up_second v u s p m (still was) o k q (suc a) w r late = (refl, refl, as_gave_up (numbers u s p m) (still w) a k refl)
gave_up_second v u s p m (ticks was) o k q zero (suc w) r late = round 33 (aborted (Back.timeout (after q zero (suc w) r late (gave_up v (numbers u s p m) (ticks was) o)))) (numbers u s p m) k.some (ticks w) false false refl
gave_up_second v u s p m (ticks was) o k q (suc a) (suc w) r late = (refl, refl, as_gave_up (numbers u s p m) (ticks w) a k refl)
gave_up_second v u s p m (ticks was) o k q zero zero r late = round 31 (wound (aborted (Back.timeout (after q zero zero r late (gave_up v (numbers u s p m) (ticks was) o))))) (numbers u s p m) k.some (ticks p) false false refl
gave_up_second v u s p m (ticks was) o k q (suc a) zero r late = (refl, refl, as_gave_up (numbers u s p m) (ticks p) a k refl)

pub gave_up_turns : (e : Event) (v : Vars) (n : Numbers) (c : Clock) (a : ℕ) → Kept v → IsProper e (gave_up v n c a) → Turns e (gave_up v n c a)
gave_up_turns Start v n c a k i = gave_up_started v n c a k
gave_up_turns Logoff v n c a k i = gave_up_logged_off v n c a k
gave_up_turns (Greeting source) v n c a k i = absurd (not_auto i)
gave_up_turns (Packet eap) v n c a k i = gave_up_received v n c a k eap
gave_up_turns (Challenge eap wait) v n c a k i = gave_up_challenged v n c a k eap wait
gave_up_turns Notice v n c a k i = gave_up_noted v n c a k
gave_up_turns (Accept eap on (suc p)) v n c a k i = gave_up_accepted v n c a k eap on p
gave_up_turns (Accept eap on zero) v n c a k i = absurd (none i.1)
gave_up_turns (Reject eap) v n c a k i = gave_up_refused v n c a k eap
gave_up_turns (Second late) v n c a k i = gave_up_second v n.quiet n.server n.period n.method c a k _ _ _ _ _
gave_up_turns (Change on (suc p)) v n c a k i = stays (set (Change on (suc p)) (gave_up v n c a)) (gave_up_changed v n c a k on p)
gave_up_turns (Change on zero) v n c a k i = absurd (none i)

-- ---- AUTHENTICATED

pub authenticated_rests : (v : Vars) (n : Numbers) (on : Bool) (w : ℕ) → Kept v → let x = authenticated v n on w in Leads 1 x (silent x)
authenticated_rests v n true w k = (refl, refl, as_authenticated n true w k refl)
authenticated_rests v n false w k = (refl, refl, as_authenticated n false w k refl)

pub authenticated_changed : (v : Vars) (n : Numbers) (was : Bool) (w : ℕ) → Kept v → (on : Bool) (p : ℕ) → let x = set (Change on (suc p)) (authenticated v n was w) in Leads 1 x (silent x)
authenticated_changed v n was w k true p = (refl, refl, as_authenticated (record n { period = p }) true p k refl)
authenticated_changed v n was w k false p = (refl, refl, as_authenticated (record n { period = p }) false (suc p) k refl)

authenticated_started : (v : Vars) (n : Numbers) (on : Bool) (w : ℕ) → Kept v → Turns Start (authenticated v n on w)
authenticated_started v n true w k = round 37 (Pae.restart (set Start (authenticated v n true w))) n k.some (ticks w) true false refl
authenticated_started v n false w k = round 37 (Pae.restart (set Start (authenticated v n false w))) n k.some (still w) true false refl

authenticated_logged_off : (v : Vars) (n : Numbers) (on : Bool) (w : ℕ) → Kept v → Turns Logoff (authenticated v n on w)
authenticated_logged_off v n on w k = round 36 (Pae.restart (Pae.disconnected (set Logoff (authenticated v n on w)))) n k.some (shut on (has_left on w)) false false refl

authenticated_challenged : (v : Vars) (n : Numbers) (on : Bool) (w : ℕ) → Kept v → (eap : List ℕ) (wait : ℕ) → Turns (Challenge eap wait) (authenticated v n on w)
authenticated_challenged v n true w k eap wait = (refl, refl, as_authenticated (record n { method = wait }) true w k refl)
authenticated_challenged v n false w k eap wait = (refl, refl, as_authenticated (record n { method = wait }) false w k refl)

authenticated_noted : (v : Vars) (n : Numbers) (on : Bool) (w : ℕ) → Kept v → Turns Notice (authenticated v n on w)
authenticated_noted v n true w k = (refl, refl, as_authenticated n true w k refl)
authenticated_noted v n false w k = (refl, refl, as_authenticated n false w k refl)

authenticated_refused : (v : Vars) (n : Numbers) (on : Bool) (w : ℕ) → Kept v → (eap : List ℕ) → Turns (Reject eap) (authenticated v n on w)
authenticated_refused v n true w k eap = (refl, refl, as_authenticated n true w k refl)
authenticated_refused v n false w k eap = (refl, refl, as_authenticated n false w k refl)

authenticated_received : (v : Vars) (n : Numbers) (on : Bool) (w : ℕ) → Kept v → (eap : List ℕ) → Turns (Packet eap) (authenticated v n on w)
authenticated_received v n true w k eap = (refl, refl, as_authenticated n true w k refl)
authenticated_received v n false w k eap = (refl, refl, as_authenticated n false w k refl)

authenticated_accepted : (v : Vars) (n : Numbers) (was : Bool) (w : ℕ) → Kept v → (eap : List ℕ) (on : Bool) (p : ℕ) → Turns (Accept eap on (suc p)) (authenticated v n was w)
authenticated_accepted v n was w k eap true p = (refl, refl, as_authenticated (record n { period = p }) true p k refl)
authenticated_accepted v n was w k eap false p = (refl, refl, as_authenticated (record n { period = p }) false (suc p) k refl)

authenticated_second : (v : Vars) (n : Numbers) (on : Bool) (o : ℕ) → Kept v → (q a w r : ℕ) (late : Bool) →
    let x = after q a w r late (authenticated v n on o) in Leads 48 x (passed Authenticated x)
authenticated_second v n false o k q a w r late = (refl, refl, as_authenticated n false w k refl)
authenticated_second v n true o k q a (suc w) r late = (refl, refl, as_authenticated n true w k refl)
authenticated_second v n true o k q a zero r late =
    round 35 (Re.initialize (Pae.restart (Re.reauthenticate (after q a zero r late (authenticated v n true o))))) n k.some (ticks n.period) false false refl

pub authenticated_turns : (e : Event) (v : Vars) (n : Numbers) (on : Bool) (w : ℕ) → Kept v → IsProper e (authenticated v n on w) → Turns e (authenticated v n on w)
authenticated_turns Start v n on w k i = authenticated_started v n on w k
authenticated_turns Logoff v n on w k i = authenticated_logged_off v n on w k
authenticated_turns (Greeting source) v n on w k i = absurd (not_auto i)
authenticated_turns (Packet eap) v n on w k i = authenticated_received v n on w k eap
authenticated_turns (Challenge eap wait) v n on w k i = authenticated_challenged v n on w k eap wait
authenticated_turns Notice v n on w k i = authenticated_noted v n on w k
authenticated_turns (Accept eap again (suc p)) v n on w k i = authenticated_accepted v n on w k eap again p
authenticated_turns (Accept eap again zero) v n on w k i = absurd (none i.1)
authenticated_turns (Reject eap) v n on w k i = authenticated_refused v n on w k eap
authenticated_turns (Second late) v n on w k i = authenticated_second v n on w k _ _ _ _ _
authenticated_turns (Change again (suc p)) v n on w k i = stays (set (Change again (suc p)) (authenticated v n on w)) (authenticated_changed v n on w k again p)
authenticated_turns (Change again zero) v n on w k i = absurd (none i)

-- ---- HELD

pub held_rests : (v : Vars) (n : Numbers) (on : Bool) (w q : ℕ) → Kept v → let x = held v n on w q in Leads 1 x (silent x)
held_rests v n on w q k = (refl, refl, as_held n on w q k refl)

pub held_changed : (v : Vars) (n : Numbers) (was : Bool) (w q : ℕ) → Kept v → (on : Bool) (p : ℕ) → let x = set (Change on (suc p)) (held v n was w q) in Leads 1 x (silent x)
held_changed v n was w q k on p = (refl, refl, as_held (record n { period = p }) on (suc p) q k refl)

held_second : (v : Vars) (n : Numbers) (on : Bool) (o was : ℕ) → Kept v → (q a w r : ℕ) (late : Bool) →
    let x = after q a w r late (held v n on o was) in Leads 48 x (passed Held x)
held_second v n on o was k (suc q) a w r late = (refl, refl, as_held n on w q k refl)
held_second v n on o was k zero a w r late = round 37 (Pae.restart (after zero a w r late (held v n on o was))) n k.some (shut on w) v.eapol_start v.eapol_logoff refl

pub held_turns : (e : Event) (v : Vars) (n : Numbers) (on : Bool) (w q : ℕ) → Kept v → IsProper e (held v n on w q) → Turns e (held v n on w q)
held_turns Start v n on w q k i = (refl, refl, as_held n on w q k refl)
held_turns Logoff v n on w q k i = (refl, refl, as_held n on w q k refl)
held_turns (Greeting source) v n on w q k i = absurd (not_auto i)
held_turns (Packet eap) v n on w q k i = (refl, refl, as_held n on w q k refl)
held_turns (Challenge eap wait) v n on w q k i = (refl, refl, as_held (record n { method = wait }) on w q k refl)
held_turns Notice v n on w q k i = (refl, refl, as_held n on w q k refl)
held_turns (Accept eap again (suc p)) v n on w q k i = (refl, refl, as_held (record n { period = p }) again (suc p) q k refl)
held_turns (Accept eap again zero) v n on w q k i = absurd (none i.1)
held_turns (Reject eap) v n on w q k i = (refl, refl, as_held n on w q k refl)
held_turns (Second late) v n on w q k i = held_second v n on w q k _ _ _ _ _
held_turns (Change again (suc p)) v n on w q k i = stays (set (Change again (suc p)) (held v n on w q)) (held_changed v n on w q k again p)
held_turns (Change again zero) v n on w q k i = absurd (none i)

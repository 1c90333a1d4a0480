-- The identity of a host has at most 253 octets.
use Rattle.std.proofs.Common.{◌≡◌, ℕ, ◌≤◌, Bool, true, false, not, refl, List, length, drop, arith, length-drop}
use Rattle.std.specs.Prelude.{if◌then◌else◌, ◌&&◌, ◌||◌, ◌==◌, nat_lt, nat_le, slice_index}
use Rattle.std.proofs.lemmas.Bool.Decides.{nat_tests}
use Rattle.arrayvec.specs.ArrayVec.{ArrayVec}
use Rattle.machine_vars.specs.declared.vars.Vars.{Vars}
use Rattle.machine_vars.specs.declared.states.EapState.TheVariants.{Received2}
use Rattle.machine_vars.specs.declared.states.Row.{Row}
use Rattle.machine_defs.specs.Table.{Line}
use Rattle.machine_defs.specs.PaeTable.{pae_table}
use Rattle.machine_defs.specs.BackendTable.{backend_table}
use Rattle.machine_defs.specs.ReauthTable.{reauth_table}
use Rattle.machine_defs.specs.EapTable.{eap_table, at, fits, is_identity}
use Rattle.machine_defs.specs.Settling.{all_rows, Settles, rests, takes}
use Rattle.machine_defs.specs.Live.{Event, set, Start, Logoff, Greeting, Packet, Challenge, Notice, Accept, Reject, Second, Change, Live, born, rested, turned, taken, addressed}
use Rattle.machine_defs.proofs.Growth.{Each, each_of_all, each_first}
use Rattle.machine_defs.proofs.Keeping.{next_holds}

abbrev pub IsShort : Vars → Type 0
IsShort v = length v.identity.items ≤ 253

abbrev Stays : Line → Type 0
Stays l = (v : Vars) → l.condition v ≡ true → IsShort v → IsShort (l.after v)

last : (a b c d e : Bool) → a && b && c && d && e ≡ true → e ≡ true
last true true true true true h = refl
last false b c d e h = cc
last true false c d e h = cc
last true true false d e h = cc
last true true true false e h = cc
last true true true true false h = cc

second : (a b : Bool) → a && b ≡ true → b ≡ true
second true b h = h
second false b h = cc

either : (a b : Bool) → not a || b ≡ true → a ≡ true → b ≡ true
either true b e h = e
either false b e h = cc

up_to : (a b : ℕ) → nat_le a b ≡ true → a ≤ b
up_to a b h = grind (arith, nat_tests)

-- the identity that a response that fits carries, or the one that was given before
short_by : (x : List ℕ) (y : ArrayVec ℕ) (i : Bool) → is_identity x ≡ i →
    not (is_identity x) || (nat_lt 5 (length x) && nat_le (length x) 258) ≡ true →
    length y.items ≤ 253 → length (if i then record { items = drop 5 x } else y).items ≤ 253
short_by x y true e g known =
    let m : length x ≤ 258 = up_to (length x) 258 (second (nat_lt 5 (length x)) (nat_le (length x) 258) (either (is_identity x) _ g e)) in
    omega (arith, length-drop 5 x, m)
short_by x y false e g known = known

received : (v : Vars) → not v.eap_restart && (at Received2 v && fits v) ≡ true → IsShort v →
    length (if is_identity v.eap_resp_data.items then record { items = drop 5 v.eap_resp_data.items } else v.identity).items ≤ 253
received v h i =
    let x = v.eap_resp_data.items in
    let f : fits v ≡ true = second (at Received2 v) (fits v) (second (not v.eap_restart) (at Received2 v && fits v) h) in
    short_by x v.identity (is_identity x) refl
    (last (nat_lt 4 (length x)) (slice_index x 0 == 2) (slice_index x 1 == v.current_id) (not v.local || is_identity x) (not (is_identity x) || (nat_lt 5 (length x) && nat_le (length x) 258)) f) i

of_pae : Each Stays pae_table
of_pae = (λ v h i. i, (λ v h i. i, (λ v h i. i, (λ v h i. i, (λ v h i. i, (λ v h i. i, (λ v h i. i, (λ v h i. i, (λ v h i. i, (λ v h i. i, (λ v h i. i, (λ v h i. i, (λ v h i. i, (λ v h i. i, (λ v h i. i, (λ v h i. i, (λ v h i. i, (λ v h i. i, tt))))))))))))))))))

of_backend : Each Stays backend_table
of_backend = (λ v h i. i, (λ v h i. i, (λ v h i. i, (λ v h i. i, (λ v h i. i, (λ v h i. i, (λ v h i. i, (λ v h i. i, (λ v h i. i, (λ v h i. i, (λ v h i. i, (λ v h i. i, (λ v h i. i, (λ v h i. i, tt))))))))))))))

of_reauth : Each Stays reauth_table
of_reauth = (λ v h i. i, (λ v h i. i, (λ v h i. i, tt)))

of_eap : Each Stays eap_table
of_eap = (λ v h i. i, (λ v h i. i, (λ v h i. i, (λ v h i. i, (λ v h i. i, (λ v h i. i, (received, (λ v h i. i, (λ v h i. i, (λ v h i. i, (λ v h i. i, (λ v h i. i, (λ v h i. i, (λ v h i. i, (λ v h i. i, (λ v h i. i, (λ v h i. i, tt)))))))))))))))))

all_stay : Each Stays all_rows
all_stay = each_of_all Stays of_pae of_backend of_reauth of_eap

stays_on : {v w : Vars} {rows : List Row} {sent : List (List ℕ)} → Settles v rows sent w → IsShort v →
    IsShort w
stays_on (rests h) i = i
stays_on (takes {v = v} l h s) i = stays_on s (each_first Stays all_rows v l all_stay h v (next_holds v l h) i)

stays_set : (e : Event) (v : Vars) → IsShort v → IsShort (set e v)
stays_set Start v i = i
stays_set Logoff v i = i
stays_set (Greeting source) v i = i
stays_set (Packet eap) v i = i
stays_set (Challenge eap wait) v i = i
stays_set Notice v i = i
stays_set (Accept eap again period) v i = i
stays_set (Reject eap) v i = i
stays_set (Second late) v i = i
stays_set (Change again period) v i = i

pub live_short : {v : Vars} → Live v → IsShort v
live_short (born port own peer control t r) = omega arith
live_short (rested l s) = stays_on s (live_short l)
live_short (turned e l p s) = stays_on s (stays_set e _ (live_short l))
live_short (taken l) = live_short l
live_short (addressed l c) = live_short l

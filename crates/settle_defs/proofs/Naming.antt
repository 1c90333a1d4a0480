-- A host that the server is asked about gave its identity.
use Rattle.std.proofs.Common.{◌≡◌, ℕ, suc, ◌≤◌, ◌<◌, Bool, true, false, not, refl, sym, subst, ◌∙◌, List, length, drop, arith, length-drop}
use Rattle.std.specs.Prelude.{if◌then◌else◌, ◌&&◌, ◌||◌, ◌==◌, nat_lt, nat_le, slice_index}
use Rattle.std.specs.Cmp.{unsigned_Decides}
use Rattle.std.proofs.lemmas.Bool.Decides.{nat_tests}
use Rattle.arrayvec.specs.ArrayVec.{ArrayVec}
use Rattle.machine_vars.specs.declared.vars.Vars.{Vars}
use Rattle.machine_vars.specs.declared.states.EapState.{EapState}
use Rattle.machine_vars.specs.declared.states.EapState.TheVariants.{Disabled, Start, Idle2, Retransmit2, Received2, Discard2, AaaRequest, AaaIdle, AaaResponse, SendRequest2, TimeoutFailure2, Failure2, Success2}
use Rattle.machine_vars.specs.declared.states.Row.{Row}
use Rattle.machine_defs.specs.Table.{Line}
use Rattle.machine_defs.specs.PaeTable.{pae_table}
use Rattle.machine_defs.specs.BackendTable.{backend_table}
use Rattle.machine_defs.specs.ReauthTable.{reauth_table}
use Rattle.machine_defs.specs.EapTable.{eap_table, state_number, at, fits, is_identity}
use Rattle.machine_defs.specs.Settling.{all_rows, Settles, rests, takes}
use Rattle.machine_defs.specs.Live.{Event, set, Start as Begins, Logoff, Greeting, Packet, Challenge, Notice, Accept, Reject, Second, Change, Live, born, rested, turned, taken, addressed}
use Rattle.machine_defs.proofs.Growth.{Each, each_of_all, each_first}
use Rattle.settle_defs.specs.Named.{needs_name, IsName, IsNamed}
use Rattle.machine_defs.proofs.Keeping.{next_holds}

abbrev Names : Line → Type 0
Names l = (v : Vars) → l.condition v ≡ true → IsNamed v → IsNamed (l.after v)

both : (a b : Bool) → a && b ≡ true → (a ≡ true) × (b ≡ true)
both true true e = (refl, refl)
both true false e = cc
both false b e = cc

number_is : (s t : EapState) → state_number s == state_number t ≡ true → state_number s ≡ state_number t
number_is s t e = (unsigned_Decides (state_number s) (state_number t)).0 e

-- a request of the server's own comes after an identity
after_name : (s : EapState) (local : Bool) (k : ℕ) → state_number s ≡ suc k → not local ≡ true → needs_name s local ≡ true
after_name Disabled local k e h = absurd (omega (arith, e))
after_name Start local k e h = h
after_name Idle2 local k e h = h
after_name Retransmit2 local k e h = h
after_name Received2 local k e h = h
after_name Discard2 local k e h = h
after_name AaaRequest local k e h = refl
after_name AaaIdle local k e h = refl
after_name AaaResponse local k e h = refl
after_name SendRequest2 local k e h = h
after_name TimeoutFailure2 local k e h = h
after_name Failure2 local k e h = h
after_name Success2 local k e h = h

speaks : (s : EapState) (local : Bool) → 6 ≤ state_number s → state_number s ≤ 8 → needs_name s local ≡ true
speaks Disabled local l m = absurd (omega (arith, l))
speaks Start local l m = absurd (omega (arith, l))
speaks Idle2 local l m = absurd (omega (arith, l))
speaks Retransmit2 local l m = absurd (omega (arith, l))
speaks Received2 local l m = absurd (omega (arith, l))
speaks Discard2 local l m = absurd (omega (arith, l))
speaks AaaRequest local l m = refl
speaks AaaIdle local l m = refl
speaks AaaResponse local l m = refl
speaks SendRequest2 local l m = absurd (omega (arith, m))
speaks TimeoutFailure2 local l m = absurd (omega (arith, m))
speaks Failure2 local l m = absurd (omega (arith, m))
speaks Success2 local l m = absurd (omega (arith, m))

-- a row from the state s is enabled
from_state : (s : EapState) (v : Vars) (w : Bool) → not v.eap_restart && (at s v && w) ≡ true → (state_number v.eap ≡ state_number s) × (w ≡ true)
from_state s v w h =
    let a = both (not v.eap_restart) (at s v && w) h in
    let b = both (at s v) w a.1 in
    (number_is v.eap s b.0, b.1)

-- from such a state to another
goes_on : (s : EapState) (k : ℕ) (v : Vars) (w : Bool) → state_number s ≡ suc k → not v.eap_restart && (at s v && w) ≡ true → IsNamed v → not v.local ≡ true → IsName v.identity.items
goes_on s k v w e h i local = i (after_name v.eap v.local k ((from_state s v w h).0 ∙ e) local)

spoke : (s : EapState) (v : Vars) (w : Bool) → 6 ≤ state_number s → state_number s ≤ 8 → not v.eap_restart && (at s v && w) ≡ true → IsNamed v → IsName v.identity.items
spoke s v w l m h i =
    let n = (from_state s v w h).0 in
    i (speaks v.eap v.local (omega (arith, n, l)) (omega (arith, n, m)))

below : (a b : ℕ) → nat_lt a b ≡ true → a < b
below a b h = grind (arith, nat_tests)

up_to : (a b : ℕ) → nat_le a b ≡ true → a ≤ b
up_to a b h = grind (arith, nat_tests)

either : (a b : Bool) → not a || b ≡ true → a ≡ true → b ≡ true
either true b e h = e
either false b e h = cc

-- the identity that a response that fits carries, or the one that was given before
named_by : (asks : Bool) (data_ id : List ℕ) (i : Bool) → is_identity data_ ≡ i → not asks || is_identity data_ ≡ true → not (is_identity data_) || (nat_lt 5 (length data_) && nat_le (length data_) 258) ≡ true →
    (not asks ≡ true → IsName id) → IsName (if i then drop 5 data_ else id)
named_by asks x id true e f g known =
    let sizes = both (nat_lt 5 (length x)) (nat_le (length x) 258) (either (is_identity x) _ g e) in
    let l = below 5 (length x) sizes.0 in
    let m = up_to (length x) 258 sizes.1 in
    (omega (arith, length-drop 5 x, l), omega (arith, length-drop 5 x, m))
named_by true x id false e f g known = let no : false ≡ true = sym e ∙ f in cc
named_by false x id false e f g known = known refl

parts : (a b c d e : Bool) → a && b && c && d && e ≡ true → (d ≡ true) × (e ≡ true)
parts true true true true true h = (refl, refl)
parts false b c d e h = cc
parts true false c d e h = cc
parts true true false d e h = cc
parts true true true false e h = cc
parts true true true true false h = cc

abbrev name_in : Bool → List ℕ → ArrayVec ℕ → ArrayVec ℕ
name_in b x y = if b then record { items = drop 5 x } else y

of_if : (b : Bool) (x : List ℕ) (y : ArrayVec ℕ) → (name_in b x y).items ≡ (if b then drop 5 x else y.items)
of_if true x y = refl
of_if false x y = refl

of_pae : Each Names pae_table
of_pae = (λ v h i. i, (λ v h i. i, (λ v h i. i, (λ v h i. i, (λ v h i. i, (λ v h i. i, (λ v h i. i, (λ v h i. i, (λ v h i. i, (λ v h i. i, (λ v h i. i, (λ v h i. i, (λ v h i. i, (λ v h i. i, (λ v h i. i, (λ v h i. i, (λ v h i. i, (λ v h i. i, tt))))))))))))))))))

of_backend : Each Names backend_table
of_backend = (λ v h i. i, (λ v h i. i, (λ v h i. i, (λ v h i. i, (λ v h i. i, (λ v h i. i, (λ v h i. i, (λ v h i. i, (λ v h i. i, (λ v h i. i, (λ v h i. i, (λ v h i. i, (λ v h i. i, (λ v h i. i, tt))))))))))))))

of_reauth : Each Names reauth_table
of_reauth = (λ v h i. i, (λ v h i. i, (λ v h i. i, tt)))

received : (v : Vars) → not v.eap_restart && (at Received2 v && fits v) ≡ true → IsNamed v → needs_name AaaRequest v.local ≡ true → IsName (name_in (is_identity v.eap_resp_data.items) v.eap_resp_data.items v.identity).items
received v h i e =
    let p = parts (nat_lt 4 (length v.eap_resp_data.items)) (slice_index v.eap_resp_data.items 0 == 2) (slice_index v.eap_resp_data.items 1 == v.current_id) _ _ (from_state Received2 v (fits v) h).1 in
    let P : List ℕ → Type 0 = IsName in
    subst P (sym (of_if (is_identity v.eap_resp_data.items) v.eap_resp_data.items v.identity))
    (named_by v.local v.eap_resp_data.items v.identity.items (is_identity v.eap_resp_data.items) refl p.0 p.1 (goes_on Received2 3 v (fits v) refl h i))

of_eap : Each Names eap_table
of_eap = (λ v h i e. cc, (λ v h i. goes_on Start 0 v _ refl h i, (λ v h i. goes_on Idle2 1 v _ refl h i, (λ v h i. goes_on Idle2 1 v _ refl h i, (λ v h i. goes_on Retransmit2 2 v _ refl h i, (λ v h i. goes_on Retransmit2 2 v _ refl h i, (received, (λ v h i. goes_on Received2 3 v _ refl h i, (λ v h i. goes_on Discard2 4 v _ refl h i, (λ v h i e. spoke AaaRequest v _ (omega arith) (omega arith) h i, (λ v h i. goes_on AaaIdle 6 v _ refl h i, (λ v h i e. spoke AaaIdle v _ (omega arith) (omega arith) h i, (λ v h i. goes_on AaaIdle 6 v _ refl h i, (λ v h i. goes_on AaaIdle 6 v _ refl h i, (λ v h i. goes_on AaaIdle 6 v _ refl h i, (λ v h i e. spoke AaaResponse v _ (omega arith) (omega arith) h i, (λ v h i. goes_on SendRequest2 8 v _ refl h i, tt)))))))))))))))))

all_name : Each Names all_rows
all_name = each_of_all Names of_pae of_backend of_reauth of_eap

pub names_on : {v w : Vars} {rows : List Row} {sent : List (List ℕ)} → Settles v rows sent w → IsNamed v → IsNamed w
names_on (rests h) i = i
names_on (takes {v = v} l h s) i = names_on s (each_first Names all_rows v l all_name h v (next_holds v l h) i)

-- the variables of an event have nothing to do with it
names_set : (e : Event) (v : Vars) → IsNamed v → IsNamed (set e v)
names_set Begins v i = i
names_set Logoff v i = i
names_set (Greeting source) v i = i
names_set (Packet eap) v i = i
names_set (Challenge eap wait) v i = i
names_set Notice v i = i
names_set (Accept eap again period) v i = i
names_set (Reject eap) v i = i
names_set (Second late) v i = i
names_set (Change again period) v i = i

pub live_named : {v : Vars} → Live v → IsNamed v
live_named (born port own peer control t r) = λ h. cc
live_named (rested l s) = names_on s (live_named l)
live_named (turned e l p s) = names_on s (names_set e _ (live_named l))
live_named (taken l) = live_named l
live_named (addressed l c) = live_named l

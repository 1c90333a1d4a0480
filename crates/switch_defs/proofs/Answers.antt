-- What an answer says to the machines is proper.
use Rattle.std.proofs.Common.{◌≡◌, ℕ, ◌≤◌, refl, sym, ap, ◌∙◌, List, length, take, drop, Option, None, Some, Bool, true, false, not, arith, length-take}
use Rattle.std.specs.Prelude.{if◌then◌else◌, ◌==◌, ◌||◌, nat_lt, nat_le, Result, Ok, Err, slice_index}
use Rattle.std.specs.Cmp.{unsigned_Decides}
use Rattle.std.proofs.lemmas.Bool.Decides.{nat_tests}
use Rattle.wire_defs.specs.declared.EapDrop.{EapDrop}
use Rattle.wire_defs.specs.declared.EapDrop.TheVariants.{Short, BadCode as BadEapCode, BadLength}
use Rattle.wire_defs.specs.Number.{pair}
use Rattle.wire_defs.specs.Eap.{Eap, eap_of as eap_packet_of, is_code, is_bad_length, fields_of, canned}
use Rattle.machine_vars.specs.declared.control.Times.{Times}
use Rattle.machine_vars.specs.declared.vars.Vars.{Vars}
use Rattle.machine_defs.specs.Live.{InRange, IsProper}
use Rattle.radius_defs.specs.declared.Timeout.{Timeout}
use Rattle.radius_defs.specs.declared.Timeout.TheVariants.{Unset, End, Reauth}
use Rattle.radius_defs.specs.declared.Tunnel.{Tunnel}
use Rattle.radius_defs.specs.declared.Tunnel.TheVariants.{Absent, Partial, Bad, Vlan}
use Rattle.radius_defs.specs.declared.Grant.{Grant}
use Rattle.radius_defs.specs.declared.Unfit.{Unfit}
use Rattle.radius_defs.specs.Packet.{Packet, eap_of}
use Rattle.radius_defs.specs.Parsed.{packet_of}
use Rattle.radius_defs.specs.Attributes.{first_number, tunnel_of, timeout_of, timeout_from, is_one}
use Rattle.radius_defs.specs.Grant.{grant_from, grant_of}
use Rattle.switch_event.specs.declared.drop.AaaDrop.{AaaDrop}
use Rattle.aaa_defs.specs.Waits.{Pending, Waits, name_of, pending_under}
use Rattle.aaa_defs.specs.Answer.{Taking, has_eap, may_carry, carried_in, eap_carried, first_failed, checks, taken_from, answered_by, answered_in, answered}
use Rattle.switch_defs.specs.Switch.{Session, State, port_of, session_numbered}
use Rattle.switch_defs.specs.Answer.{event_of, kept_of, Answered, Refused, Told, told, told_by, answered_on, native_of}
use Rattle.aaa_defs.specs.Said.{Said, Kept, said, or_else, period_of, challenged, challenge_word, rejected, accepted}
use Rattle.switch_defs.specs.Sound.{In}
use Rattle.switch_defs.proofs.Lists.{in_found}

-- ---- the EAP packet of an answer has an identifier

-- an EAP packet that may be there is one
abbrev pub IsLong : Option (List ℕ) → Type 0
IsLong None = Unit {0}
IsLong (Some eap) = 4 ≤ length eap

up_to : (a b : ℕ) → nat_lt a b ≡ false → b ≤ a
up_to a b h = grind (arith, nat_tests)

neither : (a b : Bool) → a || b ≡ false → (a ≡ false) × (b ≡ false)
neither false false e = (refl, refl)
neither true b e = cc
neither false true e = cc

not_other : (size : ℕ) → not (size == 4) ≡ false → size ≡ 4
not_other size e = by (size == 4) refl e
  where
    by : (b : Bool) → (size == 4) ≡ b → not b ≡ false → size ≡ 4
    by true k f = (unsigned_Decides size 4).0 k
    by false k f = cc

four_by : (small : Bool) (size : ℕ) → (if small then nat_lt size 5 else not (size == 4)) ≡ false → 4 ≤ size
four_by true size e = let l = up_to size 5 e in omega (arith, l)
four_by false size e = let l = not_other size e in omega (arith, l)

whole_by : (small : Bool) (x y : Eap) (w : List ℕ) → x.whole ≡ w → y.whole ≡ w → (if small then x else y).whole ≡ w
whole_by true x y w e f = e
whole_by false x y w e f = f

fields_whole : (w : List ℕ) → (fields_of w).whole ≡ w
fields_whole w = whole_by (nat_le (slice_index w 0) 2) _ _ w refl refl

long_by : (octets : List ℕ) (e : Eap) (a b c : Bool) → is_bad_length (slice_index octets 0) (pair octets 2) (length octets) ≡ c →
    (if a then Err Short else if b then Err BadEapCode else if c then Err BadLength else Ok (fields_of (take (pair octets 2) octets))) ≡ Ok e → 4 ≤ length e.whole
long_by octets e true b c k h = cc
long_by octets e false true c k h = cc
long_by octets e false false true k h = cc
long_by octets e false false false k h =
    let parts = neither (nat_lt (length octets) (pair octets 2)) (if nat_le (slice_index octets 0) 2 then nat_lt (pair octets 2) 5 else not (pair octets 2 == 4)) k in
    let l : pair octets 2 ≤ length octets = up_to (length octets) (pair octets 2) parts.0 in
    let m : 4 ≤ pair octets 2 = four_by (nat_le (slice_index octets 0) 2) (pair octets 2) parts.1 in
    let same : fields_of (take (pair octets 2) octets) ≡ e = cc in
    let whole : e.whole ≡ take (pair octets 2) octets = ap (λ (x : Eap). x.whole) (sym same) ∙ fields_whole (take (pair octets 2) octets) in
    let size : length e.whole ≡ length (take (pair octets 2) octets) = ap (λ (x : List ℕ). length x) whole in
    omega (arith, size, length-take (pair octets 2) octets, l, m)

long_eap : (octets : List ℕ) (e : Eap) → eap_packet_of octets ≡ Ok e → 4 ≤ length e.whole
long_eap octets e h = long_by octets e (nat_lt (length octets) 4) (not (is_code (slice_index octets 0))) (is_bad_length (slice_index octets 0) (pair octets 2) (length octets)) refl h

if_long : (b : Bool) (o : Option (List ℕ)) → IsLong o → IsLong (if b then o else None)
if_long true o l = l
if_long false o l = tt

carried_long : (code : ℕ) (r : Result Eap EapDrop) → ((e : Eap) → r ≡ Ok e → 4 ≤ length e.whole) → IsLong (carried_in code r)
carried_long code (Ok e) f = if_long (may_carry code e.code) (Some e.whole) (f e refl)
carried_long code (Err drop) f = tt

eap_long : (p : Packet) → IsLong (eap_carried p)
eap_long p = if_long (has_eap p) (carried_in p.code (eap_packet_of (eap_of p.attributes))) (carried_long p.code (eap_packet_of (eap_of p.attributes)) (long_eap (eap_of p.attributes)))

abbrev IsTakenLong : Result Taking AaaDrop → Type 0
IsTakenLong (Ok t) = IsLong t.eap
IsTakenLong (Err drop) = Unit {0}

taken_long : (p : Packet) (q : Pending) (o : Option AaaDrop) → IsTakenLong (taken_from p q o)
taken_long p q None = eap_long p
taken_long p q (Some drop) = tt

by_long : (p : Packet) (o : Option Pending) (secret : List ℕ) (require : Bool) → IsTakenLong (answered_by p o secret require)
by_long p None secret require = tt
by_long p (Some q) secret require = taken_long p q (first_failed (checks p q.auth secret require))

in_long : (o : Option Packet) (w : Waits) (socket : ℕ) (secret : List ℕ) (require : Bool) → IsTakenLong (answered_in o w socket secret require)
in_long None w socket secret require = tt
in_long (Some p) w socket secret require = by_long p (pending_under (name_of socket p.identifier) w) secret require

pub answered_long : (w : Waits) (socket : ℕ) (octets secret : List ℕ) (require : Bool) → IsTakenLong (answered w socket octets secret require)
answered_long w socket octets secret require = in_long (packet_of octets) w socket secret require

-- ---- periods

reauth_some : (n : ℕ) (action : Option ℕ) (m : ℕ) → timeout_from (Some n) action ≡ Reauth m → 1 ≤ m
reauth_some n action m e = by (n == 0) refl (is_one action) e
  where
    by : (b : Bool) → (n == 0) ≡ b → (c : Bool) → (if b then Unset else if c then Reauth n else End n) ≡ Reauth m → 1 ≤ m
    by true k c f = cc
    by false k false f = cc
    by false k true f =
        let same : n ≡ m = cc in
        let some : 1 ≤ n = not_zero n k in
        omega (arith, same, some)
      where
        not_zero : (n : ℕ) → (n == 0) ≡ false → 1 ≤ n
        not_zero n k = grind (arith, nat_tests)

abbrev pub IsSome : Timeout → Type 0
IsSome Unset = Unit {0}
IsSome (End n) = Unit {0}
IsSome (Reauth n) = 1 ≤ n

from_some : (n action : Option ℕ) → IsSome (timeout_from n action)
from_some None action = tt
from_some (Some n) action = by (timeout_from (Some n) action) refl
  where
    by : (t : Timeout) → timeout_from (Some n) action ≡ t → IsSome t
    by Unset e = tt
    by (End m) e = tt
    by (Reauth m) e = reauth_some n action m e

pub period_some : (t : Timeout) (times : Times) → IsSome t → InRange times → 1 ≤ period_of t times
period_some Unset times s r = r.period_from
period_some (End n) times s r = r.period_from
period_some (Reauth n) times s r = s

pub timeout_some : (p : Packet) → IsSome (timeout_of p.attributes)
timeout_some p = from_some (first_number 27 p.attributes) (first_number 29 p.attributes)

abbrev IsGrantSome : Result Grant Unfit → Type 0
IsGrantSome (Ok g) = IsSome g.timeout
IsGrantSome (Err unfit) = Unit {0}

grant_some : (t : Tunnel) (timeout : Timeout) (native : ℕ) → IsSome timeout → IsGrantSome (grant_from t timeout native)
grant_some Absent timeout native s = s
grant_some (Vlan n) timeout native s = s
grant_some Partial timeout native s = tt
grant_some Bad timeout native s = tt

-- ---- proper

else_long : (o : Option (List ℕ)) (success : Bool) (id : ℕ) → IsLong o → 2 ≤ length (or_else o (canned success id))
else_long None success id l = omega arith
else_long (Some eap) success id l = omega (arith, l)

challenged_proper : (p : Packet) (o : Option (List ℕ)) (v : Vars) → IsLong o → IsProper (event_of (challenge_word p o)) v
challenged_proper p None v l = tt
challenged_proper p (Some eap) v l = omega (arith, l)

accepted_proper : (g : Result Grant Unfit) (t : Times) (o : Option (List ℕ)) (k : Kept) (v : Vars) → IsGrantSome g → InRange t → IsLong o → IsProper (event_of (accepted g t v.current_id o k).word) v
accepted_proper (Err unfit) t o k v s r l = omega arith
accepted_proper (Ok g) t o k v s r l = (else_long o true v.current_id l, period_some g.timeout t s r)

if_proper : (b : Bool) (x y : Said) (v : Vars) → IsProper (event_of x.word) v → IsProper (event_of y.word) v → IsProper (event_of (if b then x else y).word) v
if_proper true x y v p q = p
if_proper false x y v p q = q

pub said_proper : (t : Taking) (native : ℕ) (times : Times) (k : Kept) (v : Vars) → InRange times → IsLong t.eap → IsProper (event_of (said t native times v.current_id k).word) v
said_proper t native times k v r l =
    let p : Packet = t.packet in
    let o : Option (List ℕ) = t.eap in
    if_proper (p.code == 11) (challenged p o k) _ v (challenged_proper p o v l)
    (if_proper (p.code == 2) (accepted (grant_of p.attributes native) times v.current_id o k) (rejected (or_else o (canned false v.current_id)) k) v
    (accepted_proper (grant_of p.attributes native) times o k v (grant_some (tunnel_of p.attributes) (timeout_of p.attributes) native (timeout_some p)) r l) (else_long o false v.current_id l))

-- ---- an answer is of a session that there is, and proper

abbrev pub IsFit : State → Answered → Type 0
IsFit s (Refused why) = Unit {0}
IsFit s (Told y what) = In y s.sessions × IsProper (event_of what.word) y.standing.vars

told_fits : (s : State) (t : Taking) (o : Option Session) → session_numbered t.session s ≡ o → InRange s.config.times → IsLong t.eap → IsFit s (told s t o)
told_fits s t None e r l = tt
told_fits s t (Some y) e r l = ((in_found (λ y. y.host.number == t.session) s.sessions y e).0, said_proper t (native_of (port_of y.host.port s)) s.config.times (kept_of y.standing) y.standing.vars r l)

told_by_fits : (s : State) (r : Result Taking AaaDrop) → InRange s.config.times → IsTakenLong r → IsFit s (told_by s r)
told_by_fits s (Err drop) r l = tt
told_by_fits s (Ok t) r l = told_fits s t (session_numbered t.session s) refl r l

pub answer_fits : (s : State) (socket : ℕ) (octets : List ℕ) → InRange s.config.times → IsFit s (answered_on s socket octets)
answer_fits s socket octets r = told_by_fits s (answered s.waits socket octets s.config.secret s.config.require_ma) r (answered_long s.waits socket octets s.config.secret s.config.require_ma)

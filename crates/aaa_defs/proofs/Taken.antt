-- What is known of an answer that was taken.
use Rattle.std.proofs.Common.{◌≡◌, ℕ, ◌≤◌, Bool, true, false, not, cond, List, length, take, drop, Option, Some, None, Result, Ok, refl, sym, ap, subst, ◌∙◌, arith}
use Rattle.std.specs.Prelude.{◌==◌, ◌||◌, nat_lt, nat_le, slice_index, IfSome}
use Rattle.std.proofs.lemmas.Bool.{ltb-false, eqb-true}
use Rattle.std.proofs.lemmas.List.{length-take}
use Rattle.wire_defs.specs.Number.{pair}
use Rattle.wire_defs.specs.Eap.{eap_of as eap_packet_of, fields_of, is_bad_length, is_code}
use Rattle.radius_defs.specs.Packet.{Packet, eap_of}
use Rattle.radius_defs.specs.Parsed.{packet_of}
use Rattle.switch_event.specs.declared.drop.AaaDrop.{AaaDrop}
use Rattle.aaa_defs.specs.Waits.{Pending, Waits, name_of, pending_under}
use Rattle.aaa_defs.specs.Answer.{Taking, answered, answered_by, answered_in, taken_from, checks, first_failed, eap_carried, carried_in, has_eap, may_carry}

abbrev took : Taking → Result Taking AaaDrop
took t = Ok t

ok-same : (a b : Taking) → took a ≡ took b → a ≡ b
ok-same a b h = cc

-- it is a packet that answers a request that waited, under the socket that it came to, and it passes every check
pub record Answers (w : Waits) (socket : ℕ) (octets secret : List ℕ) (require : Bool) (t : Taking) : Type 0 where
  pub request : Pending
  pub read : packet_of octets ≡ Some t.packet
  pub waited : pending_under (name_of socket t.packet.identifier) w ≡ Some request
  pub passed : first_failed (checks t.packet request.auth secret require) ≡ None
  pub session : t.session ≡ request.session
  pub eap : t.eap ≡ eap_carried t.packet

-- it is told of such a packet and such a request
pub taken-answers : (w : Waits) (socket : ℕ) (octets secret : List ℕ) (require : Bool) (t : Taking) → answered w socket octets secret require ≡ Ok t → Answers w socket octets secret require t
taken-answers w socket octets secret require t h = by_packet (packet_of octets) refl h
  where
    by_checks : (p : Packet) (r : Pending) → packet_of octets ≡ Some p → pending_under (name_of socket p.identifier) w ≡ Some r
        → (failed : Option AaaDrop) → first_failed (checks p r.auth secret require) ≡ failed → taken_from p r failed ≡ Ok t → Answers w socket octets secret require t
    by_checks p r read waited None passed told =
        let made : Taking = record { session = r.session; packet = p; eap = eap_carried p } in
        let is : made ≡ t = ok-same made t told in
        subst (Answers w socket octets secret require) is (record { request = r; read = read; waited = waited; passed = passed; session = refl; eap = refl })
    by_checks p r read waited (Some drop) passed told = cc

    by_request : (p : Packet) → packet_of octets ≡ Some p → (o : Option Pending) → pending_under (name_of socket p.identifier) w ≡ o
        → answered_by p o secret require ≡ Ok t → Answers w socket octets secret require t
    by_request p read None waited told = cc
    by_request p read (Some r) waited told = by_checks p r read waited (first_failed (checks p r.auth secret require)) refl told

    by_packet : (o : Option Packet) → packet_of octets ≡ o → answered_in o w socket secret require ≡ Ok t → Answers w socket octets secret require t
    by_packet None read told = cc
    by_packet (Some p) read told = by_request p read (pending_under (name_of socket p.identifier) w) refl told

-- ---- the EAP packet that it carries

or-false : (a b : Bool) → (a || b) ≡ false → (a ≡ false) × (b ≡ false)
or-false true b h = cc
or-false false b h = (refl, h)

not-false : (a : Bool) → not a ≡ false → a ≡ true
not-false true h = refl
not-false false h = cc

size-least : (code size : ℕ) → cond (nat_le code 2) (nat_lt size 5) (not (size == 4)) ≡ false → 4 ≤ size
size-least code size h = by_code (nat_le code 2) h
  where
    by_code : (b : Bool) → cond b (nat_lt size 5) (not (size == 4)) ≡ false → 4 ≤ size
    by_code true h = omega (arith, ltb-false size 5 h)
    by_code false h = omega (arith, eqb-true size 4 (not-false (size == 4) h))

whole-long : (octets : List ℕ) → is_bad_length (slice_index octets 0) (pair octets 2) (length octets) ≡ false → 4 ≤ length (take (pair octets 2) octets)
whole-long octets h =
    let parts = or-false (nat_lt (length octets) (pair octets 2)) (cond (nat_le (slice_index octets 0) 2) (nat_lt (pair octets 2) 5) (not (pair octets 2 == 4))) h in
    omega (arith, ltb-false (length octets) (pair octets 2) parts.0, size-least (slice_index octets 0) (pair octets 2) parts.1, length-take (pair octets 2) octets)

fields-whole : (whole : List ℕ) → (fields_of whole).whole ≡ whole
fields-whole whole = by_code (nat_le (slice_index whole 0) 2) refl
  where
    by_code : (b : Bool) → nat_le (slice_index whole 0) 2 ≡ b → (fields_of whole).whole ≡ whole
    by_code true e = rw e refl
    by_code false e = rw e refl

some-same : {X : Type 0} (x y : X) → Some x ≡ Some y → x ≡ y
some-same x y h = cc

-- an EAP packet that a taken answer carries has a header at least
pub carried-long : (code : ℕ) (octets eap : List ℕ) → carried_in code (eap_packet_of octets) ≡ Some eap → 4 ≤ length eap
carried-long code octets eap h = by_short (nat_lt (length octets) 4) refl
  where
    whole : List ℕ
    whole = take (pair octets 2) octets

    good : carried_in code (Ok (fields_of whole)) ≡ Some eap → is_bad_length (slice_index octets 0) (pair octets 2) (length octets) ≡ false → 4 ≤ length eap
    good told fine = by_code (may_carry code (fields_of whole).code) refl
      where
        by_code : (b : Bool) → may_carry code (fields_of whole).code ≡ b → 4 ≤ length eap
        by_code true e =
            let same : (fields_of whole).whole ≡ eap = some-same (fields_of whole).whole eap (sym (rw e refl) ∙ told) in
            omega (arith, whole-long octets fine, ap length (sym (fields-whole whole) ∙ same))
        by_code false e = let no_ : None ≡ Some eap = sym (rw e refl) ∙ told in cc

    by_length : nat_lt (length octets) 4 ≡ false → not (is_code (slice_index octets 0)) ≡ false → (b : Bool) → is_bad_length (slice_index octets 0) (pair octets 2) (length octets) ≡ b → 4 ≤ length eap
    by_length short code_is true e = let no_ : None ≡ Some eap = sym (rw (short, code_is, e) refl) ∙ h in cc
    by_length short code_is false e = good (sym (rw (short, code_is, e) refl) ∙ h) e

    by_code : nat_lt (length octets) 4 ≡ false → (b : Bool) → not (is_code (slice_index octets 0)) ≡ b → 4 ≤ length eap
    by_code short true e = let no_ : None ≡ Some eap = sym (rw (short, e) refl) ∙ h in cc
    by_code short false e = by_length short e (is_bad_length (slice_index octets 0) (pair octets 2) (length octets)) refl

    by_short : (b : Bool) → nat_lt (length octets) 4 ≡ b → 4 ≤ length eap
    by_short true e = let no_ : None ≡ Some eap = sym (rw e refl) ∙ h in cc
    by_short false e = by_code e (not (is_code (slice_index octets 0))) refl

pub taken-long : (p : Packet) → IfSome (eap_carried p) (λ eap. 4 ≤ length eap)
taken-long p = by_eap (has_eap p)
  where
    long : (o : Option (List ℕ)) → carried_in p.code (eap_packet_of (eap_of p.attributes)) ≡ o → IfSome o (λ eap. 4 ≤ length eap)
    long None h = tt
    long (Some eap) h = carried-long p.code (eap_of p.attributes) eap h

    by_eap : (b : Bool) → IfSome (cond b (carried_in p.code (eap_packet_of (eap_of p.attributes))) None) (λ eap. 4 ≤ length eap)
    by_eap true = long (carried_in p.code (eap_packet_of (eap_of p.attributes))) refl
    by_eap false = tt

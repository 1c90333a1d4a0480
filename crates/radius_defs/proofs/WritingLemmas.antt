-- Octets that are written over, and packets that are built.
use Rattle.std.proofs.Common.{◌≡◌, ℕ, ◌+◌, ◌-◌, ◌/◌, ◌%◌, ◌≤◌, List, [], ◌∷◌, ◌++◌, length, take, drop, drop-drop, refl, sym, ap, subst, ◌∙◌, append_assoc, append-nil, arith}
use Rattle.std.specs.List.{slice_range}
use Rattle.std.proofs.lemmas.List.{length-append, length-take, take_at, drop_at}
use Rattle.std.proofs.Math.Seq.{take-append-add, drop-append-add}
use Rattle.std.proofs.lemmas.List.Concat.{flat_map-append}
use Rattle.radius_defs.specs.Packet.{Attribute, Packet, attribute_text, attributes_text, packet_text, Fits, IsPacket, written_over}
use Rattle.wire_defs.specs.Number.{two_octets}
use Rattle.radius_defs.specs.Reading.{attributes_of, packet_in, IsText}
use Rattle.radius_defs.proofs.AttributeLemmas.{attributes-whole}

-- a piece in the middle is written over by one of its length
pub over-middle : (front middle rest piece : List ℕ) (at : ℕ) → at ≡ length front → length piece ≡ length middle
    → written_over (front ++ (middle ++ rest)) at piece ≡ front ++ (piece ++ rest)
over-middle front middle rest piece at place len =
    let tail : drop (at + length piece) (front ++ (middle ++ rest)) ≡ rest =
    ap (drop (at + length piece)) (sym (append_assoc front middle rest)) ∙ drop_at (front ++ middle) rest (at + length piece) (omega (arith, length-append front middle)) in
    let head : take at (front ++ (middle ++ rest)) ≡ front = take_at front (middle ++ rest) at (sym place) in
    rw (head, tail) (append_assoc front piece rest)

-- two pieces, the second behind the first
pub over-twice : (octets first second : List ℕ) (from past at : ℕ) → past ≡ from + length first → from ≤ length octets → past ≤ at → at ≤ length octets
    → written_over (written_over octets from first) at second ≡ take from octets ++ first ++ slice_range octets past at ++ second ++ drop (at + length second) octets
over-twice octets first second from past at place there behind within =
    let front : List ℕ = take from octets ++ first in
    let rest : List ℕ = drop past octets in
    let len : length front ≡ past = omega (arith, length-append (take from octets) first, length-take from octets) in
    let gap : ℕ = at - past in
    let at-is : at ≡ length front + gap = omega arith in
    let head : take at (front ++ rest) ≡ front ++ take gap rest = ap (λ (n : ℕ). take n (front ++ rest)) at-is ∙ take-append-add front rest gap in
    let end : at + length second ≡ length front + (gap + length second) = omega arith in
    let tail : drop (at + length second) (front ++ rest) ≡ drop (at + length second) octets =
    ap (λ (n : ℕ). drop n (front ++ rest)) end ∙ drop-append-add front rest (gap + length second)
    ∙ drop-drop (gap + length second) past octets ∙ ap (λ (n : ℕ). drop n octets) (omega arith) in
    ap (λ (n : ℕ). written_over (take from octets ++ first ++ drop n octets) at second) (sym place) ∙ rw (head, tail) refl

-- what a hasher has taken piece by piece behind its key is the key and the whole
pub fed_after : (key a b c d e whole : List ℕ) → whole ≡ a ++ b ++ c ++ d ++ e → ((((key ++ a) ++ b) ++ c) ++ d) ++ e ≡ key ++ whole
fed_after key a b c d e whole pieces = rw pieces (simp append_assoc)

-- a packet's text is read back
pub text-in : (octets : List ℕ) (p : Packet) → octets ≡ packet_text p → Fits p → packet_in octets ≡ p
text-in octets p text fits =
    let auth : take 16 (drop 4 octets) ≡ p.authenticator = ap (λ (xs : List ℕ). take 16 (drop 4 xs)) text ∙ take_at p.authenticator (attributes_text p.attributes) 16 fits.authenticator in
    let body : drop 20 octets ≡ attributes_text p.attributes = ap (drop 20) text ∙ drop_at p.authenticator (attributes_text p.attributes) 16 fits.authenticator in
    let attributes : attributes_of (drop 20 octets) ≡ p.attributes = ap attributes_of body ∙ attributes-whole p.attributes in
    rw (auth, attributes, text) refl

pub attributes_text-push : (attributes : List Attribute) (a : Attribute) → attributes_text (attributes ++ a ∷ []) ≡ attributes_text attributes ++ attribute_text a
attributes_text-push attributes a = flat_map-append attribute_text attributes (a ∷ []) ∙ ap (λ (xs : List ℕ). attributes_text attributes ++ xs) (append-nil (attribute_text a))

-- the packet with another attribute at its end
abbrev pub with_attribute : Packet → Attribute → Packet
with_attribute p a = record p { attributes = p.attributes ++ a ∷ [] }

pub text-put : (p : Packet) (a : Attribute) (n : ℕ) → n ≡ length (attributes_text p.attributes ++ attribute_text a)
    → written_over (packet_text p ++ attribute_text a) 2 (two_octets (20 + n)) ≡ packet_text (with_attribute p a)
text-put p a n len =
    let push = attributes_text-push p.attributes a in
    let m : 20 + n ≡ 20 + length (attributes_text (p.attributes ++ a ∷ [])) = omega (arith, len, ap length push) in
    ap (λ (xs : List ℕ). p.code ∷ p.identifier ∷ two_octets (20 + n) ++ xs) (append_assoc p.authenticator (attributes_text p.attributes) (attribute_text a) ∙ ap (λ (xs : List ℕ). p.authenticator ++ xs) (sym push))
    ∙ ap (λ (k : ℕ). p.code ∷ p.identifier ∷ two_octets k ++ p.authenticator ++ attributes_text (p.attributes ++ a ∷ [])) m

pub text-auth-over : (p : Packet) (auth : List ℕ) → Fits p → length auth ≡ 16 → written_over (packet_text p) 4 auth ≡ packet_text (record p { authenticator = auth })
text-auth-over p auth fits sixteen =
    over-middle (p.code ∷ p.identifier ∷ two_octets (20 + length (attributes_text p.attributes))) p.authenticator (attributes_text p.attributes) auth 4 refl (sixteen ∙ sym fits.authenticator)

-- the packet with another value in the attribute behind `front`
abbrev pub with_value : Packet → List Attribute → Attribute → List Attribute → List ℕ → Packet
with_value p front a rest value = record p { attributes = front ++ record { kind = a.kind; value = value } ∷ rest }

attributes_text-middle : (front : List Attribute) (a : Attribute) (rest : List Attribute) → attributes_text (front ++ a ∷ rest) ≡ attributes_text front ++ (attribute_text a ++ attributes_text rest)
attributes_text-middle front a rest = flat_map-append attribute_text front (a ∷ rest)

regroup : (auth front value rest : List ℕ) (kind size : ℕ) → auth ++ (front ++ (kind ∷ size ∷ (value ++ rest))) ≡ (auth ++ (front ++ (kind ∷ size ∷ []))) ++ (value ++ rest)
regroup auth front value rest kind size = simp append_assoc

pub text-value-over : (p : Packet) (front : List Attribute) (a : Attribute) (rest : List Attribute) (value : List ℕ) (at : ℕ) → Fits p
    → p.attributes ≡ front ++ a ∷ rest → at ≡ 22 + length (attributes_text front) → length value ≡ length a.value
    → written_over (packet_text p) at value ≡ packet_text (with_value p front a rest value)
text-value-over p front a rest value at fits split place len =
    let n : ℕ = 20 + length (attributes_text p.attributes) in
    let text : ℕ → List ℕ → List ℕ = λ (m : ℕ) (xs : List ℕ). p.code ∷ p.identifier ∷ m / 256 ∷ m % 256 ∷ xs in
    let size : ℕ = length a.value + 2 in
    let before : List ℕ = text n (p.authenticator ++ (attributes_text front ++ (a.kind ∷ size ∷ []))) in
    let old : attributes_text p.attributes ≡ attributes_text front ++ (a.kind ∷ size ∷ (a.value ++ attributes_text rest)) = ap attributes_text split ∙ attributes_text-middle front a rest in
    let new : attributes_text (front ++ record { kind = a.kind; value = value } ∷ rest) ≡ attributes_text front ++ (a.kind ∷ (length value + 2) ∷ (value ++ attributes_text rest)) = attributes_text-middle front (record { kind = a.kind; value = value }) rest in
    let same : 20 + length (attributes_text (front ++ record { kind = a.kind; value = value } ∷ rest)) ≡ n =
    omega (arith, ap length old, ap length new, len, length-append (attributes_text front) (a.kind ∷ size ∷ (a.value ++ attributes_text rest)), length-append (attributes_text front) (a.kind ∷ (length value + 2) ∷ (value ++ attributes_text rest)), length-append a.value (attributes_text rest), length-append value (attributes_text rest)) in
    let here : at ≡ length before = omega (arith, place, fits.authenticator, length-append p.authenticator (attributes_text front ++ (a.kind ∷ size ∷ [])), length-append (attributes_text front) (a.kind ∷ size ∷ [])) in
    let whole : packet_text p ≡ before ++ (a.value ++ attributes_text rest) =
    ap (λ (xs : List ℕ). text n (p.authenticator ++ xs)) old ∙ ap (text n) (regroup p.authenticator (attributes_text front) a.value (attributes_text rest) a.kind size) in
    let after : before ++ (value ++ attributes_text rest) ≡ text n (p.authenticator ++ (attributes_text front ++ (a.kind ∷ size ∷ (value ++ attributes_text rest)))) =
    ap (text n) (sym (regroup p.authenticator (attributes_text front) value (attributes_text rest) a.kind size)) in
    let sized : attributes_text front ++ (a.kind ∷ size ∷ (value ++ attributes_text rest)) ≡ attributes_text (front ++ record { kind = a.kind; value = value } ∷ rest) =
    ap (λ (k : ℕ). attributes_text front ++ (a.kind ∷ (k + 2) ∷ (value ++ attributes_text rest))) (sym len) ∙ sym new in
    ap (λ (xs : List ℕ). written_over xs at value) whole ∙ over-middle before a.value (attributes_text rest) value at here len ∙ after
    ∙ ap (λ (xs : List ℕ). text n (p.authenticator ++ xs)) sized
    ∙ ap (λ (m : ℕ). text m (p.authenticator ++ attributes_text (front ++ record { kind = a.kind; value = value } ∷ rest))) (sym same)

-- ---- octets that are the text of a packet

pub record Holds (octets : List ℕ) (p : Packet) : Type 0 where
  pub text : octets ≡ packet_text p
  pub fits : Fits p

pub holds-is : (octets : List ℕ) (p : Packet) → Holds octets p → packet_in octets ≡ p
holds-is octets p known = text-in octets p known.text known.fits

pub holds-text : (octets : List ℕ) (p : Packet) → Holds octets p → IsText octets
holds-text octets p known =
    let e = sym (holds-is octets p known) in
    record { text = known.text ∙ ap packet_text e; fits = subst Fits e known.fits }

pub holds-from : (octets : List ℕ) (p : Packet) → IsText octets → packet_in octets ≡ p → Holds octets p
holds-from octets p known e = record { text = known.text ∙ ap packet_text e; fits = subst Fits e known.fits }

pub holds-packet : (octets : List ℕ) (p : Packet) → Holds octets p → IsPacket octets p
holds-packet octets p known = record { fits = known.fits; padding = []; split = known.text ∙ sym (append-nil (packet_text p)) }

pub holds-new : (code identifier : ℕ) (auth : List ℕ) → length auth ≡ 16
    → Holds (code ∷ identifier ∷ 0 ∷ 20 ∷ auth) (record { code = code; identifier = identifier; authenticator = auth; attributes = [] })
holds-new code identifier auth sixteen =
    record { text = ap (λ (xs : List ℕ). code ∷ identifier ∷ 0 ∷ 20 ∷ xs) (sym (append-nil auth)); fits = record { authenticator = sixteen; body = omega arith } }

pub holds-put : (octets : List ℕ) (p : Packet) (a : Attribute) (n : ℕ) → Holds octets p → n ≡ length octets + length (attribute_text a) → n ≤ 4096
    → Holds (written_over (octets ++ attribute_text a) 2 (two_octets n)) (with_attribute p a)
holds-put octets p a n known len most =
    let text-len : length octets ≡ 20 + length (attributes_text p.attributes) = omega (arith, ap length known.text, known.fits.authenticator, length-append p.authenticator (attributes_text p.attributes)) in
    let body-len = length-append (attributes_text p.attributes) (attribute_text a) in
    let m : n ≡ 20 + length (attributes_text p.attributes ++ attribute_text a) = omega arith in
    record {
      text = ap (λ (xs : List ℕ). written_over (xs ++ attribute_text a) 2 (two_octets n)) known.text
          ∙ ap (λ (k : ℕ). written_over (packet_text p ++ attribute_text a) 2 (two_octets k)) m
          ∙ text-put p a (length (attributes_text p.attributes ++ attribute_text a)) refl;
      fits = record { authenticator = known.fits.authenticator; body = omega (arith, ap length (attributes_text-push p.attributes a)) };
    }

pub holds-auth : (octets : List ℕ) (p : Packet) (auth : List ℕ) → Holds octets p → length auth ≡ 16 → Holds (written_over octets 4 auth) (record p { authenticator = auth })
holds-auth octets p auth known sixteen = record {
  text = ap (λ (xs : List ℕ). written_over xs 4 auth) known.text ∙ text-auth-over p auth known.fits sixteen;
  fits = record { authenticator = sixteen; body = known.fits.body };
}

pub same-length : (front : List Attribute) (a : Attribute) (rest : List Attribute) (value : List ℕ) → length value ≡ length a.value
    → length (attributes_text (front ++ record { kind = a.kind; value = value } ∷ rest)) ≡ length (attributes_text (front ++ a ∷ rest))
same-length front a rest value len =
    let new = attributes_text-middle front (record { kind = a.kind; value = value }) rest in
    let old = attributes_text-middle front a rest in
    omega (arith, ap length old, ap length new, length-append (attributes_text front) (attribute_text a ++ attributes_text rest), length-append (attributes_text front) (a.kind ∷ (length value + 2) ∷ (value ++ attributes_text rest)), length-append a.value (attributes_text rest), length-append value (attributes_text rest))

pub holds-value : (octets : List ℕ) (p : Packet) (front : List Attribute) (a : Attribute) (rest : List Attribute) (value : List ℕ) (at : ℕ) → Holds octets p
    → p.attributes ≡ front ++ a ∷ rest → at ≡ 22 + length (attributes_text front) → length value ≡ length a.value
    → Holds (written_over octets at value) (with_value p front a rest value)
holds-value octets p front a rest value at known split place len = record {
  text = ap (λ (xs : List ℕ). written_over xs at value) known.text ∙ text-value-over p front a rest value at known.fits split place len;
  fits = record { authenticator = known.fits.authenticator; body = omega (arith, known.fits.body, same-length front a rest value len, ap (λ (xs : List Attribute). length (attributes_text xs)) split) };
}

-- The packet that octets are: the function answers what the relation says.
use Rattle.std.proofs.Common.{◌≡◌, ℕ, ◌+◌, List, ◌++◌, length, take, drop, true, Some, None, Ok, Err, refl, sym, ap, ◌∙◌, arith, inl, inr}
use Rattle.std.proofs.lemmas.Bool.{cases_Bool, eq-eqb, eqb-true, le-leb, leb-true, and_parts, and_from}
use Rattle.std.proofs.lemmas.List.{length-append, take_at, take-append-drop}
use Rattle.std.proofs.lemmas.Slice.Eq.{bytes_eq-Decides}
use Rattle.radius_defs.specs.declared.RadDrop.{RadDrop}
use Rattle.radius_defs.specs.Packet.{Packet, attributes_text, packet_text, IsPacket, PacketOf, stated_length}
use Rattle.radius_defs.specs.Reading.{packet_in}
use Rattle.radius_defs.specs.Parsed.{is_text_of, packet_of}
use Rattle.radius_defs.proofs.PacketLemmas.{one_answer, text-stated}
use Rattle.radius_defs.proofs.WritingLemmas.{text-in}

-- the front of the octets, up to the stated length
front-is : (octets : List ℕ) (p : Packet) → IsPacket octets p → take (stated_length octets) octets ≡ packet_text p
front-is octets p known =
    let len : length (packet_text p) ≡ 20 + length (attributes_text p.attributes) = omega (arith, known.fits.authenticator, length-append p.authenticator (attributes_text p.attributes)) in
    let stated : stated_length octets ≡ length (packet_text p) = ap stated_length known.split ∙ text-stated p known.padding ∙ sym len in
    ap (λ (k : ℕ). take k octets) stated ∙ ap (take (length (packet_text p))) known.split ∙ take_at (packet_text p) known.padding (length (packet_text p)) refl

text-is : (octets : List ℕ) (p : Packet) → IsPacket octets p → is_text_of p octets ≡ true
text-is octets p known =
    let whole : packet_text p ++ drop (stated_length octets) octets ≡ octets = ap (λ (xs : List ℕ). xs ++ drop (stated_length octets) octets) (sym (front-is octets p known)) ∙ take-append-drop (stated_length octets) octets in
    and_from _ _ (and_from _ _ (eq-eqb _ _ known.fits.authenticator) (le-leb _ _ known.fits.body)) ((bytes_eq-Decides _ _).1 whole)

text-packet : (octets : List ℕ) (p : Packet) → is_text_of p octets ≡ true → IsPacket octets p
text-packet octets p test =
    let all = and_parts _ _ test in
    let fits = and_parts _ _ all.0 in
    record {
      fits = record { authenticator = eqb-true _ _ fits.0; body = leb-true _ _ fits.1 };
      padding = drop (stated_length octets) octets;
      split = sym ((bytes_eq-Decides _ _).0 all.1);
    }

pub packet-of-some : (octets : List ℕ) (p : Packet) → IsPacket octets p → packet_of octets ≡ Some p
unfolding packet_of
packet-of-some octets p known =
    let same : packet_in (take (stated_length octets) octets) ≡ p = text-in _ p (front-is octets p known) known.fits in
    let passed : is_text_of (packet_in (take (stated_length octets) octets)) octets ≡ true = ap (λ (q : Packet). is_text_of q octets) same ∙ text-is octets p known in
    rw passed (ap (λ (q : Packet). Some q) same)

pub packet-of-none : (octets : List ℕ) (e : RadDrop) → PacketOf octets (Err e) → packet_of octets ≡ None
unfolding packet_of
packet-of-none octets e broken =
    let p = packet_in (take (stated_length octets) octets) in
    elim (cases_Bool (is_text_of p octets)) [
      | inl passed ↦ cc (one_answer octets (Ok p) (Err e) (text-packet octets p passed) broken)
      | inr failed ↦ rw failed refl
    ]

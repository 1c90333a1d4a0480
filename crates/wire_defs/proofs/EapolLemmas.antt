-- The fields of an EAPOL packet are those at their places, and no others.
use Rattle.std.proofs.Common.{◌≡◌, ℕ, ◌≤◌, ◌==◌, nat_lt, List, [], ◌∷◌, ◌++◌, length, slice_index, drop, take, Result, Ok, Err, refl, sym, ap, ap₂, ◌∙◌, arith, append-nil, length-append, length-take-le, length-drop, take-append-drop, ltb-true, ltb-false, eqb-true}
use Rattle.std.proofs.lemmas.List.{take_at}
use Rattle.std.proofs.lemmas.Bool.Decides.{nat_tests}
use Rattle.wire_defs.specs.declared.EapolDrop.{EapolDrop}
use Rattle.wire_defs.specs.declared.EapolDrop.TheVariants.{Short, Key, UnknownType, BodyShort}
use Rattle.wire_defs.specs.declared.Kind.{Kind}
use Rattle.wire_defs.specs.declared.Kind.TheVariants.{EapPacket, Start, Logoff}
use Rattle.wire_defs.specs.Number.{IsOctets, two_octets, pair}
use Rattle.wire_defs.specs.Eapol.{Eapol, IsEapol, IsBody, EapolOf, eapol_of, type_number, eapol_text}
use Rattle.wire_defs.proofs.NumberLemmas.{if_cases, pair_of_two, first_four}

-- the header and what follows it, with a type and a body
of_kind : (octets : List ℕ) (kind : Kind) (body : List ℕ) → IsOctets octets → 4 ≤ length octets → slice_index octets 1 ≡ type_number kind → IsBody kind (pair octets 2) (drop 4 octets) body
    → IsEapol octets (record { version = slice_index octets 0; kind = kind; body = body })
of_kind octets kind body fits h is carried = record {
  size = pair octets 2;
  after = drop 4 octets;
  split = first_four octets fits h ∙ ap (λ n. (slice_index octets 0 ∷ n ∷ two_octets (pair octets 2)) ++ drop 4 octets) is;
  carried = carried;
}

-- an EAPOL packet has its fields
pub EapolOf-eapol_of : (octets : List ℕ) → IsOctets octets → EapolOf octets (eapol_of octets)
EapolOf-eapol_of octets fits =
    if_cases (EapolOf octets) (nat_lt (length octets) 4) _ _ (λ h. ltb-true _ _ h) (λ long.
    let there = ltb-false _ _ long in
    if_cases (EapolOf octets) (slice_index octets 1 == 3) _ _ (λ h. (there, eqb-true _ _ h)) (λ not_key.
    if_cases (EapolOf octets) (nat_lt 3 (slice_index octets 1)) _ _ (λ h. (there, ltb-true _ _ h)) (λ known.
    if_cases (EapolOf octets) (slice_index octets 1 == 1) _ _ (λ h. of_kind octets Start [] fits there (eqb-true _ _ h) refl) (λ no_start.
    if_cases (EapolOf octets) (slice_index octets 1 == 2) _ _ (λ h. of_kind octets Logoff [] fits there (eqb-true _ _ h) refl) (λ no_logoff.
    let is_zero : slice_index octets 1 ≡ 0 = grind (arith, nat_tests) in
    if_cases (EapolOf octets) (nat_lt (length (drop 4 octets)) (pair octets 2)) _ _
    (λ h. (there, is_zero, omega (arith, ltb-true _ _ h, length-drop 4 octets)))
    (λ whole. of_kind octets EapPacket (take (pair octets 2) (drop 4 octets)) fits there is_zero
    (drop (pair octets 2) (drop 4 octets), sym (take-append-drop (pair octets 2) (drop 4 octets)), sym (length-take-le (pair octets 2) (drop 4 octets) (ltb-false _ _ whole)))))))))

-- what stands where a packet has its parts
record HasParts (octets : List ℕ) (version number size : ℕ) (after : List ℕ) : Type 0 where
  pub there : 4 ≤ length octets
  pub first : slice_index octets 0 ≡ version
  pub second : slice_index octets 1 ≡ number
  pub length_is : pair octets 2 ≡ size
  pub back : drop 4 octets ≡ after

HasParts-from : (octets : List ℕ) (version number size : ℕ) (after : List ℕ) → octets ≡ (version ∷ number ∷ two_octets size) ++ after → HasParts octets version number size after
HasParts-from octets version number size after split = record {
  there = omega (arith, ap length split);
  first = ap (λ xs. slice_index xs 0) split;
  second = ap (λ xs. slice_index xs 1) split;
  length_is = ap (λ xs. pair xs 2) split ∙ pair_of_two size;
  back = ap (drop 4) split;
}

-- the octets of a body, and its length, give it back
body_only : (body padding after : List ℕ) (size : ℕ) → after ≡ body ++ padding → size ≡ length body → body ≡ take size after
body_only body padding after size split long = sym (ap₂ take long split ∙ take_at body padding (length body) refl)

fields_only : (octets : List ℕ) (version : ℕ) (kind : Kind) (body : List ℕ) → IsEapol octets (record { version = version; kind = kind; body = body }) → Ok (record { version = version; kind = kind; body = body }) ≡ eapol_of octets
fields_only octets version EapPacket body h =
    let parts = HasParts-from octets version 0 h.size h.after h.split in
    let carried = body_only body h.carried.0 h.after h.size h.carried.1 h.carried.2 in
    let fits : h.size ≤ length h.after = omega (arith, ap length h.carried.1, length-append body h.carried.0) in
    grind (arith, nat_tests)
fields_only octets version Start body h =
    let parts = HasParts-from octets version 1 h.size h.after h.split in
    grind (arith, nat_tests)
fields_only octets version Logoff body h =
    let parts = HasParts-from octets version 2 h.size h.after h.split in
    grind (arith, nat_tests)

-- and no others
pub eapol_of_only : (octets : List ℕ) (r : Result Eapol EapolDrop) → EapolOf octets r → r ≡ eapol_of octets
eapol_of_only octets (Err Short) h = grind (arith, nat_tests)
eapol_of_only octets (Err Key) h = grind (arith, nat_tests)
eapol_of_only octets (Err UnknownType) h = grind (arith, nat_tests)
eapol_of_only octets (Err BodyShort) h = let there = length-drop 4 octets in grind (arith, nat_tests)
eapol_of_only octets (Ok eapol) h = fields_only octets eapol.version eapol.kind eapol.body h

-- what is written is a packet that carries the EAP packet
pub IsEapol-eapol_text : (eap : List ℕ) → IsEapol (eapol_text eap) (record { version = 2; kind = EapPacket; body = eap })
IsEapol-eapol_text eap = record {
  size = length eap;
  after = eap;
  split = refl;
  carried = ([], sym (append-nil eap), refl);
}

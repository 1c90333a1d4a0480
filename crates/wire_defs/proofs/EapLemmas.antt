-- The fields of an EAP packet are those at their places, and no others.
use Rattle.std.proofs.Common.{◌≡◌, ℕ, ◌<◌, ◌≤◌, ◌⊎◌, inl, inr, Bool, true, false, not, nat_lt, nat_le, if◌then◌else◌, List, [], ◌∷◌, ◌++◌, length, slice_index, drop, take, Result, Ok, Err, refl, sym, ap, ap₂, ◌∙◌, arith, length-append, length-take-le, take-append-drop, ltb-true, ltb-false, le-ltb, leb-true, leb-false, drop_of_length-le, length-take, lit≤}
use Rattle.std.proofs.lemmas.List.{take_at, get_or-drop, drop-drop, get_or-take, get_or_past, get_or_append_left, drop_more}
use Rattle.std.proofs.lemmas.Bool.{cases_lt}
use Rattle.std.proofs.lemmas.Bool.Decides.{nat_tests}
use Rattle.wire_defs.specs.declared.EapDrop.{EapDrop}
use Rattle.wire_defs.specs.declared.EapDrop.TheVariants.{Short, BadCode, BadLength}
use Rattle.wire_defs.specs.Number.{IsOctets, two_octets, pair}
use Rattle.wire_defs.specs.Eap.{Eap, IsEap, EapOf, eap_of, IsBadLength, is_bad_length, is_code, fields_of, identity_request, canned}
use Rattle.wire_defs.proofs.NumberLemmas.{if_cases, pair_of_two, first_four}

-- the length of a packet, tested
bad_length : (code size there : ℕ) → is_bad_length code size there ≡ true → IsBadLength code size there
bad_length code size there h = grind (arith, nat_tests)

good_length : (code size there : ℕ) → is_bad_length code size there ≡ false → (size ≤ there) × (code ≤ 2 → 5 ≤ size) × (3 ≤ code → size ≡ 4)
good_length code size there h = (grind (arith, nat_tests), grind (arith, nat_tests), grind (arith, nat_tests))

is_bad : (code size there : ℕ) → IsBadLength code size there → is_bad_length code size there ≡ true
is_bad code size there h = grind (arith, nat_tests)

is_good : (code size there : ℕ) → size ≤ there → (code ≤ 2 → 5 ≤ size) → (3 ≤ code → size ≡ 4) → is_bad_length code size there ≡ false
is_good code size there most typed bare = grind (arith, nat_tests)

is_known : (code : ℕ) → 1 ≤ code → code ≤ 4 → not (is_code code) ≡ false
is_known code least most = grind (arith, nat_tests)

no_code : (code : ℕ) → not (is_code code) ≡ true → (code ≡ 0) ⊎ (5 ≤ code)
no_code code h = grind (arith, nat_tests)

a_code : (code : ℕ) → not (is_code code) ≡ false → (1 ≤ code) × (code ≤ 4)
a_code code h = (grind (arith, nat_tests), grind (arith, nat_tests))

at_least_four : (code size : ℕ) → (code ≤ 2 → 5 ≤ size) → (3 ≤ code → size ≡ 4) → 4 ≤ size
at_least_four code size typed bare = grind arith

IsOctets-take : (n : ℕ) (octets : List ℕ) → IsOctets octets → IsOctets (take n octets)
IsOctets-take n octets fits k = elim (cases_lt k n) [
  | inl low ↦ rw (get_or-take n octets k 0 low) (fits k)
  | inr high ↦ rw (get_or_past (take n octets) k 0 (omega (arith, length-take n octets))) (lit≤ tt)
]

-- the packet without padding
record IsWhole (octets whole : List ℕ) (size : ℕ) : Type 0 where
  pub long : length whole ≡ size
  pub split : octets ≡ whole ++ drop size octets
  pub first : slice_index whole 0 ≡ slice_index octets 0
  pub packet : whole ≡ (slice_index whole 0 ∷ slice_index whole 1 ∷ two_octets (length whole)) ++ drop 4 whole

IsWhole-take : (octets : List ℕ) → IsOctets octets → 4 ≤ pair octets 2 → pair octets 2 ≤ length octets → IsWhole octets (take (pair octets 2) octets) (pair octets 2)
IsWhole-take octets fits least most =
    let size = pair octets 2 in
    let long : length (take size octets) ≡ size = length-take-le size octets most in
    let third : slice_index (take size octets) 2 ≡ slice_index octets 2 = get_or-take size octets 2 0 (omega arith) in
    let fourth : slice_index (take size octets) 3 ≡ slice_index octets 3 = get_or-take size octets 3 0 (omega arith) in
    let same : pair (take size octets) 2 ≡ length (take size octets) = omega arith in record {
      long = long;
      split = sym (take-append-drop size octets);
      first = get_or-take size octets 0 0 (omega arith);
      packet =
          first_four (take size octets) (IsOctets-take size octets fits) (omega arith)
          ∙ ap (λ n. (slice_index (take size octets) 0 ∷ slice_index (take size octets) 1 ∷ two_octets n) ++ drop 4 (take size octets)) same;
    }

-- the fields of a packet without padding, whose length its code allows
IsEap-fields_of : (octets whole : List ℕ) (size : ℕ) → IsWhole octets whole size → 1 ≤ slice_index whole 0 → slice_index whole 0 ≤ 4 → (slice_index whole 0 ≤ 2 → 5 ≤ size) → (3 ≤ slice_index whole 0 → size ≡ 4)
    → IsEap octets (fields_of whole)
IsEap-fields_of octets whole size is least most typed bare =
    if_cases (IsEap octets) (nat_le (slice_index whole 0) 2) _ _
    (λ h. record {
      carried = drop 4 whole;
      padding = drop size octets;
      split = is.split;
      packet = is.packet;
      meant = record {
        typed = λ low. drop_more whole 4 0 (omega (arith, typed low, is.long));
        bare = λ high. absurd (omega (arith, leb-true _ _ h));
      };
      known = (least, most);
    })
    (λ h. record {
      carried = drop 4 whole;
      padding = drop size octets;
      split = is.split;
      packet = is.packet;
      meant = record {
        typed = λ low. absurd (omega (arith, leb-false _ _ h));
        bare = λ high. (drop_of_length-le whole {i = 4} (omega (arith, bare high, is.long)), refl, refl);
      };
      known = (least, most);
    })

-- an EAP packet has its fields
pub EapOf-eap_of : (octets : List ℕ) → IsOctets octets → EapOf octets (eap_of octets)
EapOf-eap_of octets fits =
    if_cases (EapOf octets) (nat_lt (length octets) 4) _ _ (λ h. ltb-true _ _ h) (λ long.
    let there = ltb-false _ _ long in
    let code = slice_index octets 0 in
    if_cases (EapOf octets) (not (is_code code)) _ _ (λ h. (there, no_code code h)) (λ coded.
    let known : (1 ≤ code) × (code ≤ 4) = a_code code coded in
    if_cases (EapOf octets) (is_bad_length code (pair octets 2) (length octets)) _ _ (λ h. (there, known.0, known.1, bad_length _ _ _ h)) (λ fine.
    let good : (pair octets 2 ≤ length octets) × (code ≤ 2 → 5 ≤ pair octets 2) × (3 ≤ code → pair octets 2 ≡ 4) = good_length _ _ _ fine in
    let least : 4 ≤ pair octets 2 = at_least_four code (pair octets 2) good.1 good.2 in
    let whole = IsWhole-take octets fits least good.0 in
    let same = whole.first in
    IsEap-fields_of octets _ _ whole (omega arith) (omega arith) (λ low. good.1 (omega arith)) (λ high. good.2 (omega arith)))))

-- what stands where a packet has its parts
record HasParts (octets : List ℕ) (eap : Eap) (carried : List ℕ) : Type 0 where
  pub least : 4 ≤ length eap.whole
  pub most : length eap.whole ≤ length octets
  pub first : slice_index octets 0 ≡ eap.code
  pub length_is : pair octets 2 ≡ length eap.whole
  pub whole_is : take (pair octets 2) octets ≡ eap.whole
  pub code_is : slice_index eap.whole 0 ≡ eap.code
  pub id_is : slice_index eap.whole 1 ≡ eap.id
  pub back : drop 4 eap.whole ≡ carried

HasParts-from : (octets : List ℕ) (eap : Eap) (h : IsEap octets eap) → HasParts octets eap h.carried
HasParts-from octets eap h =
    let least : 4 ≤ length eap.whole = omega (arith, ap length h.packet) in
    let at_front : (k : ℕ) → k < 4 → slice_index octets k ≡ slice_index eap.whole k =
    λ k low. ap (λ xs. slice_index xs k) h.split ∙ get_or_append_left eap.whole h.padding 0 k (omega arith) in
    let code_is : slice_index eap.whole 0 ≡ eap.code = ap (λ xs. slice_index xs 0) h.packet in
    let number : pair eap.whole 2 ≡ length eap.whole = ap (λ xs. pair xs 2) h.packet ∙ pair_of_two (length eap.whole) in
    let length_is : pair octets 2 ≡ length eap.whole = omega (arith, at_front 2 (lit≤ tt), at_front 3 (lit≤ tt)) in record {
      least = least;
      most = omega (arith, ap length h.split, length-append eap.whole h.padding);
      first = at_front 0 (lit≤ tt) ∙ code_is;
      length_is = length_is;
      whole_is = ap₂ take length_is h.split ∙ take_at eap.whole h.padding (length eap.whole) refl;
      code_is = code_is;
      id_is = ap (λ xs. slice_index xs 1) h.packet;
      back = ap (drop 4) h.packet;
    }

same_eap : (e f : Eap) → e.code ≡ f.code → e.id ≡ f.id → e.kind ≡ f.kind → e.rest ≡ f.rest → e.whole ≡ f.whole → e ≡ f
same_eap e f code id kind rest whole =
    let made : (code id kind : ℕ) (rest whole : List ℕ) → Eap = λ code id kind rest whole. record { code = code; id = id; kind = kind; rest = rest; whole = whole } in
    ap (λ x. made x e.id e.kind e.rest e.whole) code
    ∙ ap (λ x. made f.code x e.kind e.rest e.whole) id
    ∙ ap (λ x. made f.code f.id x e.rest e.whole) kind
    ∙ ap (λ x. made f.code f.id f.kind x e.whole) rest
    ∙ ap (λ x. made f.code f.id f.kind f.rest x) whole

fields_of_whole : (octets : List ℕ) (eap : Eap) → IsEap octets eap → eap ≡ fields_of eap.whole
fields_of_whole octets eap h =
    let parts = HasParts-from octets eap h in
    if_cases (λ f. eap ≡ f) (nat_le (slice_index eap.whole 0) 2) _ _
    (λ low.
    let carried = parts.back ∙ h.meant.typed (omega (arith, leb-true _ _ low)) in
    let kind : slice_index eap.whole 4 ≡ eap.kind = sym (get_or-drop 4 eap.whole 0 0) ∙ ap (λ xs. slice_index xs 0) carried in
    let rest : drop 5 eap.whole ≡ eap.rest = sym (drop-drop 1 4 eap.whole) ∙ ap (drop 1) carried in
    same_eap eap _ (sym parts.code_is) (sym parts.id_is) (sym kind) (sym rest) refl)
    (λ high.
    let bare = h.meant.bare (omega (arith, leb-false _ _ high)) in
    same_eap eap _ (sym parts.code_is) (sym parts.id_is) bare.1 bare.2 refl)

fields_only : (octets : List ℕ) (eap : Eap) → IsEap octets eap → Ok eap ≡ eap_of octets
fields_only octets eap h =
    let parts = HasParts-from octets eap h in
    let same : eap ≡ fields_of (take (pair octets 2) octets) = fields_of_whole octets eap h ∙ ap fields_of (sym parts.whole_is) in
    let long : nat_lt (length octets) 4 ≡ false = le-ltb _ _ (omega arith) in
    let coded = is_known (slice_index octets 0) (omega (arith, h.known)) (omega (arith, h.known)) in
    let good = is_good (slice_index octets 0) (pair octets 2) (length octets) (omega arith)
    (λ low. omega (arith, ap length h.packet, ap length (h.meant.typed (omega arith))))
    (λ high. omega (arith, ap length h.packet, ap length (h.meant.bare (omega arith)).0)) in
    rw (long, coded, good) (ap Ok same)

-- and no others
pub eap_of_only : (octets : List ℕ) (r : Result Eap EapDrop) → EapOf octets r → r ≡ eap_of octets
eap_of_only octets (Err Short) h = grind (arith, nat_tests)
eap_of_only octets (Err BadCode) h = grind (arith, nat_tests)
eap_of_only octets (Err BadLength) (there, least, most, h) = let bad = is_bad _ _ _ h in grind (arith, nat_tests)
eap_of_only octets (Ok eap) h = fields_only octets eap h

-- what is written is a packet with these fields
pub IsEap-identity_request : (id : ℕ) → IsEap (identity_request id) (record { code = 1; id = id; kind = 1; rest = []; whole = identity_request id })
IsEap-identity_request id = record {
  carried = 1 ∷ [];
  padding = [];
  split = refl;
  packet = refl;
  meant = record { typed = λ _. refl; bare = λ high. absurd (omega (arith, high)) };
  known = (lit≤ tt, lit≤ tt);
}

pub IsEap-canned : (success : Bool) (id : ℕ) → IsEap (canned success id) (record { code = if success then 3 else 4; id = id; kind = 0; rest = []; whole = canned success id })
IsEap-canned true id = record {
  carried = [];
  padding = [];
  split = refl;
  packet = refl;
  meant = record { typed = λ low. absurd (omega (arith, low)); bare = λ _. (refl, refl, refl) };
  known = (lit≤ tt, lit≤ tt);
}
IsEap-canned false id = record {
  carried = [];
  padding = [];
  split = refl;
  packet = refl;
  meant = record { typed = λ low. absurd (omega (arith, low)); bare = λ _. (refl, refl, refl) };
  known = (lit≤ tt, lit≤ tt);
}

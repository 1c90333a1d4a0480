-- The fields of a packet, read one octet at a time.
use Rattle.std.proofs.Common.{◌≡◌, ℕ, ◌≤◌, false, List, [], length, slice_index, drop, take, Ok, arith, get_or-take}
use Rattle.std.proofs.lemmas.Bool.Decides.{nat_tests}
use Rattle.wire_defs.specs.Number.{pair}
use Rattle.wire_defs.specs.Eap.{eap_of, is_bad_length}

-- the length of a packet whose code and length go together
typed_length : (code size there : ℕ) → code ≤ 2 → is_bad_length code size there ≡ false → (size ≤ there) × (5 ≤ size)
typed_length code size there low good = (grind (arith, nat_tests), grind (arith, nat_tests))

bare_length : (code size there : ℕ) → 3 ≤ code → is_bad_length code size there ≡ false → (size ≤ there) × (size ≡ 4)
bare_length code size there high good = (grind (arith, nat_tests), grind (arith, nat_tests))

pub typed_read : (octets whole rest : List ℕ) (code id kind size : ℕ) → 4 ≤ length octets → code ≡ slice_index octets 0 → id ≡ slice_index octets 1 → kind ≡ slice_index octets 4 → size ≡ pair octets 2
    → 1 ≤ code → code ≤ 2 → is_bad_length code size (length octets) ≡ false → whole ≡ take size octets → rest ≡ drop 5 whole
    → eap_of octets ≡ Ok (record { code = code; id = id; kind = kind; rest = rest; whole = whole })
typed_read octets whole rest code id kind size there is_code is_id is_kind is_size least most good is_whole is_rest =
    let long : 5 ≤ size = (typed_length code size (length octets) most good).1 in
    let first : slice_index (take size octets) 0 ≡ slice_index octets 0 = get_or-take size octets 0 0 (omega arith) in
    let second : slice_index (take size octets) 1 ≡ slice_index octets 1 = get_or-take size octets 1 0 (omega arith) in
    let fifth : slice_index (take size octets) 4 ≡ slice_index octets 4 = get_or-take size octets 4 0 (omega arith) in
    grind (arith, nat_tests)

pub bare_read : (octets whole rest : List ℕ) (code id size : ℕ) → 4 ≤ length octets → code ≡ slice_index octets 0 → id ≡ slice_index octets 1 → size ≡ pair octets 2
    → 3 ≤ code → code ≤ 4 → is_bad_length code size (length octets) ≡ false → whole ≡ take size octets → rest ≡ []
    → eap_of octets ≡ Ok (record { code = code; id = id; kind = 0; rest = rest; whole = whole })
bare_read octets whole rest code id size there is_code is_id is_size least most good is_whole is_rest =
    let long : size ≡ 4 = (bare_length code size (length octets) least good).1 in
    let first : slice_index (take size octets) 0 ≡ slice_index octets 0 = get_or-take size octets 0 0 (omega arith) in
    let second : slice_index (take size octets) 1 ≡ slice_index octets 1 = get_or-take size octets 1 0 (omega arith) in
    grind (arith, nat_tests)

-- The fields of a frame, read one octet at a time.
use Rattle.std.proofs.Common.{◌≡◌, ℕ, ◌≤◌, List, [], ◌∷◌, length, slice_index, drop, take, Ok, refl, sym, arith, length-drop, le-ltb}
use Rattle.std.proofs.lemmas.List.{get_or-drop}
use Rattle.wire_defs.specs.Number.{pair}
use Rattle.wire_defs.specs.Ethernet.{eth_of}

-- six octets at the front
six_octets : (octets : List ℕ) → 6 ≤ length octets
    → slice_index octets 0 ∷ slice_index octets 1 ∷ slice_index octets 2 ∷ slice_index octets 3 ∷ slice_index octets 4 ∷ slice_index octets 5 ∷ [] ≡ take 6 octets
six_octets (a ∷ b ∷ c ∷ d ∷ e ∷ f ∷ rest) h = refl
six_octets [] h = absurd (omega (arith, h))
six_octets (a ∷ []) h = absurd (omega (arith, h))
six_octets (a ∷ b ∷ []) h = absurd (omega (arith, h))
six_octets (a ∷ b ∷ c ∷ []) h = absurd (omega (arith, h))
six_octets (a ∷ b ∷ c ∷ d ∷ []) h = absurd (omega (arith, h))
six_octets (a ∷ b ∷ c ∷ d ∷ e ∷ []) h = absurd (omega (arith, h))

-- and six after those
next_six : (octets : List ℕ) → 12 ≤ length octets
    → slice_index octets 6 ∷ slice_index octets 7 ∷ slice_index octets 8 ∷ slice_index octets 9 ∷ slice_index octets 10 ∷ slice_index octets 11 ∷ [] ≡ take 6 (drop 6 octets)
next_six octets h =
    let at = λ (k : ℕ). sym (get_or-drop 6 octets k 0) in
    rw (at 0, at 1, at 2, at 3, at 4, at 5) (six_octets (drop 6 octets) (omega (arith, length-drop 6 octets)))

-- two addresses of six octets, a type and a body are the fields of the octets
pub read_by_octets : (octets body : List ℕ) (kind : ℕ) → 14 ≤ length octets → length octets ≤ 1518 → kind ≡ pair octets 12 → body ≡ drop 14 octets
    → eth_of octets ≡ Ok (record {
      to = slice_index octets 0 ∷ slice_index octets 1 ∷ slice_index octets 2 ∷ slice_index octets 3 ∷ slice_index octets 4 ∷ slice_index octets 5 ∷ [];
      source = slice_index octets 6 ∷ slice_index octets 7 ∷ slice_index octets 8 ∷ slice_index octets 9 ∷ slice_index octets 10 ∷ slice_index octets 11 ∷ [];
      kind = kind;
      body = body;
    })
read_by_octets octets body kind least most number rest =
    rw (le-ltb (length octets) 14 least, le-ltb 1518 (length octets) most, six_octets octets (omega arith), next_six octets (omega arith), number, rest) refl

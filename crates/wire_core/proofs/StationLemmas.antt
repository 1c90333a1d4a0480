-- The text of an address, one octet after another.
use Rattle.std.proofs.Common.{◌≡◌, ℕ, ◌+◌, ◌-◌, ◌<◌, one-add, List, [], ◌∷◌, ◌++◌, length, map, sym, ap, ◌∙◌, refl, arith, append_assoc, get_or, take, drop}
use Rattle.std.specs.List.{join_with_byte}
use Rattle.std.proofs.lemmas.List.{take_more, take_rest, map-append, get_or-drop}
use Rattle.wire_defs.specs.Station.{octet_text, station_text}

-- one more piece at the end
join_with_byte-push : (c : ℕ) (x : List ℕ) (ys : List (List ℕ)) (y : List ℕ) → join_with_byte c (x ∷ (ys ++ y ∷ [])) ≡ join_with_byte c (x ∷ ys) ++ (c ∷ y)
join_with_byte-push c x [] y = refl
join_with_byte-push c x (z ∷ zs) y = ap (λ rest. x ++ (c ∷ rest)) (join_with_byte-push c z zs y) ∙ sym (append_assoc x (c ∷ join_with_byte c (z ∷ zs)) (c ∷ y))

-- one more octet
pub station_text-more : (address : List ℕ) (i : ℕ) → 1 + i < length address
    → station_text (take (1 + (i + 1)) address) ≡ (station_text (take (1 + i) address) ++ 45 ∷ []) ++ octet_text (get_or address (1 + i) 0)
station_text-more [] i h = absurd (omega (arith, h))
station_text-more (x ∷ xs) i h =
    let longer : take (1 + (i + 1)) (x ∷ xs) ≡ x ∷ take (i + 1) xs = ap (λ n. take n (x ∷ xs)) (one-add (i + 1)) in
    let shorter : take (1 + i) (x ∷ xs) ≡ x ∷ take i xs = ap (λ n. take n (x ∷ xs)) (one-add i) in
    let next : get_or (x ∷ xs) (1 + i) 0 ≡ get_or xs i 0 = ap (λ n. get_or (x ∷ xs) n 0) (one-add i) in
    rw (longer, shorter, next, take_more xs i 0 (omega arith), map-append octet_text (take i xs) (get_or xs i 0 ∷ []))
    (join_with_byte-push 45 (octet_text x) (map octet_text (take i xs)) (octet_text (get_or xs i 0)) ∙ sym (append_assoc (station_text (x ∷ take i xs)) (45 ∷ []) (octet_text (get_or xs i 0))))

-- an octet after the first, by its place after it
pub after_first : (address : List ℕ) (i : ℕ) → get_or (take (length address - 1) (drop 1 address)) i 0 ≡ get_or address (1 + i) 0
after_first address i = ap (λ rest. get_or rest i 0) (take_rest address 1) ∙ get_or-drop 1 address i 0

-- Octets that a word of hexadecimal digits writes, where there are some.
use Rattle.std.proofs.Math.Seq.{take-append_seam}
use Rattle.std.specs.Prelude.{MatchResult}
use Rattle.std.proofs.Common.{◌≡◌, ℕ, ◌++◌, take, drop, ◌*◌, ◌/◌, ◌<◌, ◌≤◌, Bool, ◌&&◌, true, false, cond, leb, ltb, eqb, ◌⊎◌, inl, inr, List, [], length, codes, Some, None, Result, Ok, Err, refl, sym, ap, ◌∙◌, subst, arith}
use Rattle.std.specs.Str.{bytes_eq}
use Rattle.std.proofs.lemmas.Bool.Decides.{nat_tests}
use Rattle.hex.specs.Hex.{decode_of, decode_sized}
use Rattle.hex.specs.declared.error.FromHexError.{FromHexError}
use Rattle.hex.proofs.HexLemmas.{decode_of-ok, decode_sized-ok, decode_sized-twice}
use Rattle.trace_defs.proofs.OctetText.{dash_is_one}
use Rattle.trace_defs.specs.Word.{hex_in, sized, decoded}

none_short : (least most n : ℕ) (octets : List ℕ) → n < least → cond (leb least n && leb n most) (Some octets) None ≡ None
none_short least most n octets h = grind (arith, nat_tests)

none_long : (least most n : ℕ) (octets : List ℕ) → most < n → cond (leb least n && leb n most) (Some octets) None ≡ None
none_long least most n octets h = grind (arith, nat_tests)

some_within : (least most n : ℕ) (octets : List ℕ) → least ≤ n → n ≤ most → cond (leb least n && leb n most) (Some octets) None ≡ Some octets
some_within least most n octets low high = grind (arith, nat_tests)

pub hex_in-Ok : (least most : ℕ) (text octets : List ℕ) → decode_of text ≡ Ok octets → 1 ≤ least → least ≤ length octets → length octets ≤ most → hex_in least most text ≡ Some octets
hex_in-Ok least most text octets e some low high = step (bytes_eq text (codes "-")) refl
  where
    step : (b : Bool) → bytes_eq text (codes "-") ≡ b → sized least most (cond b (Some []) (decoded (decode_of text))) ≡ Some octets
    step true dash = absurd (omega (arith, dash_is_one text dash, (decode_of-ok text octets e).2))
    step false dash = ap (λ r. sized least most (decoded r)) e ∙ some_within least most (length octets) octets low high

pub hex_in-Err : (least most : ℕ) (text : List ℕ) (e : FromHexError) → decode_of text ≡ Err e → 1 ≤ least → hex_in least most text ≡ None
hex_in-Err least most text error e some = step (bytes_eq text (codes "-"))
  where
    step : (b : Bool) → sized least most (cond b (Some []) (decoded (decode_of text))) ≡ None
    step true = none_short least most 0 [] some
    step false = ap (λ r. sized least most (decoded r)) e

-- the octets are half as many as the digits
pub hex_in-out : (least most : ℕ) (text : List ℕ) → 1 ≤ least → (length text / 2 < least) ⊎ (most < length text / 2) → hex_in least most text ≡ None
hex_in-out least most text some out = step (decode_of text) refl
  where
    sides : (octets : List ℕ) → length octets ≡ length text / 2 → (length text / 2 < least) ⊎ (most < length text / 2)
        → cond (leb least (length octets) && leb (length octets) most) (Some octets) None ≡ None
    sides octets half (inl low) = none_short least most (length octets) octets (omega arith)
    sides octets half (inr high) = none_long least most (length octets) octets (omega arith)

    within : (b : Bool) (r : Result (List ℕ) FromHexError) → decode_of text ≡ r → sized least most (cond b (Some []) (decoded r)) ≡ None
    within true r e = none_short least most 0 [] some
    within false (Err error) e = refl
    within false (Ok octets) e = sides octets (omega (arith, (decode_of-ok text octets e).2)) out

    step : (r : Result (List ℕ) FromHexError) → decode_of text ≡ r → hex_in least most text ≡ None
    step r e = ap (λ r. sized least most (cond (bytes_eq text (codes "-")) (Some []) (decoded r))) e ∙ within (bytes_eq text (codes "-")) r e

-- exactly so many octets
pub hex_in-sized : (n : ℕ) (text : List ℕ) (r : Result (List ℕ) FromHexError) → 1 ≤ n → decode_sized text n ≡ r → hex_in n n text ≡ decoded r
hex_in-sized n text (Ok octets) some e =
    let twice = decode_sized-ok text n octets e in
    let plain : decode_of text ≡ Ok octets = sym (decode_sized-twice text n twice) ∙ e in
    let long = (decode_of-ok text octets plain).2 in
    hex_in-Ok n n text octets plain some (omega arith) (omega arith)
hex_in-sized n text (Err error) some e = step (decode_of text) refl
  where
    twice_or : (r : Result (List ℕ) FromHexError) → length text ≡ 2 * n → decode_of text ≡ r → hex_in n n text ≡ None
    twice_or r twice is = hex_in-Err n n text error (sym (decode_sized-twice text n twice) ∙ e) some

    step : (r : Result (List ℕ) FromHexError) → decode_of text ≡ r → hex_in n n text ≡ None
    step (Err other) is = hex_in-Err n n text other is some
    step (Ok octets) is = sides octets is (decode_of-ok text octets is).2
      where
        sides : (octets : List ℕ) → decode_of text ≡ Ok octets → length text ≡ 2 * length octets → hex_in n n text ≡ None
        sides octets is twice = both (eqb (length octets) n) refl
          where
            both : (b : Bool) → eqb (length octets) n ≡ b → hex_in n n text ≡ None
            both true same = twice_or (Ok octets) (same_length (length octets) n (length text) same twice) is
              where
                same_length : (m n k : ℕ) → eqb m n ≡ true → k ≡ 2 * m → k ≡ 2 * n
                same_length m n k same twice = grind (arith, nat_tests)
            both false other = hex_in-out n n text some (apart (length octets) n (length text) other twice)
              where
                apart : (m n k : ℕ) → eqb m n ≡ false → k ≡ 2 * m → (k / 2 < n) ⊎ (n < k / 2)
                apart m n k other twice = sort (ltb m n) refl
                  where
                    sort : (b : Bool) → ltb m n ≡ b → (k / 2 < n) ⊎ (n < k / 2)
                    sort true below = inl (grind (arith, nat_tests))
                    sort false above = inr (grind (arith, nat_tests))

-- octets that were decoded into the front of items that are as many
pub secret-Ok : (text items lent out : List ℕ) (r : Result Unit FromHexError) (u : Unit) → lent ≡ items
    → MatchResult (decode_sized text (length lent)) (λ octets. (r ≡ Ok tt) × (out ≡ octets)) (λ e. r ≡ Err e) → r ≡ Ok u
    → 1 ≤ length items → length items ≤ 64 → hex_in 1 64 text ≡ Some (take (length items) (out ++ drop (length out) items))
secret-Ok text items lent out r u all h is low high = step (decode_sized text (length items)) refl (subst (λ l. MatchResult (decode_sized text (length l)) (λ octets. (r ≡ Ok tt) × (out ≡ octets)) (λ e. r ≡ Err e)) all h)
  where
    step : (d : Result (List ℕ) FromHexError) → decode_sized text (length items) ≡ d → MatchResult d (λ octets. (r ≡ Ok tt) × (out ≡ octets)) (λ e. r ≡ Err e)
        → hex_in 1 64 text ≡ Some (take (length items) (out ++ drop (length out) items))
    step (Err e) same h = absurd (cc)
    step (Ok octets) same h =
        let twice = decode_sized-ok text (length items) octets same in
        let plain : decode_of text ≡ Ok octets = sym (decode_sized-twice text (length items) twice) ∙ same in
        let long : length octets ≡ length items = omega (arith, (decode_of-ok text octets plain).2) in
        let front : take (length items) (out ++ drop (length out) items) ≡ octets =
        ap (λ l. take (length items) (l ++ drop (length l) items)) h.1 ∙ ap (λ k. take k (octets ++ drop (length octets) items)) (sym long) ∙ take-append_seam octets (drop (length octets) items) in
        hex_in-Ok 1 64 text octets plain (omega arith) (omega arith) (omega arith) ∙ ap Some (sym front)

pub secret-Err : (text : List ℕ) (n : ℕ) (r : Result Unit FromHexError) (error : FromHexError) (out : List ℕ)
    → MatchResult (decode_sized text n) (λ octets. (r ≡ Ok tt) × (out ≡ octets)) (λ e. r ≡ Err e) → r ≡ Err error
    → n ≡ length text / 2 → hex_in 1 64 text ≡ None
secret-Err text n r error out h is half = step (decode_sized text n) refl h
  where
    step : (d : Result (List ℕ) FromHexError) → decode_sized text n ≡ d → MatchResult d (λ octets. (r ≡ Ok tt) × (out ≡ octets)) (λ e. r ≡ Err e) → hex_in 1 64 text ≡ None
    step (Ok octets) same h = absurd (cc)
    step (Err e) same h = whole (decode_of text) refl
      where
        whole : (w : Result (List ℕ) FromHexError) → decode_of text ≡ w → hex_in 1 64 text ≡ None
        whole (Err other) is = hex_in-Err 1 64 text other is (omega arith)
        whole (Ok octets) is = absurd (contradiction (sym same ∙ decode_sized-twice text n (omega (arith, (decode_of-ok text octets is).2)) ∙ is))
          where
            contradiction : Err e ≡ Ok octets → ⊥
            contradiction e = cc

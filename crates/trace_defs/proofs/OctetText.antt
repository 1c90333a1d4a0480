-- Printed octets and words to choose from, read again.
use Rattle.std.proofs.Common.{◌≡◌, ℕ, suc, ◌+◌, ◌*◌, ◌/◌, ◌%◌, ◌<◌, ◌≤◌, Bool, ◌&&◌, true, false, cond, eqb, leb, List, [], ◌∷◌, length, slice_index, codes, Some, None, Result, Ok, Err, refl, ap, ◌∙◌, subst, arith}
use Rattle.std.specs.List.{list_all}
use Rattle.std.specs.Str.{bytes_eq}
use Rattle.std.proofs.lemmas.Bool.{and_from, agree_below_at}
use Rattle.std.proofs.lemmas.Bool.Decides.{nat_tests}
use Rattle.hex.specs.Hex.{IsBytes, decode_of, encode_with, encode_lower, lower_digits}
use Rattle.hex.specs.declared.error.FromHexError.{FromHexError}
use Rattle.hex.proofs.HexLemmas.{decode_of-ok, decode_of-encode_lower, length-encode_with}
use Rattle.machine_vars.specs.declared.control.Control.{Control as PortControl}
use Rattle.machine_vars.specs.declared.control.Control.TheVariants.{Auto, ForceAuth, ForceUnauth}
use Rattle.trace_defs.specs.Word.{hex_in, sized, decoded, name_of, control_of, link_of, switch_of}
use Rattle.trace_defs.specs.Text.{octets_text, control_text, link_text, switch_text}
use Rattle.trace_defs.proofs.PlainWords.{IsWord, word_by_test}
use Rattle.trace_defs.specs.Sized.{is_glyph, IsSized}

-- ---- octets

within : (least most n : ℕ) (octets : List ℕ) → least ≤ n → n ≤ most → cond (leb least n && leb n most) (Some octets) None ≡ Some octets
within least most n octets low high = grind (arith, nat_tests)

pub dash_is_one : (text : List ℕ) → bytes_eq text (codes "-") ≡ true → length text ≡ 1
dash_is_one [] h = absurd (cc)
dash_is_one (x ∷ []) h = refl
dash_is_one (x ∷ y ∷ rest) h = absurd (longer (eqb x 45) h)
  where
    longer : (b : Bool) → (b && false) ≡ true → ⊥
    longer true h = cc
    longer false h = cc

pub hex_back : (least most : ℕ) (xs : List ℕ) → IsSized least most xs → 1 ≤ length xs → hex_in least most (encode_lower xs) ≡ Some xs
hex_back least most xs h some = step (bytes_eq (encode_lower xs) (codes "-")) refl
  where
    step : (b : Bool) → bytes_eq (encode_lower xs) (codes "-") ≡ b → sized least most (cond b (Some []) (decoded (decode_of (encode_lower xs)))) ≡ Some xs
    step true dash = absurd (omega (arith, dash_is_one (encode_lower xs) dash, length-encode_with lower_digits xs))
    step false dash = ap (λ r. sized least most (decoded r)) (decode_of-encode_lower xs h.octets) ∙ within least most (length xs) xs h.low h.high

pub octets_back : (most : ℕ) (xs : List ℕ) → IsSized 0 most xs → hex_in 0 most (octets_text xs) ≡ Some xs
octets_back most [] h = within 0 most 0 [] (omega arith) (omega arith)
octets_back most (x ∷ xs) h = hex_back 0 most (x ∷ xs) h (omega arith)

pub hex_in-some : (least most : ℕ) (word xs : List ℕ) → hex_in least most word ≡ Some xs → IsSized least most xs
hex_in-some least most word xs h = dash (bytes_eq word (codes "-")) h
  where
    in_size : (octets : List ℕ) → IsBytes octets → cond (leb least (length octets) && leb (length octets) most) (Some octets) None ≡ Some xs → IsSized least most xs
    in_size octets fits e = subst (IsSized least most) (same (length octets) octets e) (record { low = (sides (length octets) octets e).0; high = (sides (length octets) octets e).1; octets = fits })
      where
        same : (n : ℕ) (octets : List ℕ) → cond (leb least n && leb n most) (Some octets) None ≡ Some xs → octets ≡ xs
        same n octets e = chosen (leb least n && leb n most) e
          where
            chosen : (b : Bool) → cond b (Some octets) None ≡ Some xs → octets ≡ xs
            chosen true e = cc
            chosen false e = absurd (cc)

        sides : (n : ℕ) (octets : List ℕ) → cond (leb least n && leb n most) (Some octets) None ≡ Some xs → (least ≤ n) × (n ≤ most)
        sides n octets e = grind (arith, nat_tests)

    read : (r : Result (List ℕ) FromHexError) → decode_of word ≡ r → sized least most (decoded r) ≡ Some xs → IsSized least most xs
    read (Ok octets) is e = in_size octets (decode_of-ok word octets is).3 e
    read (Err error) is e = absurd (cc)

    dash : (b : Bool) → sized least most (cond b (Some []) (decoded (decode_of word))) ≡ Some xs → IsSized least most xs
    dash true e = in_size [] (λ k. omega arith) e
    dash false e = read (decode_of word) refl e

abbrev digit : ℕ → Bool
digit k = is_glyph (slice_index lower_digits k)

hex_glyphs : (xs : List ℕ) → IsBytes xs → list_all is_glyph (encode_lower xs) ≡ true
unfolding encode_with
hex_glyphs [] h = refl
hex_glyphs (x ∷ xs) h =
    let fits : x < 256 = h 0 in
    and_from (digit (x / 16)) (digit (x % 16) && list_all is_glyph (encode_lower xs)) (glyph (x / 16) (omega arith))
    (and_from (digit (x % 16)) (list_all is_glyph (encode_lower xs)) (glyph (x % 16) (omega arith)) (hex_glyphs xs (λ k. h (suc k))))
  where
    glyph : (k : ℕ) → k < 16 → is_glyph (slice_index lower_digits k) ≡ true
    glyph k h = agree_below_at (λ k. is_glyph (slice_index lower_digits k)) (λ k. true) 16 k refl h

pub hex_word : (least most : ℕ) (xs : List ℕ) → IsSized least most xs → 1 ≤ length xs → IsWord (2 * most) (encode_lower xs)
hex_word least most xs h some =
    let long = length-encode_with lower_digits xs in
    record { some = omega (arith, long); long = omega (arith, long, h.high); plain = hex_glyphs xs h.octets }

pub octets_word : (most : ℕ) (xs : List ℕ) → IsSized 0 most xs → IsWord (2 * most + 1) (octets_text xs)
octets_word most [] h = record { some = omega arith; long = omega arith; plain = refl }
octets_word most (x ∷ xs) h =
    let word = hex_word 0 most (x ∷ xs) h (omega arith) in
    record { some = word.some; long = omega (arith, word.long); plain = word.plain }

-- ---- words to choose from

pub control_back : (control : PortControl) → control_of (control_text control) ≡ Some control
control_back Auto = refl
control_back ForceAuth = refl
control_back ForceUnauth = refl

pub control_word : (control : PortControl) → IsWord 12 (control_text control)
control_word Auto = word_by_test 12 (codes "auto") refl
control_word ForceAuth = word_by_test 12 (codes "force-auth") refl
control_word ForceUnauth = word_by_test 12 (codes "force-unauth") refl

pub link_back : (up : Bool) → link_of (link_text up) ≡ Some up
link_back true = refl
link_back false = refl

pub link_word : (up : Bool) → IsWord 4 (link_text up)
link_word true = word_by_test 4 (codes "up") refl
link_word false = word_by_test 4 (codes "down") refl

pub switch_back : (on : Bool) → switch_of (switch_text on) ≡ Some on
switch_back true = refl
switch_back false = refl

pub switch_word : (on : Bool) → IsWord 4 (switch_text on)
switch_word true = word_by_test 4 (codes "on") refl
switch_word false = word_by_test 4 (codes "off") refl

pub name_of-some : (word name : List ℕ) → name_of word ≡ Some name → (word ≡ name) × (length name ≤ 32)
name_of-some word name h = chosen (leb (length word) 32) refl h
  where
    chosen : (b : Bool) → leb (length word) 32 ≡ b → cond b (Some word) None ≡ Some name → (word ≡ name) × (length name ≤ 32)
    chosen true short e =
        let same : word ≡ name = inside word e in
        (same, subst (λ l. length l ≤ 32) same (few (length word) short))
      where
        inside : (word : List ℕ) → Some word ≡ Some name → word ≡ name
        inside word e = cc

        few : (n : ℕ) → leb n 32 ≡ true → n ≤ 32
        few n h = grind (arith, nat_tests)
    chosen false short e = absurd (cc)

pub name_back : (name : List ℕ) → length name ≤ 32 → name_of name ≡ Some name
name_back name h = ap (λ b. cond b (Some name) None) (few (length name) h)
  where
    few : (n : ℕ) → n ≤ 32 → leb n 32 ≡ true
    few n h = grind (arith, nat_tests)

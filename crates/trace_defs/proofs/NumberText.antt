-- A printed number or address, read again.
use Rattle.std.proofs.Common.{◌≡◌, ℕ, zero, suc, ◌^◌, ◌<◌, ◌≤◌, Bool, ◌&&◌, ◌||◌, not, true, false, cond, eqb, ltb, leb, List, [], ◌∷◌, ◌++◌, length, slice_index, Option, Some, None, refl, sym, ap, ◌∙◌, subst, arith, append-nil, length-append}
use Rattle.std.specs.List.{slice_split, All, list_all}
use Rattle.std.specs.Char.{is_ascii_digit, digit_value}
use Rattle.std.specs.Fmt.{decimal}
use Rattle.std.specs.Str.Parse.{AllDigits, digits_value}
use Rattle.std.proofs.lemmas.Bool.{and_parts, and_from}
use Rattle.std.proofs.lemmas.Bool.Decides.{nat_tests}
use Rattle.std.proofs.lemmas.Fmt.{decimal_is_IsNumeral, decimal_digit, first_decimal, length-decimal-le}
use Rattle.std.proofs.lemmas.List.Elements.{All-nil, All-cons}
use Rattle.std.proofs.lemmas.List.Folds.{list_all-append}
use Rattle.std.proofs.lemmas.List.Splits.{slice_split_at, slice_split_none}
use Rattle.std.proofs.lemmas.Str.Parse.{digit_from_value}
use Rattle.wire_defs.specs.Number.{number_in, is_number}
use Rattle.trace_defs.specs.Word.{four_of, address_of}
use Rattle.trace_defs.specs.Text.{dotted}
use Rattle.trace_defs.proofs.PlainWords.{IsWord, weaker}
use Rattle.trace_defs.specs.Sized.{is_glyph, IsAddress}

-- ---- numbers

all_digits : (text : List ℕ) → AllDigits 10 text → list_all is_ascii_digit text ≡ true
all_digits [] h = refl
all_digits (x ∷ text) h = and_from (is_ascii_digit x) (list_all is_ascii_digit text) (one x h.0) (all_digits text h.1)
  where
    one : (x : ℕ) → digit_value x < 10 → is_ascii_digit x ≡ true
    one x h = in_range x (digit_from_value x h).0 (digit_from_value x h).1
      where
        in_range : (x : ℕ) → 48 ≤ x → x ≤ 57 → is_ascii_digit x ≡ true
        in_range x low high = grind (arith, nat_tests)

decimal_digits : (n : ℕ) → n < 2 ^ 64 → list_all is_ascii_digit (decimal n) ≡ true
decimal_digits n h = all_digits (decimal n) (decimal_is_IsNumeral n h).0.1

decimal_glyphs : (n : ℕ) → n < 2 ^ 64 → list_all is_glyph (decimal n) ≡ true
decimal_glyphs n h = weaker is_ascii_digit is_glyph each (decimal n) (decimal_digits n h)
  where
    each : (x : ℕ) → is_ascii_digit x ≡ true → is_glyph x ≡ true
    each x h = grind (arith, nat_tests)

decimal_long : (n : ℕ) → n < 2 ^ 64 → length (decimal n) ≤ 20
decimal_long n h = length-decimal-le 20 n (omega arith) (omega arith) h

pub number_word : (n : ℕ) → n < 2 ^ 64 → IsWord 20 (decimal n)
number_word n h = record { some = (decimal_is_IsNumeral n h).0.0; long = decimal_long n h; plain = decimal_glyphs n h }

is_number-decimal : (n : ℕ) → n < 2 ^ 64 → is_number (decimal n) ≡ true
is_number-decimal n h =
    all_three (ltb 0 (length (decimal n))) (list_all is_ascii_digit (decimal n)) (leb (length (decimal n)) 1 || not (eqb (slice_index (decimal n) 0) 48))
    (some_long (length (decimal n)) (decimal_is_IsNumeral n h).0.0) (decimal_digits n h) (first n h)
  where
    all_three : (a b c : Bool) → a ≡ true → b ≡ true → c ≡ true → (a && b && c) ≡ true
    all_three a b c ha hb hc = rw (ha, hb, hc) refl

    some_long : (n : ℕ) → 0 < n → ltb 0 n ≡ true
    some_long n h = grind (arith, nat_tests)

    first : (n : ℕ) → n < 2 ^ 64 → (leb (length (decimal n)) 1 || not (eqb (slice_index (decimal n) 0) 48)) ≡ true
    first zero h = ap (λ text. leb (length text) 1 || not (eqb (slice_index text 0) 48)) (decimal_digit 0 (omega arith))
    first (suc n) h = other (leb (length (decimal (suc n))) 1) (slice_index (decimal (suc n)) 0) (first_decimal (suc n) (omega arith) h)
      where
        other : (b : Bool) (x : ℕ) → 48 < x → (b || not (eqb x 48)) ≡ true
        other true x h = refl
        other false x h = grind (arith, nat_tests)

pub number_back : (least most n : ℕ) → least ≤ n → n ≤ most → n < 2 ^ 64 → number_in least most (decimal n) ≡ Some n
number_back least most n low high small =
    ap (λ b. cond (b && (leb least (digits_value 10 (decimal n)) && leb (digits_value 10 (decimal n)) most)) (Some (digits_value 10 (decimal n))) None) (is_number-decimal n small)
    ∙ ap (λ v. cond (leb least v && leb v most) (Some v) None) (decimal_is_IsNumeral n small).1
    ∙ inside least most n low high
  where
    inside : (least most n : ℕ) → least ≤ n → n ≤ most → cond (leb least n && leb n most) (Some n) None ≡ Some n
    inside least most n low high = grind (arith, nat_tests)

pub number_in-some : (least most : ℕ) (word : List ℕ) (n : ℕ) → number_in least most word ≡ Some n → (least ≤ n) × (n ≤ most)
number_in-some least most word n h = step (is_number word) least most (digits_value 10 word) n h
  where
    step : (b : Bool) (least most v n : ℕ) → cond (b && (leb least v && leb v most)) (Some v) None ≡ Some n → (least ≤ n) × (n ≤ most)
    step b least most v n h = grind (arith, nat_tests)

-- ---- addresses

no_dot : (n : ℕ) → n ≤ 255 → All (λ x. eqb x 46 ≡ false) (decimal n)
no_dot n h = others (decimal n) (decimal_digits n (omega arith))
  where
    others : (text : List ℕ) → list_all is_ascii_digit text ≡ true → All (λ x. eqb x 46 ≡ false) text
    others [] h = All-nil (λ x. eqb x 46 ≡ false)
    others (x ∷ text) h =
        let parts = and_parts (is_ascii_digit x) (list_all is_ascii_digit text) h in
        All-cons (λ x. eqb x 46 ≡ false) x text (other x parts.0) (others text parts.1)
      where
        other : (x : ℕ) → is_ascii_digit x ≡ true → eqb x 46 ≡ false
        other x h = grind (arith, nat_tests)

four_back : (wa wb wc wd : List ℕ) (a b c d : ℕ) → number_in 0 255 wa ≡ Some a → number_in 0 255 wb ≡ Some b → number_in 0 255 wc ≡ Some c → number_in 0 255 wd ≡ Some d
    → four_of (wa ∷ wb ∷ wc ∷ wd ∷ []) ≡ Some (a ∷ b ∷ c ∷ d ∷ [])
four_back wa wb wc wd a b c d ea eb ec ed = rw (ea, eb, ec, ed) refl

octet_back : (n : ℕ) → n ≤ 255 → number_in 0 255 (decimal n) ≡ Some n
octet_back n h = number_back 0 255 n (omega arith) h (omega arith)

pub address_back : (ip : List ℕ) → IsAddress ip → address_of (dotted ip) ≡ Some ip
address_back (a ∷ b ∷ c ∷ d ∷ []) h =
    ap four_of (
    slice_split_at (λ x. eqb x 46) (decimal a) 46 (decimal b ++ 46 ∷ (decimal c ++ 46 ∷ (decimal d ++ []))) (no_dot a h.0) refl
    ∙ ap (λ l. decimal a ∷ l) (slice_split_at (λ x. eqb x 46) (decimal b) 46 (decimal c ++ 46 ∷ (decimal d ++ [])) (no_dot b h.1) refl)
    ∙ ap (λ l. decimal a ∷ decimal b ∷ l) (slice_split_at (λ x. eqb x 46) (decimal c) 46 (decimal d ++ []) (no_dot c h.2) refl)
    ∙ ap (λ l. decimal a ∷ decimal b ∷ decimal c ∷ slice_split (λ x. eqb x 46) l) (append-nil (decimal d))
    ∙ ap (λ l. decimal a ∷ decimal b ∷ decimal c ∷ l) (slice_split_none (λ x. eqb x 46) (decimal d) (no_dot d h.3))
    )
    ∙ four_back (decimal a) (decimal b) (decimal c) (decimal d) a b c d (octet_back a h.0) (octet_back b h.1) (octet_back c h.2) (octet_back d h.3)
address_back other h = absurd h

pub address_of-some : (word ip : List ℕ) → address_of word ≡ Some ip → IsAddress ip
address_of-some word ip h = parts (slice_split (λ x. eqb x 46) word) h
  where
    nothing : None ≡ Some ip → ⊥
    nothing e = cc

    parts : (words : List (List ℕ)) → four_of words ≡ Some ip → IsAddress ip
    parts (wa ∷ wb ∷ wc ∷ wd ∷ []) h = step (number_in 0 255 wa) (number_in 0 255 wb) (number_in 0 255 wc) (number_in 0 255 wd) refl refl refl refl
      where
        step : (oa ob oc od : Option ℕ) → number_in 0 255 wa ≡ oa → number_in 0 255 wb ≡ ob → number_in 0 255 wc ≡ oc → number_in 0 255 wd ≡ od → IsAddress ip
        step (Some a) (Some b) (Some c) (Some d) ea eb ec ed =
            subst IsAddress (same (a ∷ b ∷ c ∷ d ∷ []) (sym (four_back wa wb wc wd a b c d ea eb ec ed) ∙ h))
            ((number_in-some 0 255 wa a ea).1, (number_in-some 0 255 wb b eb).1, (number_in-some 0 255 wc c ec).1, (number_in-some 0 255 wd d ed).1)
          where
            same : (jp : List ℕ) → Some jp ≡ Some ip → jp ≡ ip
            same jp e = cc
        step None ob oc od ea eb ec ed = absurd (nothing (sym (rw ea refl) ∙ h))
        step (Some a) None oc od ea eb ec ed = absurd (nothing (sym (rw (ea, eb) refl) ∙ h))
        step (Some a) (Some b) None od ea eb ec ed = absurd (nothing (sym (rw (ea, eb, ec) refl) ∙ h))
        step (Some a) (Some b) (Some c) None ea eb ec ed = absurd (nothing (sym (rw (ea, eb, ec, ed) refl) ∙ h))
    parts other h = absurd (nothing h)

pub address_word : (ip : List ℕ) → IsAddress ip → IsWord 83 (dotted ip)
address_word (a ∷ b ∷ c ∷ d ∷ []) h =
    let la = number_word a (omega (arith, h.0)) in
    let lb = number_word b (omega (arith, h.1)) in
    let lc = number_word c (omega (arith, h.2)) in
    let ld = number_word d (omega (arith, h.3)) in
    let rd = decimal d ++ [] in
    let rc = decimal c ++ 46 ∷ rd in
    let rb = decimal b ++ 46 ∷ rc in
    let pd : list_all is_glyph rd ≡ true = ap (list_all is_glyph) (append-nil (decimal d)) ∙ ld.plain in
    let pc : list_all is_glyph rc ≡ true = dot (decimal c) rd lc.plain pd in
    let pb : list_all is_glyph rb ≡ true = dot (decimal b) rc lb.plain pc in
    let nd = length-append (decimal d) [] in
    let nc = length-append (decimal c) (46 ∷ rd) in
    let nb = length-append (decimal b) (46 ∷ rc) in
    let na = length-append (decimal a) (46 ∷ rb) in
    record {
      some = omega (arith, na);
      long = omega (arith, na, nb, nc, nd, la.long, lb.long, lc.long, ld.long);
      plain = dot (decimal a) rb la.plain pb;
    }
  where
    dot : (text rest : List ℕ) → list_all is_glyph text ≡ true → list_all is_glyph rest ≡ true → list_all is_glyph (text ++ 46 ∷ rest) ≡ true
    dot text rest h k = list_all-append is_glyph text (46 ∷ rest) ∙ and_from (list_all is_glyph text) (list_all is_glyph rest) h k
address_word other h = absurd h

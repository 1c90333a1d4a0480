-- A text that is fed in pieces, and what is kept of its lines.
use Rattle.std.proofs.Common.{◌≡◌, ℕ, suc, ◌+◌, ◌<◌, ◌≤◌, Bool, true, false, cond, eqb, ltb, List, [], ◌∷◌, ◌++◌, length, take, get_or, get_or-take, eqb-true, refl, sym, ap, ◌∙◌, subst, arith, append-nil, append_assoc, length-take, take_all, Some, None, option_map}
use Rattle.std.specs.List.{before_first, position_or_len}
use Rattle.std.proofs.lemmas.List.{take_more}
use Rattle.std.proofs.lemmas.List.Sums.{fails_before_first, passes_at_first}
use Rattle.std.proofs.lemmas.Bool.Decides.{nat_tests}
use Rattle.wire_defs.specs.Text.{ended_after, open_after, ended_lines, open_line, last_line}
use Rattle.wire_defs.proofs.TextLemmas.{ended_lines-append, open_line-append, ended_lines-feed}
use Rattle.trace_defs.specs.Alike.{ReadAlike, AreReadAlike, IsFed, all_lines, is_line_feed, len_to_feed}
use Rattle.trace_defs.proofs.AlikeLemmas.{ReadAlike-none}

-- octets that are no line feed belong to the open line
plain : (part xs : List ℕ) → ((k : ℕ) → k < length xs → eqb (get_or xs k 0) 10 ≡ false) → (ended_after part xs ≡ []) × (open_after part xs ≡ part ++ xs)
plain part [] h = (refl, sym (append-nil part))
plain part (x ∷ xs) h =
    let none : eqb x 10 ≡ false = h 0 (omega arith) in
    let more = plain (part ++ x ∷ []) xs (λ k l. h (suc k) (omega arith)) in (
      ap (λ b. cond b (part ∷ ended_after [] xs) (ended_after (part ++ x ∷ []) xs)) none ∙ more.0,
      ap (λ b. cond b (open_after [] xs) (open_after (part ++ x ∷ []) xs)) none ∙ more.1 ∙ append_assoc part (x ∷ []) xs,
    )

plain_after : (fed xs : List ℕ) → ((k : ℕ) → k < length xs → eqb (get_or xs k 0) 10 ≡ false)
    → (ended_lines (fed ++ xs) ≡ ended_lines fed) × (open_line (fed ++ xs) ≡ open_line fed ++ xs)
plain_after fed xs h =
    let parts = plain (open_line fed) xs h in (
      ended_lines-append fed xs ∙ ap (λ l. ended_lines fed ++ l) parts.0 ∙ append-nil (ended_lines fed),
      open_line-append fed xs ∙ parts.1,
    )

-- no line feed stands before the first
pub before_is_plain : (piece : List ℕ) (k : ℕ) → k < length (before_first is_line_feed piece) → eqb (get_or (before_first is_line_feed piece) k 0) 10 ≡ false
before_is_plain piece k h =
    let m = position_or_len is_line_feed piece in
    let low : k < m = omega (arith, length-take m piece) in
    ap (λ x. eqb x 10) (get_or-take m piece k 0 low) ∙ fails_before_first is_line_feed piece k 0 low

-- where a piece has none, all of it stands before the first
pub before_none : (piece : List ℕ) → len_to_feed piece ≡ None → before_first is_line_feed piece ≡ piece
before_none piece h = take_all (position_or_len is_line_feed piece) piece (step (ltb (position_or_len is_line_feed piece) (length piece)) refl h)
  where
    step : (b : Bool) → ltb (position_or_len is_line_feed piece) (length piece) ≡ b → option_map (λ at. at + 1) (cond b (Some (position_or_len is_line_feed piece)) None) ≡ None
        → length piece ≤ position_or_len is_line_feed piece
    step true e h = absurd (cc)
    step false e h = grind (arith, nat_tests)

-- where it has one
pub before_some : (piece : List ℕ) (n : ℕ) → len_to_feed piece ≡ Some n → (n ≤ length piece) × (take n piece ≡ before_first is_line_feed piece ++ 10 ∷ [])
before_some piece n h =
    let m = position_or_len is_line_feed piece in
    let found : (m < length piece) × (n ≡ m + 1) = step (ltb m (length piece)) refl h in
    let feed : get_or piece m 0 ≡ 10 = eqb-true (get_or piece m 0) 10 (passes_at_first is_line_feed piece 0 found.0) in (
      omega arith,
      ap (λ k. take k piece) found.1 ∙ take_more piece m 0 found.0 ∙ ap (λ x. take m piece ++ x ∷ []) feed,
    )
  where
    step : (b : Bool) → ltb (position_or_len is_line_feed piece) (length piece) ≡ b
        → option_map (λ at. at + 1) (cond b (Some (position_or_len is_line_feed piece)) None) ≡ Some n
        → (position_or_len is_line_feed piece < length piece) × (n ≡ position_or_len is_line_feed piece + 1)
    step true e h = (grind (arith, nat_tests), cc)
    step false e h = absurd (cc)

-- one line more of each text
AreReadAlike-more : (kept lines : List (List ℕ)) (text line : List ℕ) → AreReadAlike kept lines → ReadAlike text line → AreReadAlike (kept ++ text ∷ []) (lines ++ line ∷ [])
AreReadAlike-more [] [] text line hs h = (h, tt)
AreReadAlike-more [] (l ∷ lines) text line hs h = absurd hs
AreReadAlike-more (k ∷ kept) [] text line hs h = absurd hs
AreReadAlike-more (k ∷ kept) (l ∷ lines) text line hs h = (hs.0, AreReadAlike-more kept lines text line hs.1 h)

-- nothing was fed
pub IsFed-none : IsFed [] [] []
IsFed-none = record { each_line = tt; begun_line = ReadAlike-none }

-- a piece without a line feed
pub IsFed-piece : (fed piece : List ℕ) (lines : List (List ℕ)) (old new : List ℕ) → IsFed fed lines old → len_to_feed piece ≡ None
    → ReadAlike new (open_line fed ++ before_first is_line_feed piece) → IsFed (fed ++ piece) lines new
IsFed-piece fed piece lines old new h none e =
    let whole = before_none piece none in
    let parts = plain_after fed (before_first is_line_feed piece) (before_is_plain piece) in
    subst (λ l. IsFed (fed ++ l) lines new) whole (record {
      each_line = subst (AreReadAlike lines) (sym parts.0) h.each_line;
      begun_line = subst (ReadAlike new) (sym parts.1) e;
    })

-- the piece up to a line feed ends a line
pub IsFed-line : (fed piece : List ℕ) (lines : List (List ℕ)) (old new : List ℕ) (n : ℕ) → IsFed fed lines old → len_to_feed piece ≡ Some n
    → ReadAlike new (open_line fed ++ before_first is_line_feed piece) → IsFed (fed ++ take n piece) (lines ++ new ∷ []) []
IsFed-line fed piece lines old new n h some e =
    let before = before_first is_line_feed piece in
    let parts = plain_after fed before (before_is_plain piece) in
    let text : (fed ++ before) ++ 10 ∷ [] ≡ fed ++ take n piece = append_assoc fed before (10 ∷ []) ∙ ap (λ l. fed ++ l) (sym (before_some piece n some).1) in
    subst (λ l. IsFed l (lines ++ new ∷ []) []) text (record {
      each_line = subst (AreReadAlike (lines ++ new ∷ [])) (ended fed before parts.0 parts.1) (AreReadAlike-more lines (ended_lines fed) new (open_line fed ++ before) h.each_line e);
      begun_line = subst (ReadAlike []) (sym (open_line-append (fed ++ before) (10 ∷ []))) ReadAlike-none;
    })
  where
    ended : (fed before : List ℕ) → ended_lines (fed ++ before) ≡ ended_lines fed → open_line (fed ++ before) ≡ open_line fed ++ before
        → ended_lines fed ++ (open_line fed ++ before) ∷ [] ≡ ended_lines ((fed ++ before) ++ 10 ∷ [])
    ended fed before same rest =
        ap (λ l. l ++ (open_line fed ++ before) ∷ []) (sym same) ∙ ap (λ x. ended_lines (fed ++ before) ++ x ∷ []) (sym rest) ∙ sym (ended_lines-feed (fed ++ before) [])

-- the end of a text: what is kept of its open line is the last line where it is not empty
pub IsFed-last : (fed : List ℕ) (lines : List (List ℕ)) (kept : List ℕ) → IsFed fed lines kept → 0 < length kept → AreReadAlike (lines ++ kept ∷ []) (all_lines fed)
IsFed-last fed lines kept h some =
    subst (AreReadAlike (lines ++ kept ∷ [])) (ap (λ l. ended_lines fed ++ l) (last_is (open_line fed) (λ e. absurd (omega (arith, ap length (h.begun_line.some e), some)))))
    (AreReadAlike-more lines (ended_lines fed) kept (open_line fed) h.each_line h.begun_line)
  where
    last_is : (line : List ℕ) → (line ≡ [] → ⊥) → line ∷ [] ≡ last_line line
    last_is [] h = absurd (h refl)
    last_is (x ∷ line) h = refl

pub IsFed-end : (fed : List ℕ) (lines : List (List ℕ)) (kept : List ℕ) → IsFed fed lines kept → kept ≡ [] → AreReadAlike lines (all_lines fed)
IsFed-end fed lines kept h none =
    subst (AreReadAlike lines) (sym (ap (λ l. ended_lines fed ++ last_line l) (h.begun_line.none none) ∙ append-nil (ended_lines fed))) h.each_line

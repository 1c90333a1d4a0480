-- The words of a text, one after another.
use Rattle.std.proofs.Common.{◌≡◌, ◌≢◌, ℕ, zero, suc, ◌+◌, ◌-◌, ◌<◌, ◌≤◌, true, false, eqb, List, [], ◌∷◌, ◌++◌, length, take, drop, get_or, refl, sym, ap, ◌∙◌, subst, arith, take-append-drop, length-drop, add-one, drop-cons, None}
use Rattle.std.specs.List.{slice_split, All}
use Rattle.std.proofs.lemmas.List.{get_or-take, get_or-drop, length-take-le, take_all}
use Rattle.std.proofs.lemmas.List.Elements.{All-from_get_or}
use Rattle.std.proofs.lemmas.List.Splits.{slice_split_at, slice_split_none, length-slice_split}
use Rattle.std.proofs.lemmas.Bool.Decides.{nat_tests}
use Rattle.wire_defs.specs.Text.{words}
use Rattle.trace_defs.specs.Word.{four_of}
use Rattle.trace_defs.proofs.PlainWords.{words-space, words-last}
use Rattle.trace_lang.specs.Words.{IsPartLen}

-- the parts of a text round a separator
others_at : (separator : ℕ) (text : List ℕ) (n : ℕ) → n ≤ length text → ((k : ℕ) → k < n → get_or text k 0 ≢ separator) → All (λ x. eqb x separator ≡ false) (take n text)
others_at separator text n h before = All-from_get_or (λ x. eqb x separator ≡ false) (take n text) 0 (λ i short.
    let low : i < n = omega (arith, length-take-le n text h) in
    subst (λ x. eqb x separator ≡ false) (sym (get_or-take n text i 0 low)) (differs (get_or text i 0) (before i low)))
  where
    differs : (x : ℕ) → x ≢ separator → eqb x separator ≡ false
    differs x h = grind (arith, nat_tests)

plus_none : (n : ℕ) → n + 0 ≡ n
plus_none n = omega arith

pub words-cut : (text : List ℕ) (n : ℕ) → IsPartLen 32 text n → 0 < n → words text ≡ take n text ∷ words (take (length text - n) (drop n text))
words-cut text n h some =
    let whole : take (length text - n) (drop n text) ≡ drop n text = ap (λ k. take k (drop n text)) (sym (length-drop n text)) ∙ take_all (length (drop n text)) (drop n text) (omega arith) in
    cut (drop n text) refl ∙ ap (λ l. take n text ∷ words l) (sym whole)
  where
    cut : (rest : List ℕ) → drop n text ≡ rest → words text ≡ take n text ∷ words (drop n text)
    cut [] e =
        let short : length text ≤ n = omega (arith, length-drop n text, ap length e) in
        let same : take n text ≡ text = take_all n text short in
        let plain : All (λ x. eqb x 32 ≡ false) text = subst (All (λ x. eqb x 32 ≡ false)) same (others_at 32 text n h.within h.before) in
        words-last text plain (omega (arith, h.within)) ∙ ap (λ l. l ∷ []) (sym same) ∙ ap (λ l. take n text ∷ words l) (sym e)
    cut (x ∷ xs) e =
        let inside : n < length text = omega (arith, length-drop n text, ap length e) in
        let first : get_or text (n + 0) 0 ≡ x = sym (get_or-drop n text 0 0) ∙ ap (λ l. get_or l 0 0) e in
        let space : x ≡ 32 = sym first ∙ ap (λ i. get_or text i 0) (plus_none n) ∙ h.end inside in
        let tail : drop n text ≡ 32 ∷ xs = e ∙ ap (λ c. c ∷ xs) space in
        let split : text ≡ take n text ++ 32 ∷ xs = sym (take-append-drop n text) ∙ ap (λ l. take n text ++ l) tail in
        ap words split ∙ words-space (take n text) xs (others_at 32 text n h.within h.before) (omega (arith, length-take-le n text h.within)) ∙ ap (λ l. take n text ∷ words l) (sym tail)

pub word_is_some : (text : List ℕ) (n : ℕ) → IsPartLen 32 text n → (0 < length text → get_or text 0 0 ≢ 32) → 0 < length text → 0 < n
word_is_some text zero h start some = absurd (start some (h.end some))
word_is_some text (suc n) h start some = omega arith

pub split-none : (separator : ℕ) (text : List ℕ) (n : ℕ) → IsPartLen separator text n → n ≡ length text → slice_split (λ x. eqb x separator) text ≡ text ∷ []
split-none separator text n h e =
    slice_split_none (λ x. eqb x separator) text (subst (All (λ x. eqb x separator ≡ false)) (take_all n text (omega arith)) (others_at separator text n h.within h.before))

pub split-cut : (separator : ℕ) (text : List ℕ) (n : ℕ) → IsPartLen separator text n → n ≢ length text
    → slice_split (λ x. eqb x separator) text ≡ take n text ∷ slice_split (λ x. eqb x separator) (take (length text - (n + 1)) (drop (n + 1) text))
split-cut separator text n h more =
    let inside : n < length text = omega (arith, h.within) in
    let rest : take (length text - (n + 1)) (drop (n + 1) text) ≡ drop (n + 1) text =
    ap (λ k. take k (drop (n + 1) text)) (sym (length-drop (n + 1) text)) ∙ take_all (length (drop (n + 1) text)) (drop (n + 1) text) (omega arith) in
    let tail : drop n text ≡ separator ∷ drop (n + 1) text = drop_cons_at n inside ∙ ap (λ x. x ∷ drop (n + 1) text) (h.end inside) in
    let split : text ≡ take n text ++ separator ∷ drop (n + 1) text = sym (take-append-drop n text) ∙ ap (λ l. take n text ++ l) tail in
    ap (slice_split (λ x. eqb x separator)) split
    ∙ slice_split_at (λ x. eqb x separator) (take n text) separator (drop (n + 1) text) (others_at separator text n h.within h.before) (same separator)
    ∙ ap (λ l. take n text ∷ slice_split (λ x. eqb x separator) l) (sym rest)
  where
    same : (n : ℕ) → eqb n n ≡ true
    same n = grind (arith, nat_tests)

    drop_cons_at : (n : ℕ) → n < length text → drop n text ≡ get_or text n 0 ∷ drop (n + 1) text
    drop_cons_at n h = rw add-one (drop-cons text n 0 h)

-- a part that no separator ends is there all the same
pub split_some : (separator : ℕ) (text : List ℕ) → slice_split (λ x. eqb x separator) text ≡ [] → ⊥
split_some separator text none = absurd (omega (arith, length-slice_split (λ x. eqb x separator) text, ap length none))

-- five parts or more are no address
pub four_of-more : (parts more : List (List ℕ)) (a b c d : List ℕ) → parts ≡ a ∷ b ∷ c ∷ d ∷ more → (more ≡ [] → ⊥) → four_of parts ≡ None
four_of-more parts [] a b c d e some = absurd (some refl)
four_of-more parts (x ∷ more) a b c d e some = ap four_of e

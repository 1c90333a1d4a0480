-- The lines of a printed text.
use Rattle.std.proofs.Common.{◌≡◌, ℕ, Bool, true, cond, eqb, not, List, [], ◌∷◌, ◌++◌, map, refl, sym, ap, ap₂, ◌∙◌, arith, append-nil, append_assoc}
use Rattle.std.specs.List.{list_all, flat_map}
use Rattle.std.proofs.lemmas.Bool.{and_parts, not-true}
use Rattle.std.proofs.lemmas.Bool.Decides.{nat_tests}
use Rattle.wire_defs.specs.Text.{ended_lines, ended_after, open_after}
use Rattle.wire_defs.proofs.TextLemmas.{ended_lines-feed}
use Rattle.trace_defs.specs.Text.{spaced, text_line}
use Rattle.trace_defs.proofs.PlainWords.{AreWords, spaced-passes}
use Rattle.trace_defs.specs.Sized.{is_glyph}

abbrev pub is_no_feed : ℕ → Bool
is_no_feed octet = not (eqb octet 10)

-- a line of words that holds no line feed
pub record IsUnfed (ws : List (List ℕ)) : Type 0 where
  pub plain : list_all is_no_feed (spaced ws) ≡ true

-- none of the lines holds one
abbrev pub AreUnfed : List (List (List ℕ)) → Type 0
AreUnfed [] = Unit {0}
AreUnfed (ws ∷ lines) = IsUnfed ws × AreUnfed lines

pub AreUnfed-append : (xs ys : List (List (List ℕ))) → AreUnfed xs → AreUnfed ys → AreUnfed (xs ++ ys)
AreUnfed-append [] ys hx hy = hy
AreUnfed-append (x ∷ xs) ys hx hy = (hx.0, AreUnfed-append xs ys hx.1 hy)

no_feed : (x : ℕ) → is_glyph x ≡ true → is_no_feed x ≡ true
no_feed x h = grind (arith, nat_tests)

-- nor does a line of words
pub words-unfed : (mosts : List ℕ) (ws : List (List ℕ)) → AreWords mosts ws → IsUnfed ws
words-unfed [] [] hs = record { plain = refl }
words-unfed [] (word ∷ ws) hs = absurd hs
words-unfed (most ∷ mosts) [] hs = absurd hs
words-unfed (most ∷ mosts) (word ∷ ws) hs = record { plain = spaced-passes is_no_feed no_feed refl most mosts word ws hs.0 hs.1 }

ended_none : (part text : List ℕ) → list_all is_no_feed text ≡ true → ended_after part text ≡ []
ended_none part [] h = refl
ended_none part (x ∷ text) h =
    let parts = and_parts (is_no_feed x) (list_all is_no_feed text) h in
    ap (λ b. cond b (part ∷ ended_after [] text) (ended_after (part ++ x ∷ []) text)) (not-true (eqb x 10) parts.0) ∙ ended_none (part ++ x ∷ []) text parts.1

open_all : (part text : List ℕ) → list_all is_no_feed text ≡ true → open_after part text ≡ part ++ text
open_all part [] h = sym (append-nil part)
open_all part (x ∷ text) h =
    let parts = and_parts (is_no_feed x) (list_all is_no_feed text) h in
    ap (λ b. cond b (open_after [] text) (open_after (part ++ x ∷ []) text)) (not-true (eqb x 10) parts.0)
    ∙ open_all (part ++ x ∷ []) text parts.1 ∙ append_assoc part (x ∷ []) text

-- a line with its line feed, and what follows it
pub ended_lines-line : (line rest : List ℕ) → list_all is_no_feed line ≡ true → ended_lines (line ++ 10 ∷ rest) ≡ line ∷ ended_lines rest
ended_lines-line line rest h =
    ended_lines-feed line rest ∙ ap₂ (λ front last. front ++ last ∷ ended_lines rest) (ended_none [] line h) (open_all [] line h)

-- printed lines, and what follows them
pub ended_lines-lines : (lines : List (List (List ℕ))) (rest : List ℕ) → AreUnfed lines → ended_lines (flat_map text_line lines ++ rest) ≡ map spaced lines ++ ended_lines rest
ended_lines-lines [] rest h = refl
ended_lines-lines (ws ∷ lines) rest h =
    ap ended_lines (append_assoc (text_line ws) (flat_map text_line lines) rest ∙ append_assoc (spaced ws) (10 ∷ []) (flat_map text_line lines ++ rest))
    ∙ ended_lines-line (spaced ws) (flat_map text_line lines ++ rest) h.0.plain
    ∙ ap (λ more. spaced ws ∷ more) (ended_lines-lines lines rest h.1)

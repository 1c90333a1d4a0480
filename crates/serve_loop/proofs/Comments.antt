-- The first line of a text.
use Rattle.std.proofs.Common.{◌≡◌, ℕ, suc, ◌+◌, ◌<◌, Bool, true, false, cond, eqb, not, ◌&&◌, List, [], ◌∷◌, ◌++◌, length, take, drop, None, Some, refl, sym, ap, ap₂, ◌∙◌, arith, length-append}
use Rattle.std.specs.List.{position, position_from, list_all}
use Rattle.std.proofs.lemmas.Iterator.Adapters.{position_from-zero}
use Rattle.std.proofs.lemmas.Bool.Decides.{nat_tests}
use Rattle.wire_defs.specs.Text.{ended_lines, ended_after}
use Rattle.trace_defs.specs.Alike.{is_line_feed}
use Rattle.trace_defs.proofs.TextLines.{is_no_feed, ended_lines-line}

-- where no octet is a line feed no line is ended
none_ended : (i : ℕ) (part text : List ℕ) → position_from is_line_feed i text ≡ None → ended_after part text ≡ []
none_ended i part [] e = refl
none_ended i part (x ∷ text) e = by (eqb x 10) (none_ended (i + 1) (part ++ x ∷ []) text) e
  where
    by : (b : Bool) → (position_from is_line_feed (i + 1) text ≡ None → ended_after (part ++ x ∷ []) text ≡ [])
        → cond b (Some i) (position_from is_line_feed (i + 1) text) ≡ None → cond b (part ∷ ended_after [] text) (ended_after (part ++ x ∷ []) text) ≡ []
    by true more e = absurd (cc)
    by false more e = more e

pub no_line : (text : List ℕ) → position is_line_feed text ≡ None → ended_lines text ≡ []
no_line text e = none_ended 0 [] text (sym (position_from-zero is_line_feed text) ∙ e)

-- what stands before the first line feed, and what follows it
record IsFirst (text : List ℕ) (i n : ℕ) : Type 0 where
  pub line : List ℕ
  pub rest : List ℕ
  pub split : text ≡ line ++ 10 ∷ rest
  pub unfed : list_all is_no_feed line ≡ true
  pub at : n ≡ i + length line

is_ten : (x : ℕ) → eqb x 10 ≡ true → x ≡ 10
is_ten x e = grind (arith, nat_tests)

first_of : (i n : ℕ) (text : List ℕ) → position_from is_line_feed i text ≡ Some n → IsFirst text i n
first_of i n [] e = absurd (cc)
first_of i n (x ∷ text) e = by (eqb x 10) refl (first_of (i + 1) n text) e
  where
    by : (b : Bool) → eqb x 10 ≡ b → (position_from is_line_feed (i + 1) text ≡ Some n → IsFirst text (i + 1) n)
        → cond b (Some i) (position_from is_line_feed (i + 1) text) ≡ Some n → IsFirst (x ∷ text) i n
    by true f more e = record { line = []; rest = text; split = ap (λ y. y ∷ text) (is_ten x f); unfed = refl; at = same i n e }
      where
        same : (i n : ℕ) → Some i ≡ Some n → n ≡ i + 0
        same i n e = (let h : i ≡ n = cc in omega (arith, h))
    by false f more e =
        let first = more e in
        record {
          line = x ∷ first.line;
          rest = first.rest;
          split = ap (λ l. x ∷ l) first.split;
          unfed = ap₂ (λ a b. not a && b) f first.unfed;
          at = omega (arith, first.at);
        }

front : (line rest : List ℕ) → take (length line) (line ++ 10 ∷ rest) ≡ line
front [] rest = refl
front (x ∷ line) rest = ap (λ l. x ∷ l) (front line rest)

back : (line rest : List ℕ) (n : ℕ) → n ≡ length line + 1 → drop n (line ++ 10 ∷ rest) ≡ rest
back [] rest n e = ap (λ k. drop k (10 ∷ rest)) e
back (x ∷ line) rest n e =
    let up : n ≡ suc (length line + 1) = omega (arith, e) in
    ap (λ k. drop k (x ∷ line ++ 10 ∷ rest)) up ∙ back line rest (length line + 1) refl

pub one_line : (text : List ℕ) (end : ℕ) → position is_line_feed text ≡ Some end → (ended_lines text ≡ take end text ∷ ended_lines (drop (end + 1) text)) × (end < length text)
one_line text end e =
    let first = first_of 0 end text (sym (position_from-zero is_line_feed text) ∙ e) in
    let at : end ≡ length first.line = omega (arith, first.at) in (
      ap ended_lines first.split ∙ ended_lines-line first.line first.rest first.unfed
          ∙ ap₂ (λ line rest. line ∷ ended_lines rest)
          (sym (ap₂ take at first.split ∙ front first.line first.rest))
          (sym (ap (drop (end + 1)) first.split ∙ back first.line first.rest (end + 1) (ap (λ k. k + 1) at))),
      omega (arith, at, ap length first.split, length-append first.line (10 ∷ first.rest)),
    )

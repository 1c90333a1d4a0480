use Rattle.std.proofs.Common.{◌≡◌, ◌<◌, ℕ, List, true, false, eqb, ◌++◌, ◌∷◌, [], length, suc, refl, ap, sym, ◌∙◌, subst, arith, take_all}
use Rattle.std.proofs.lemmas.Bool.Decides.{nat_tests}
use Rattle.std.specs.List.{flat_map}
use Rattle.std.specs.Borrow.{Bor}
use Rattle.trace_defs.specs.Alike.{AreReadAlike, IsFed, all_lines}
use Rattle.trace_defs.proofs.AlikePieces.{IsFed-last, IsFed-end}
use Rattle.trace_lang.proofs.lines.lines_of.Goals as goal

abbrev text_of : List (Bor (List ℕ)) → List ℕ
text_of pieces = flat_map (λ piece. piece.now) pieces

none : (text : List ℕ) → true ≡ eqb (length text) 0 → text ≡ []
none [] h = refl
none (x ∷ text) h = absurd (clash (length text) h)
  where
    clash : (n : ℕ) → true ≡ eqb (suc n) 0 → ⊥
    clash n h = grind (arith, nat_tests)

some : (text : List ℕ) → false ≡ eqb (length text) 0 → 0 < length text
some text h = grind (arith, nat_tests)

pub returns-then-is_empty : goal.returns-then-is_empty
returns-then-is_empty c =
    let all = take_all c.loop-piece.piece-index c.args.pieces.now c.loop-piece-test.false in
    let h = subst (λ l. IsFed (text_of l) c.loop-piece.seen.items c.loop-piece.lines.text) all c.loop-piece.invariant.1 in
    IsFed-end (text_of c.args.pieces.now) c.loop-piece.seen.items c.loop-piece.lines.text h
    (none c.loop-piece.lines.text (sym c.if-is_empty.true ∙ c.is_empty.ensures ∙ ap (λ l. eqb (length l) 0) c.line.ensures.value))

pub returns : goal.returns
returns c =
    let all = take_all c.loop-piece.piece-index c.args.pieces.now c.loop-piece-test.false in
    let h = subst (λ l. IsFed (text_of l) c.loop-piece.seen.items c.loop-piece.lines.text) all c.loop-piece.invariant.1 in
    subst (λ l. AreReadAlike l (all_lines (text_of c.args.pieces.now)))
    (sym (c.in_ok-push.ensures.items ∙ ap (λ line. c.loop-piece.seen.items ++ line ∷ []) (c.in_ok-of.ensures ∙ c.line-2.ensures.value)))
    (IsFed-last (text_of c.args.pieces.now) c.loop-piece.seen.items c.loop-piece.lines.text h
    (some c.loop-piece.lines.text (sym c.if-is_empty.false ∙ c.is_empty.ensures ∙ ap (λ l. eqb (length l) 0) c.line.ensures.value)))

use Rattle.std.proofs.Common.{◌≡◌, ℕ, ◌-◌, List, [], ◌∷◌, ◌++◌, length, take, drop, Some, None, sym, ap, ◌∙◌, subst, arith, append_assoc, take-append-drop, take_all, length-drop}
use Rattle.std.specs.List.{before_first}
use Rattle.wire_defs.specs.Text.{open_line}
use Rattle.trace_defs.specs.Alike.{ReadAlike, IsFed, is_line_feed, len_to_feed}
use Rattle.trace_defs.proofs.AlikePieces.{IsFed-piece, IsFed-line}
use Rattle.trace_lang.proofs.lines.Lines.feed_all.Goals as goal

rest_is : (rest : List ℕ) (n : ℕ) → take (length rest - n) (drop n rest) ≡ drop n rest
rest_is rest n = take_all (length rest - n) (drop n rest) (omega (arith, length-drop n rest))

cut : (piece front rest : List ℕ) (n : ℕ) → piece ≡ front ++ rest → piece ≡ (front ++ take n rest) ++ take (length rest - n) (drop n rest)
cut piece front rest n e =
    e ∙ ap (λ l. front ++ l) (sym (take-append-drop n rest)) ∙ sym (append_assoc front (take n rest) (drop n rest))
    ∙ ap (λ l. (front ++ take n rest) ++ l) (sym (rest_is rest n))

next_line : (fed front rest : List ℕ) (n : ℕ) (lines more : List (List ℕ)) (old new none : List ℕ) → IsFed (fed ++ front) lines old → Some n ≡ len_to_feed rest
    → ReadAlike new (open_line (fed ++ front) ++ before_first is_line_feed rest) → more ≡ lines ++ new ∷ [] → none ≡ [] → IsFed (fed ++ (front ++ take n rest)) more none
next_line fed front rest n lines more old new none h count text push empty =
    subst (λ t. IsFed t more none) (append_assoc fed front (take n rest))
    (subst (λ m. IsFed ((fed ++ front) ++ take n rest) m none) (sym push)
    (subst (IsFed ((fed ++ front) ++ take n rest) (lines ++ new ∷ [])) (sym empty) (IsFed-line (fed ++ front) rest lines old new n h (sym count) text)))

pub loop-taken-preserved : goal.loop-taken-preserved
loop-taken-preserved c =
    let before = c.loop-taken.invariant in (
      ap (λ held. held.ended) c.next.ensures,
      (
        before.1.0 ++ take c.in-Some.taken c.loop-taken.rest.now,
        cut c.args.piece.now before.1.0 c.loop-taken.rest.now c.in-Some.taken before.1.1,
        λ fed kept.
            let h = before.1.2 fed kept in
            next_line fed before.1.0 c.loop-taken.rest.now c.in-Some.taken c.loop-taken.seen.items c.push.new.self.items c.loop-taken.self.text c.feed.new.self.text c.next.new.self.text
            h c.in-Some.ensures.count (c.in-Some.ensures.text (open_line (fed ++ before.1.0)) h.begun_line)
            (c.in_ok-push.ensures.items ∙ ap (λ line. c.loop-taken.seen.items ++ line ∷ []) (c.in_ok-of.ensures ∙ c.line.ensures.value))
            (ap (λ held. held.text) c.next.ensures),
      ),
    )

pub returns-clause-lines : goal.returns-clause-lines
returns-clause-lines c = λ fed kept.
    let before = c.loop-taken.invariant in
    let h = before.1.2 fed kept in
    let rest = c.loop-taken.rest.now in
    let none : len_to_feed rest ≡ None = sym c.feed.ensures.count ∙ c.in_default.is in
    subst (λ t. IsFed t c.loop-taken.seen.items c.feed.new.self.text) (append_assoc fed before.1.0 rest ∙ ap (λ l. fed ++ l) (sym before.1.1))
    (IsFed-piece (fed ++ before.1.0) rest c.loop-taken.seen.items c.loop-taken.self.text c.feed.new.self.text h none
    (c.feed.ensures.text (open_line (fed ++ before.1.0)) h.begun_line))

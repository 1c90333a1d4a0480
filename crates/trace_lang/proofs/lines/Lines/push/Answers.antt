use Rattle.std.proofs.Common.{◌≡◌, ap, sym, ◌∙◌, arith, ◌++◌, ◌∷◌, [], set, get_or, length, subst}
use Rattle.std.proofs.lemmas.List.{get_or_default}
use Rattle.trace_defs.specs.Alike.{ReadAlike, stand_in_with}
use Rattle.trace_defs.proofs.AlikeLemmas.{ReadAlike-more, ReadAlike-full}
use Rattle.trace_lang.proofs.lines.Lines.push.Goals as goal

pub returns-then-len-lt-MOST_KEPT-clause-text : goal.returns-then-len-lt-MOST_KEPT-clause-text
returns-then-len-lt-MOST_KEPT-clause-text c = λ line kept.
    let same = ap (λ held. held.text) c.self.view_is in
    let is = c.push_reserved.ensures.items ∙ ap (λ l. l ++ c.args.octet ∷ []) same in
    subst (λ l. ReadAlike l (line ++ c.args.octet ∷ [])) (sym is) (ReadAlike-more _ line c.args.octet kept)

pub returns-else-len-lt-MOST_KEPT-clause-text : goal.returns-else-len-lt-MOST_KEPT-clause-text
returns-else-len-lt-MOST_KEPT-clause-text c = λ line kept.
    let items = c.self.inside.text.items in
    let same = ap (λ held. held.text) c.self.view_is in
    let full : length items ≡ 10242 = omega (arith, c.self.invariant.0, c.if-len-lt-MOST_KEPT.false, c.len.ensures) in
    let last : c.index.result.now ≡ get_or items 10241 0 = c.index.ensures ∙ get_or_default items 10241 c.index.result.now 0 (omega (arith, full)) in
    let is : set items 10241 c.standing_for.result ≡ set items 10241 (stand_in_with (get_or items 10241 0) c.args.octet) =
    ap (set items 10241) (c.standing_for.ensures ∙ ap (λ x. stand_in_with x c.args.octet) last) in
    subst (λ l. ReadAlike l (line ++ c.args.octet ∷ [])) (sym is)
    (ReadAlike-full items line c.args.octet full (subst (λ l. ReadAlike l line) (sym same) kept))

use Rattle.std.proofs.Common.{sym, ap, ◌∙◌, ◌∷◌}
use Rattle.trace_lang.proofs.WordLemmas.{split_some, four_of-more}
use Rattle.trace_lang.proofs.values.ip_of.Goals as goal

pub returns-in-Some : goal.returns-in-Some
returns-in-Some c =
    let a = c.in_ok-a.a.now in
    let b = c.in_ok-b.b.now in
    sym (four_of-more _ _ a b c.in_ok-c.c.now c.in-Some.field-0.0.now
    (c.in_ok-a.ensures ∙ ap (λ l. a ∷ l) (c.in_ok-b.ensures ∙ ap (λ l. b ∷ l) (c.in_ok-c.ensures ∙ ap (λ l. c.in_ok-c.c.now ∷ l) (c.in-Some.ensures))))
    (split_some 46 c.in-Some.field-0.1.now))

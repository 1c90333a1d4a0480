use Rattle.std.proofs.Common.{◌+◌, ◌∷◌, ◌∙◌, sym, ap, take}
use Rattle.wire_defs.specs.Text.{ended_lines}
use Rattle.wire_defs.proofs.OutsideLemmas.{slice_from}
use Rattle.serve_loop.proofs.Comments.{no_line, one_line}
use Rattle.serve_loop.proofs.comment.first_line.Goals as goal

pub returns-in-Some-clause-some : goal.returns-in-Some-clause-some
returns-in-Some-clause-some c =
    let text = c.args.text.now in
    let end = c.in-Some.end in
    (one_line text end (sym c.feed_at.ensures ∙ c.in-Some.is)).0 ∙ ap (λ rest. take end text ∷ ended_lines rest) (sym (slice_from text (end + 1)))

pub returns-in-None-clause-none : goal.returns-in-None-clause-none
returns-in-None-clause-none c = λ none. no_line c.args.text.now (sym c.feed_at.ensures ∙ c.in-None.is)

use Rattle.std.proofs.Common.{sym, ◌∙◌, arith}
use Rattle.trace_lang.proofs.WordLemmas.{words-cut, word_is_some}
use Rattle.trace_lang.proofs.words.first_word.Goals as goal

pub returns : goal.returns
returns c =
    sym c.skip_spaces-rest.ensures.same
    ∙ words-cut c.skip_spaces-rest.result.now c.part_len-end.result c.part_len-end.ensures
    (word_is_some c.skip_spaces-rest.result.now c.part_len-end.result c.part_len-end.ensures c.skip_spaces-rest.ensures.start (grind (arith)))

use Rattle.trace_lang.proofs.WordLemmas.{split-none, split-cut}
use Rattle.trace_lang.proofs.words.cut_at_stop.Goals as goal

pub returns-then-end-text : goal.returns-then-end-text
returns-then-end-text c = split-none 46 c.args.text.now c.part_len-end.result c.part_len-end.ensures c.if-end-text.true

pub returns : goal.returns
returns c = split-cut 46 c.args.text.now c.part_len-end.result c.part_len-end.ensures c.if-end-text.false

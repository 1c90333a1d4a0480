use Rattle.std.proofs.Common.{sym}
use Rattle.server_words.proofs.words.said.Goals as goal

-- src/words.rt:36:1
pub returns-then-has_code-clause-says : goal.returns-then-has_code-clause-says
returns-then-has_code-clause-says c = λ session times id k. rw (sym c.if-has_code.ensures) (c.challenged.ensures.says times id k)

-- src/words.rt:36:1
pub returns-else-has_code-2-clause-says : goal.returns-else-has_code-2-clause-says
returns-else-has_code-2-clause-says c = λ session times id k. rw (sym c.if-has_code.ensures, sym c.if-has_code-2.ensures) (c.rejected.ensures.says times id k)

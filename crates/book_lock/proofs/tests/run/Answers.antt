use Rattle.std.proofs.Common.{rules, ◌≡◌, ◌∙◌, ap}
use Rattle.book_lock.proofs.tests.run.Goals as goal

pub turn_at-requires-clause-lock : goal.turn_at-requires-clause-lock
turn_at-requires-clause-lock g c κs within = c.loop-round.invariant.0 ∙ c.requires.lock

pub turn_at-requires-clause-admitted : goal.turn_at-requires-clause-admitted
turn_at-requires-clause-admitted g c κs within = (c.requires.based.0, c.loop-round.invariant.2 ∙ c.requires.based.1, tt)

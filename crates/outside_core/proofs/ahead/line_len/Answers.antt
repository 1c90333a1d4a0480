use Rattle.std.proofs.Common.{sym, ◌∙◌}
use Rattle.outside_core.proofs.Feeds.{line_found, line_whole, stops_at, stops_never}
use Rattle.outside_core.proofs.ahead.line_len.Goals as goal

pub returns-in-Some-clause-line : goal.returns-in-Some-clause-line
returns-in-Some-clause-line c = stops_at c.args.octets.now c.in-Some.at (sym c.feed_at.ensures ∙ c.in-Some.is)

pub returns-in-None-clause-line : goal.returns-in-None-clause-line
returns-in-None-clause-line c = stops_never c.args.octets.now (sym c.feed_at.ensures ∙ c.in-None.is)

pub returns-in-Some-clause-value : goal.returns-in-Some-clause-value
returns-in-Some-clause-value c = line_found c.args.octets.now c.in-Some.at (sym c.feed_at.ensures ∙ c.in-Some.is)

pub returns-in-None-clause-value : goal.returns-in-None-clause-value
returns-in-None-clause-value c = line_whole c.args.octets.now (sym c.feed_at.ensures ∙ c.in-None.is)

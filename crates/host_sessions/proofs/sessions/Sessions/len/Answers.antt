use Rattle.std.proofs.Common.{◌∙◌}
use Rattle.host_sessions.proofs.Pairs.{as_many}
use Rattle.host_sessions.proofs.sessions.Sessions.len.Goals as goal

pub returns-clause-count : goal.returns-clause-count
returns-clause-count c = λ s holds. c.len.ensures.len ∙ as_many s.config.times c.args.self.now.slots s.sessions holds.sessions

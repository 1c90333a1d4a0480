use Rattle.std.proofs.Common.{◌∙◌, filter}
use Rattle.session_table.specs.Slots.{is_on}
use Rattle.switch_defs.specs.Switch.{on_port}
use Rattle.host_sessions.proofs.Pairs.{as_many, both_kept, on_agree}
use Rattle.host_sessions.proofs.sessions.Sessions.count.Goals as goal

pub returns-clause-count : goal.returns-clause-count
returns-clause-count c = λ s holds.
    let t = s.config.times in
    let n = c.args.port in
    let es = c.args.self.now.slots in
    c.count.ensures.count
    ∙ as_many t (filter (is_on n) es) (filter (on_port n) s.sessions)
    (both_kept t (is_on n) (on_port n) (on_agree t n) es s.sessions holds.sessions)

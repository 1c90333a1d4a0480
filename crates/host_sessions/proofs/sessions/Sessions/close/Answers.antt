use Rattle.std.proofs.Common.{◌≡◌, Some, ◌∙◌, ap, sym}
use Rattle.session_table.specs.Slots.{value_at}
use Rattle.aaa_defs.specs.Waits.{forgotten}
use Rattle.host_sessions.proofs.Holding.{closes, value_number}
use Rattle.host_sessions.proofs.sessions.Sessions.close.Goals as goal

pub returns-in-Some-clause-holds : goal.returns-in-Some-clause-holds
returns-in-Some-clause-holds c = λ y s holds i.
    let k = c.args.self.now in
    let here : Some c.in-Some.session ≡ value_at c.args.at k.slots = sym c.in-Some.is ∙ c.remove.ensures.value in
    closes k s c.args.at y c.remove.new.self c.forget.new.self holds i c.remove.ensures.others c.remove.ensures.table
    (c.forget.ensures ∙ ap (λ n. forgotten n k.waits) (value_number k s c.args.at y c.in-Some.session i here))

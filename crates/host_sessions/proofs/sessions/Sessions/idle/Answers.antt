use Rattle.std.proofs.Common.{◌≡◌, Some, ◌∙◌, ap, sym}
use Rattle.session_table.specs.Slots.{value_at}
use Rattle.host_sessions.proofs.Holding.{renewed_same, value_sits}
use Rattle.host_sessions.proofs.Quiet.{idles_of}
use Rattle.host_session.specs.declared.session.Session.{Session}
use Rattle.session_table.specs.Slots.{renewed}
use Rattle.host_sessions.proofs.sessions.Sessions.idle.Goals as goal

pub returns-in-Some-clause-idles : goal.returns-in-Some-clause-idles
returns-in-Some-clause-idles c = λ done y s holds i between.
    let k = c.args.self.now in
    let at = c.args.at in
    let v = c.in-Some.session.now in
    let here : Some v ≡ value_at at k.slots = c.in-Some.ensures.value in
    idles_of k s at y v c.idle.new.self holds i between here c.idle.ensures.number (sym c.idle.ensures.idle ∙ done)
    (c.idle.ensures.idles done y.standing (value_sits k s at y v i here))

pub returns-in-Some-clause-stays : goal.returns-in-Some-clause-stays
returns-in-Some-clause-stays c = λ none s holds.
    let k = c.args.self.now in
    let at = c.args.at in
    let v = c.in-Some.session.now in
    let here : Some v ≡ value_at at k.slots = c.in-Some.ensures.value in
    ap (λ es. record k { slots = es }) (ap (λ (u : Session). renewed at u k.slots) (c.idle.ensures.stays none) ∙ renewed_same at v k.slots holds.table here)

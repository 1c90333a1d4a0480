use Rattle.std.proofs.Common.{◌≡◌, ℕ, ◌∙◌, List, [], ◌∷◌, Option, sym, ap, arith}
use Rattle.aaa_defs.specs.Waits.{Pending, socket_of}
use Rattle.switch_event.specs.Sent.{ToServer}
use Rattle.typed_session.specs.Follows.{with_sent}
use Rattle.host_sessions.specs.Follows.{sent_of_pending}
use Rattle.host_sessions.proofs.Waiting.{socket_is}
use Rattle.host_sessions.proofs.seconds.send.Goals as goal

pub returns-in-Some-clause-sent : goal.returns-in-Some-clause-sent
returns-in-Some-clause-sent c =
    let t = c.args.tray.now in
    let socket : socket_of c.in-Some.request.now.name ≡ c.request.inside.socket =
    ap (λ (p : Pending). socket_of p.name) (sym c.request.view_is) ∙ socket_is c.request.inside.socket c.request.inside.id (omega arith) in
    c.put.ensures.items
    ∙ ap (λ (n : ℕ). with_sent (ToServer n c.octets.result.now ∷ []) t) (sym socket)
    ∙ ap (λ (o : List ℕ). with_sent (ToServer (socket_of c.in-Some.request.now.name) o ∷ []) t) c.octets.ensures.value
    ∙ ap (λ (o : Option Pending). with_sent (sent_of_pending o) t) c.in-Some.ensures.found

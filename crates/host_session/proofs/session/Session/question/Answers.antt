use Rattle.std.proofs.Common.{◌≡◌, ℕ, List, Option, ◌∙◌, refl}
use Rattle.aaa_defs.specs.Request as request
use Rattle.host_session.proofs.Marks.{idle_goes_on}
use Rattle.host_session.proofs.session.Session.question.Goals as goal

same : (port : ℕ) (own peer i j : List ℕ) (s t : Option (List ℕ)) (e f : List ℕ) → i ≡ j → s ≡ t → e ≡ f →
    let asks : List ℕ → Option (List ℕ) → List ℕ → request.Ask = λ identity state eap. record { port = port; own = own; peer = peer; identity = identity; state = state; eap = eap } in
    asks i s e ≡ asks j t f
same port own peer i j s t e f a b d = rw (a, b, d) refl

pub returns-clause-question : goal.returns-clause-question
returns-clause-question c = λ x s i.
    let g = idle_goes_on s.stands i in
    same c.args.port c.args.own.0 c.args.peer.0 c.asked.result.0.now x.vars.identity.items _ x.state c.asked.result.1.now x.vars.eap_resp_data.items
    (c.asked.ensures.identity x.vars s.stands g) (c.state.ensures.value ∙ s.state) (c.asked.ensures.response x.vars s.stands g i)

use Rattle.std.proofs.Common.{◌≡◌, ◌∙◌, sym, ap, arith}
use Rattle.std.proofs.lemmas.Grind.{common_steps}
use Rattle.dynauth_defs.specs.Session.{matching}
use Rattle.dynauth_server.specs.declared.session.Found.{Found}
use Rattle.dynauth_server.proofs.SessionLemmas.{one-named}
use Rattle.dynauth_server.proofs.AnswerLemmas.{passed_on}
use Rattle.dynauth_server.proofs.judging.answer.Goals as goal

pub returns-in_err-refuse-9 : goal.returns-in_err-refuse-9
returns-in_err-refuse-9 g c =
    let named = matching c.args.p.now.attributes (g.R.Roll.rows c.args.roll.now) in
    let alone = passed_on c.named-first.result.1 508 c.in_ok-refuse-6.field-0 (sym c.refuse-6.ensures ∙ c.in_ok-refuse-6.was) in
    let one = one-named named c.named-first.result.0 c.named-first.result.1 c.in_ok-session.session c.named-first.ensures c.in_ok-session.ensures.ok_part alone in
    let same : c.in_ok-session.session.authorised ≡ one.0.authorised = ap (λ (s : Found). s.authorised) one.2 in
    rw one.1 (grind (arith, common_steps, same))

pub returns : goal.returns
returns g c =
    let named = matching c.args.p.now.attributes (g.R.Roll.rows c.args.roll.now) in
    let alone = passed_on c.named-first.result.1 508 c.in_ok-refuse-6.field-0 (sym c.refuse-6.ensures ∙ c.in_ok-refuse-6.was) in
    let one = one-named named c.named-first.result.0 c.named-first.result.1 c.in_ok-session.session c.named-first.ensures c.in_ok-session.ensures.ok_part alone in
    let same : c.in_ok-session.session.authorised ≡ one.0.authorised = ap (λ (s : Found). s.authorised) one.2 in
    let number : c.in_ok-session.session.number ≡ one.0.number = ap (λ (s : Found). s.number) one.2 in
    rw one.1 (grind (arith, common_steps, same, number))

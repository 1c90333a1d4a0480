use Rattle.std.proofs.Common.{◌≡◌, ◌∙◌, List, Option, sym, ap}
use Rattle.aaa_defs.specs.declared.Aged.TheVariants.{Resend}
use Rattle.aaa_defs.specs.Waits.{Pending, Waits, pending_of}
use Rattle.aaa_defs.specs.Age.{aged}
use Rattle.aaa_defs.proofs.Finding.{second-own}
use Rattle.switch_event.specs.Sent.{Sent}
use Rattle.typed_session.specs.Follows.{with_sent}
use Rattle.host_sessions.specs.Follows.{sent_of_pending}
use Rattle.host_sessions.proofs.Waiting.{resent}
use Rattle.host_sessions.proofs.seconds.aged.Goals as goal

pub returns-in-Resend-clause-sent : goal.returns-in-Resend-clause-sent
returns-in-Resend-clause-sent c =
    let t = c.args.tray.now in
    let n = c.args.number in
    let w = c.args.waits.now in
    let told : aged (pending_of n w) ≡ Resend = sym c.in-Resend.ensures.told in
    c.send.ensures.sent
    ∙ ap (λ (u : Waits). with_sent (sent_of_pending (pending_of n u)) t) c.second.ensures.waits
    ∙ ap (λ (o : Option Pending). with_sent (sent_of_pending o) t) (second-own n w)
    ∙ ap (λ (xs : List Sent). with_sent xs t) (resent (pending_of n w) told)

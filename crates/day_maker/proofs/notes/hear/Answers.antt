use Rattle.std.proofs.Common.{◌++◌, ◌∷◌, [], length, refl, sym, subst}
use Rattle.std.specs.Prelude.{None}
use Rattle.switch_event.specs.declared.sent.Sent.{Sent as SentNow}
use Rattle.switch_event.specs.declared.sent.Sent.TheVariants.{Reply}
use Rattle.switch_event.specs.Sent.{sent_of}
use Rattle.day_maker.specs.Hearing.{Hears}
use Rattle.day_maker.proofs.Noting.{heard_nothing, about_nobody}
use Rattle.day_maker.proofs.notes.hear.Goals as goal

pub returns-in-Reply : goal.returns-in-Reply
returns-in-Reply c = λ sent hears.
    let notes = c.args.notes.now in
    let count = length notes in
    let reply : SentNow = Reply c.in-Reply.to c.in-Reply.octets in
    subst (λ (s : SentNow). Hears notes (sent ++ sent_of s ∷ [])) (sym c.in-Reply.is)
    (heard_nothing notes sent (sent_of reply) (about_nobody count None refl) (about_nobody count None refl) hears)

use Rattle.std.proofs.Common.{length, sym, refl}
use Rattle.std.specs.Prelude.{None}
use Rattle.switch_event.specs.Sent.{ToServer}
use Rattle.day_defs.specs.Server.{server_asked}
use Rattle.day_maker.proofs.Noting.{heard_nothing, about_nobody, about_stranger, heard_question}
use Rattle.day_maker.proofs.notes.hear_request.Goals as goal

pub returns-in-Some-place_of : goal.returns-in-Some-place_of
returns-in-Some-place_of c = λ sent hears.
    heard_question c.args.notes.now sent (ToServer c.args.socket c.args.octets.now) c.in-Some.address.0 c.in-Some.question c.in-Some-place_of.place
    (sym c.in-Some.ensures) refl c.in-Some-place_of.ensures.found.0 c.in-Some-place_of.ensures.found.1 hears

pub returns-in_default-place_of : goal.returns-in_default-place_of
returns-in_default-place_of c = λ sent hears.
    let s = ToServer c.args.socket c.args.octets.now in
    let count = length c.args.notes.now in
    heard_nothing c.args.notes.now sent s (about_nobody count None refl)
    (about_stranger count (server_asked s) c.in-Some.address.0 c.in-Some.question (sym c.in-Some.ensures) c.in_default-place_of.ensures.nobody) hears

pub returns-in_default : goal.returns-in_default
returns-in_default c = λ sent hears.
    let s = ToServer c.args.socket c.args.octets.now in
    let count = length c.args.notes.now in
    heard_nothing c.args.notes.now sent s (about_nobody count None refl) (about_nobody count (server_asked s) (sym c.in_default.ensures)) hears

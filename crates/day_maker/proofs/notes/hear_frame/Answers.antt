use Rattle.std.proofs.Common.{length, sym, refl}
use Rattle.std.specs.Prelude.{None}
use Rattle.switch_event.specs.Sent.{ToHost}
use Rattle.day_defs.specs.Server.{identity_asked}
use Rattle.day_maker.proofs.Noting.{heard_nothing, about_nobody, about_stranger, heard_identity}
use Rattle.day_maker.proofs.notes.hear_frame.Goals as goal

pub returns-in-Some-place_of : goal.returns-in-Some-place_of
returns-in-Some-place_of c = λ port sent hears.
    heard_identity c.args.notes.now sent (ToHost port c.args.octets.now) c.in-Some.address.0 c.in-Some.id c.in-Some-place_of.place
    (sym (c.in-Some.ensures port)) refl c.in-Some-place_of.ensures.found.0 c.in-Some-place_of.ensures.found.1 hears

pub returns-in_default-place_of : goal.returns-in_default-place_of
returns-in_default-place_of c = λ port sent hears.
    let s = ToHost port c.args.octets.now in
    let count = length c.args.notes.now in
    heard_nothing c.args.notes.now sent s (about_stranger count (identity_asked s) c.in-Some.address.0 c.in-Some.id (sym (c.in-Some.ensures port)) c.in_default-place_of.ensures.nobody)
    (about_nobody count None refl) hears

pub returns-in_default : goal.returns-in_default
returns-in_default c = λ port sent hears.
    let s = ToHost port c.args.octets.now in
    let count = length c.args.notes.now in
    heard_nothing c.args.notes.now sent s (about_nobody count (identity_asked s) (sym (c.in_default.ensures port))) (about_nobody count None refl) hears

use Rattle.std.proofs.Common.{◌-◌, ◌<◌, ◌≤◌, ℕ, List, length, ap, ◌∙◌, arith}
use Rattle.std.specs.Prelude.{get_or}
use Rattle.std.proofs.lemmas.List.{get_or_read}
use Rattle.day_maker.specs.declared.notes.Note.{Note}
use Rattle.day_maker.specs.Hearing.{blank}
use Rattle.day_maker.proofs.Making.{noted-for}
use Rattle.day_maker.proofs.maker.DayMaker.note.Goals as goal

pub returns : goal.returns
returns g c = λ d s.
    let notes : List Note = c.args.self.now.notes.items in
    let day = c.requires.day in
    let few : c.args.host ≤ length notes = omega (arith, day.1.notes_are, c.requires.known) in
    let within : c.from.result - 1 < length notes = omega (arith, c.from.ensures, c.requires.host) in
    get_or_read notes (c.from.result - 1) c.index.result.now within c.index.ensures blank
    ∙ ap (λ (n : ℕ). get_or notes (n - 1) blank) c.from.ensures
    ∙ noted-for g.A.Authenticator.stands g.A.Authenticator.made c.args.self.now d c.args.host s c.requires.host few

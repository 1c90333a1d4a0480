use Rattle.std.proofs.Common.{◌≡◌, sym, ap, ◌∙◌, ℕ, List}
use Rattle.std.specs.Prelude.{Some}
use Rattle.day_defs.specs.Office.{start_frame}
use Rattle.day_defs.specs.Day.{Start, frame_of}
use Rattle.day_maker.proofs.Making.{on_both, makes-one}
use Rattle.day_maker.proofs.maker.DayMaker.start.Goals as goal

pub returns : goal.returns
returns g c =
    let host = c.args.host in
    let text : c.as_slice.result.now ≡ start_frame host = c.as_slice.ensures.value ∙ c.start_frame.ensures in
    on_both c.frame.result c.frame.ensures.adds c.frame.ensures.turns
    (λ adds few. makes-one g.A.Authenticator.stands g.A.Authenticator.made c.args.self.now c.frame.new.self (Start host) _ c.args.records.now.items c.frame.new.records.items adds
    (λ d s. ap (λ (octets : List ℕ). Some (frame_of host octets)) (sym text)) few)

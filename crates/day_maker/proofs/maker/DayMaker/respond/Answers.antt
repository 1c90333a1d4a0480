use Rattle.std.proofs.Common.{◌≡◌, sym, ap, ◌∙◌, ℕ, List}
use Rattle.std.specs.Prelude.{Some, option_map}
use Rattle.day_defs.specs.Office.{response_frame}
use Rattle.day_defs.specs.Day.{Respond, frame_of}
use Rattle.day_maker.proofs.Making.{on_both, makes-one, makes-nothing}
use Rattle.day_maker.proofs.maker.DayMaker.respond.Goals as goal

pub returns-in_default : goal.returns-in_default
returns-in_default g c =
    let host = c.args.host in
    makes-nothing g.A.Authenticator.stands g.A.Authenticator.made c.args.self.now (Respond host) c.args.records.now.items
    (λ d s. ap (option_map (λ (id : ℕ). frame_of host (response_frame host id))) (sym (ap (λ n. n.identity) (c.note.ensures d s)) ∙ c.in_default.is))

pub returns : goal.returns
returns g c =
    let host = c.args.host in
    let text : c.as_slice.result.now ≡ response_frame host c.in-Some.id = c.as_slice.ensures.value ∙ c.response_frame.ensures in
    on_both c.frame.result c.frame.ensures.adds c.frame.ensures.turns
    (λ adds few. makes-one g.A.Authenticator.stands g.A.Authenticator.made c.args.self.now c.frame.new.self (Respond host) _ c.args.records.now.items c.frame.new.records.items adds
    (λ d s.
    ap (option_map (λ (id : ℕ). frame_of host (response_frame host id))) (sym (ap (λ n. n.identity) (c.note.ensures d s)) ∙ c.in-Some.is)
    ∙ ap (λ (octets : List ℕ). Some (frame_of host octets)) (sym text))
    few)

use Rattle.std.proofs.Common.{◌≡◌, sym, ap, ◌∙◌, ℕ, List, arith}
use Rattle.std.specs.Prelude.{Some, option_map}
use Rattle.switch_event.specs.Event.{Radius}
use Rattle.day_defs.specs.declared.Question.{Question}
use Rattle.day_defs.specs.Office.{address_of_host}
use Rattle.day_defs.specs.Server.{server_asked, last_about, accept_octets}
use Rattle.day_defs.specs.Day.{Answer, answer_of, control}
use Rattle.day_maker.proofs.Coming.{last-socket}
use Rattle.day_maker.proofs.Making.{on_both, makes-one, makes-nothing}
use Rattle.day_maker.proofs.maker.DayMaker.answer.Goals as goal

pub returns-in_default : goal.returns-in_default
returns-in_default g c =
    let host = c.args.host in
    makes-nothing g.A.Authenticator.stands g.A.Authenticator.made c.args.self.now (Answer host) c.args.records.now.items
    (λ d s. ap (option_map (answer_of host)) (sym (ap (λ n. n.question) (c.note.ensures d s)) ∙ c.in_default.is))

pub control-requires-clause-event : goal.control-requires-clause-event
control-requires-clause-event g c =
    let day = c.requires.day in
    let asked : last_about server_asked (address_of_host c.args.host) day.0.sent ≡ Some c.in-Some.question =
    sym (ap (λ n. n.question) (c.note.ensures day.0 day.1)) ∙ c.in-Some.is in
    let small = last-socket (address_of_host c.args.host) day.0.sent c.in-Some.question asked in
    omega arith

pub returns : goal.returns
returns g c =
    let host = c.args.host in
    let q : Question = c.in-Some.question in
    let text : c.in_ok-octets.octets ≡ accept_octets host q = c.in_ok-octets.ensures ∙ c.octets.ensures.text ∙ c.accept.ensures in
    on_both c.control.result c.control.ensures.adds c.control.ensures.turns
    (λ adds few. makes-one g.A.Authenticator.stands g.A.Authenticator.made c.args.self.now c.control.new.self (Answer host) _ c.args.records.now.items c.control.new.records.items adds
    (λ d s.
    ap (option_map (answer_of host)) (sym (ap (λ n. n.question) (c.note.ensures d s)) ∙ c.in-Some.is)
    ∙ ap (λ (octets : List ℕ). Some (control (Radius q.socket octets))) (sym text))
    few)

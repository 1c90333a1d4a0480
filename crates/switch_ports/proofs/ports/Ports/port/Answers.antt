-- The port at the place of the number.
use Rattle.std.proofs.Common.{◌≡◌, sym, ap, ◌∙◌, Some, List}
use Rattle.std.specs.Prelude.{find}
use Rattle.switch_defs.specs.Switch.{Port, is_port}
use Rattle.switch_defs.specs.Sound.{confs}
use Rattle.switch_ports.specs.Index.{place_of}
use Rattle.switch_ports.proofs.Places.{got, missing}
use Rattle.switch_ports.specs.Ports.{shown}
use Rattle.switch_ports.proofs.ports.Ports.port.Goals as goal

pub returns-in_err-place : goal.returns-in_err-place
returns-in_err-place c = ap shown c.from_residual.ensures ∙ sym (missing c.args.n c.args.self.now (sym c.place.ensures ∙ c.in_err-place.was))

pub returns : goal.returns
returns c =
    let all : c.deref.result.now ≡ c.args.self.now = c.deref.ensures.value ∙ c.self.view_is in
    let here : place_of c.args.n (confs c.deref.result.now) ≡ Some c.in_ok-place.place = ap (λ (ps : List Port). place_of c.args.n (confs ps)) all ∙ sym c.place.ensures ∙ c.in_ok-place.was in
    got c.args.n c.deref.result.now c.in_ok-place.place c.get.result here c.get.ensures.lookup.0 c.get.ensures.lookup.1 ∙ ap (find (is_port c.args.n)) all

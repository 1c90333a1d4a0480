-- One port changes, at its place.
use Rattle.std.proofs.Common.{◌≡◌, sym, ap, map, ◌∙◌, Some, List}
use Rattle.switch_defs.specs.Switch.{Port}
use Rattle.switch_defs.specs.Sound.{confs}
use Rattle.switch_ports.specs.Index.{place_of}
use Rattle.switch_ports.proofs.Places.{changed_at, index_kept, unchanged}
use Rattle.switch_defs.specs.Turn.{with_link}
use Rattle.switch_ports.proofs.Changes.{spares_link, hits_link}
use Rattle.switch_ports.proofs.ports.Ports.set_link.Goals as goal

pub invariant_of-self : goal.invariant_of-self
invariant_of-self c =
    index_kept c.self.inside.places c.self.inside.rows.items c.in-Some.place c.index_mut.result.now c.set_link.new.self c.self.invariant c.index_mut.ensures.value (ap (λ (p : Port). p.conf) c.set_link.ensures)

pub returns-in-Some : goal.returns-in-Some
returns-in-Some c =
    let here : place_of c.args.n (confs c.self.inside.rows.items) ≡ Some c.in-Some.place = ap (λ (ps : List Port). place_of c.args.n (confs ps)) c.self.view_is ∙ sym c.place.ensures ∙ c.in-Some.is in
    changed_at c.args.n (with_link c.args.n c.args.up) (λ p. record p { link = c.args.up }) c.self.inside.rows.items c.in-Some.place c.index_mut.result.now c.set_link.new.self (spares_link c.args.n c.args.up) (hits_link c.args.n c.args.up) c.self.invariant.ports here c.index_mut.ensures.value c.set_link.ensures
    ∙ ap (map (with_link c.args.n c.args.up)) c.self.view_is

pub returns-in_default : goal.returns-in_default
returns-in_default c = sym (unchanged c.args.n (with_link c.args.n c.args.up) c.args.self.now (spares_link c.args.n c.args.up) (sym c.place.ensures ∙ c.in_default.is))

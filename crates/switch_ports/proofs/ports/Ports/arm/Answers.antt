-- One port changes, at its place.
use Rattle.std.proofs.Common.{◌≡◌, sym, ap, map, ◌∙◌, Some, List}
use Rattle.switch_defs.specs.Switch.{Port}
use Rattle.switch_defs.specs.Sound.{confs}
use Rattle.switch_ports.specs.Index.{place_of}
use Rattle.switch_ports.proofs.Places.{changed_at, index_kept, unchanged}
use Rattle.switch_defs.specs.Session.{armed}
use Rattle.switch_ports.proofs.Changes.{armed_one, hits_arm, spares_arm}
use Rattle.switch_ports.proofs.ports.Ports.arm.Goals as goal

pub invariant_of-self : goal.invariant_of-self
invariant_of-self c =
    index_kept c.self.inside.places c.self.inside.rows.items c.in-Some.place c.index_mut.result.now c.arm.new.self c.self.invariant c.index_mut.ensures.value (ap (λ (p : Port). p.conf) c.arm.ensures)

pub returns-in-Some : goal.returns-in-Some
returns-in-Some c = λ sessions e.
    let here : place_of c.args.n (confs c.self.inside.rows.items) ≡ Some c.in-Some.place = ap (λ (ps : List Port). place_of c.args.n (confs ps)) c.self.view_is ∙ sym c.place.ensures ∙ c.in-Some.is in
    changed_at c.args.n (armed c.args.n sessions c.args.wait) (armed_one c.args.occupied c.args.wait) c.self.inside.rows.items c.in-Some.place c.index_mut.result.now c.arm.new.self (spares_arm c.args.n sessions c.args.wait)
    (hits_arm c.args.n sessions c.args.wait c.args.occupied e) c.self.invariant.ports here c.index_mut.ensures.value c.arm.ensures
    ∙ ap (map (armed c.args.n sessions c.args.wait)) c.self.view_is

pub returns-in_default : goal.returns-in_default
returns-in_default c = λ sessions e. sym (unchanged c.args.n (armed c.args.n sessions c.args.wait) c.args.self.now (spares_arm c.args.n sessions c.args.wait) (sym c.place.ensures ∙ c.in_default.is))

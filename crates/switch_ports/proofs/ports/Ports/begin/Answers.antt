-- The port of the number begins, at its place.
use Rattle.std.proofs.Common.{◌≡◌, ℕ, sym, ap, map, ◌∙◌, Some, None, Option, List, true, is_some}
use Rattle.std.specs.Prelude.{find}
use Rattle.switch_defs.specs.Switch.{Port, is_port}
use Rattle.switch_defs.specs.Sound.{confs}
use Rattle.switch_ports.specs.Index.{place_of}
use Rattle.switch_ports.proofs.Places.{changed_at, index_kept, missing, number_at}
use Rattle.wire_defs.specs.Ethernet.{pae_group}
use Rattle.machine_vars.specs.declared.vars.Vars.{Vars}
use Rattle.machine_defs.specs.Live.{fresh, to_all}
use Rattle.settle_defs.specs.Settle.{settled}
use Rattle.switch_defs.specs.Turn.{with_forced}
use Rattle.switch_ports.specs.Ports.{settled_to, with_said}
use Rattle.switch_ports.proofs.Changes.{hits_forced, spares_forced}
use Rattle.switch_ports.proofs.ports.Ports.begin.Goals as goal

pub unreachable-requires : goal.unreachable-requires
unreachable-requires c =
    let none : find (is_port c.args.n) c.args.self.now ≡ None = missing c.args.n c.args.self.now (sym c.place.ensures ∙ c.in_default.is) in
    let no : is_some {T = Port} None ≡ true = sym (ap (λ (o : Option Port). is_some o) none) ∙ c.requires.there in cc

pub invariant_of-self : goal.invariant_of-self
invariant_of-self c =
    index_kept c.self.inside.places c.self.inside.rows.items c.in-Some.place c.index_mut.result.now c.begin.new.self c.self.invariant c.index_mut.ensures.value (ap (λ (p : Port). p.conf) c.begin.ensures.port)

pub returns-clause-ports : goal.returns-clause-ports
returns-clause-ports c =
    let here : place_of c.args.n (confs c.self.inside.rows.items) ≡ Some c.in-Some.place = ap (λ (ps : List Port). place_of c.args.n (confs ps)) c.self.view_is ∙ sym c.place.ensures ∙ c.in-Some.is in
    let v : Vars = fresh c.args.n c.args.own.0 pae_group c.args.control c.args.times.now in
    let number : c.index_mut.result.now.conf.port ≡ c.args.n = number_at c.args.n c.self.inside.rows.items c.in-Some.place c.index_mut.result.now here c.index_mut.ensures.value in
    let done : c.begin.new.self ≡ settled_to v c.index_mut.result.now =
    c.begin.ensures.port ∙ ap (λ (m : ℕ). settled_to (fresh m c.args.own.0 pae_group c.args.control c.args.times.now) c.index_mut.result.now) number in
    changed_at c.args.n (with_forced c.args.n (to_all (settled v).vars)) (settled_to v) c.self.inside.rows.items c.in-Some.place c.index_mut.result.now c.begin.new.self (spares_forced c.args.n (to_all (settled v).vars))
    (hits_forced c.args.n (to_all (settled v).vars)) c.self.invariant.ports here c.index_mut.ensures.value done
    ∙ ap (map (with_forced c.args.n (to_all (settled v).vars))) c.self.view_is

pub returns-clause-sent : goal.returns-clause-sent
returns-clause-sent c =
    let here : place_of c.args.n (confs c.self.inside.rows.items) ≡ Some c.in-Some.place = ap (λ (ps : List Port). place_of c.args.n (confs ps)) c.self.view_is ∙ sym c.place.ensures ∙ c.in-Some.is in
    let number : c.index_mut.result.now.conf.port ≡ c.args.n = number_at c.args.n c.self.inside.rows.items c.in-Some.place c.index_mut.result.now here c.index_mut.ensures.value in
    c.begin.ensures.sent ∙ ap (λ (m : ℕ). with_said (fresh m c.args.own.0 pae_group c.args.control c.args.times.now) c.args.tray.now) number

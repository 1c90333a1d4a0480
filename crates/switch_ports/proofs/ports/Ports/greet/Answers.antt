-- The port of the number is greeted, at its place.
use Rattle.std.proofs.Common.{◌≡◌, sym, ap, subst, map, ◌∙◌, Some, None, List}
use Rattle.std.specs.Prelude.{find}
use Rattle.switch_defs.specs.Switch.{Port, is_port}
use Rattle.switch_defs.specs.Sound.{confs}
use Rattle.switch_ports.specs.Index.{place_of}
use Rattle.switch_ports.proofs.Places.{changed_at, index_kept, missing, same_one}
use Rattle.machine_vars.specs.declared.vars.Vars.{Vars}
use Rattle.machine_defs.specs.Live.{Greeting, set, to_all}
use Rattle.settle_defs.specs.Settle.{settled}
use Rattle.switch_defs.specs.Turn.{with_forced}
use Rattle.switch_ports.specs.Ports.{IsForced, settled_to, with_said}
use Rattle.switch_ports.proofs.Changes.{hits_forced, spares_forced}
use Rattle.switch_ports.proofs.ports.Ports.greet.Goals as goal

some_none : {q : Port} → Some q ≡ None → ⊥
some_none e = cc

pub unreachable-requires : goal.unreachable-requires
unreachable-requires c = some_none (sym c.requires.forced.1 ∙ missing c.args.n c.args.self.now (sym c.place.ensures ∙ c.in_default.is))

pub greet-requires-clause-forced : goal.greet-requires-clause-forced
greet-requires-clause-forced c =
    let here : place_of c.args.n (confs c.self.inside.rows.items) ≡ Some c.in-Some.place = ap (λ (ps : List Port). place_of c.args.n (confs ps)) c.self.view_is ∙ sym c.place.ensures ∙ c.in-Some.is in
    let found : find (is_port c.args.n) c.self.inside.rows.items ≡ Some c.requires.forced.0 = ap (find (is_port c.args.n)) c.self.view_is ∙ c.requires.forced.1 in
    subst IsForced (sym (same_one c.args.n c.self.inside.rows.items c.in-Some.place c.index_mut.result.now c.requires.forced.0 here c.index_mut.ensures.value found)) c.requires.forced.2

pub invariant_of-self : goal.invariant_of-self
invariant_of-self c =
    index_kept c.self.inside.places c.self.inside.rows.items c.in-Some.place c.index_mut.result.now c.greet.new.self c.self.invariant c.index_mut.ensures.value (ap (λ (p : Port). p.conf) c.greet.ensures.port)

pub returns-clause-ports : goal.returns-clause-ports
returns-clause-ports c = λ q e.
    let here : place_of c.args.n (confs c.self.inside.rows.items) ≡ Some c.in-Some.place = ap (λ (ps : List Port). place_of c.args.n (confs ps)) c.self.view_is ∙ sym c.place.ensures ∙ c.in-Some.is in
    let found : find (is_port c.args.n) c.self.inside.rows.items ≡ Some q = ap (find (is_port c.args.n)) c.self.view_is ∙ e in
    let same : c.index_mut.result.now ≡ q = same_one c.args.n c.self.inside.rows.items c.in-Some.place c.index_mut.result.now q here c.index_mut.ensures.value found in
    let v : Vars = set (Greeting c.args.from.0) q.forced in
    let done : c.greet.new.self ≡ settled_to v c.index_mut.result.now = c.greet.ensures.port ∙ ap (λ (p : Port). settled_to (set (Greeting c.args.from.0) p.forced) c.index_mut.result.now) same in
    changed_at c.args.n (with_forced c.args.n (to_all (settled v).vars)) (settled_to v) c.self.inside.rows.items c.in-Some.place c.index_mut.result.now c.greet.new.self (spares_forced c.args.n (to_all (settled v).vars))
    (hits_forced c.args.n (to_all (settled v).vars)) c.self.invariant.ports here c.index_mut.ensures.value done
    ∙ ap (map (with_forced c.args.n (to_all (settled v).vars))) c.self.view_is

pub returns-clause-sent : goal.returns-clause-sent
returns-clause-sent c = λ q e.
    let here : place_of c.args.n (confs c.self.inside.rows.items) ≡ Some c.in-Some.place = ap (λ (ps : List Port). place_of c.args.n (confs ps)) c.self.view_is ∙ sym c.place.ensures ∙ c.in-Some.is in
    let found : find (is_port c.args.n) c.self.inside.rows.items ≡ Some q = ap (find (is_port c.args.n)) c.self.view_is ∙ e in
    let same : c.index_mut.result.now ≡ q = same_one c.args.n c.self.inside.rows.items c.in-Some.place c.index_mut.result.now q here c.index_mut.ensures.value found in
    c.greet.ensures.sent ∙ ap (λ (p : Port). with_said (set (Greeting c.args.from.0) p.forced) c.args.tray.now) same

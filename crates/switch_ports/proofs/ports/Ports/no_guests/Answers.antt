-- One port changes, at its place.
use Rattle.std.proofs.Common.{◌≡◌, sym, ap, map, ◌∙◌, Some, List, false}
use Rattle.switch_defs.specs.Switch.{Port}
use Rattle.switch_defs.specs.Sound.{confs}
use Rattle.switch_ports.specs.Ports.{lets_guests}
use Rattle.switch_ports.specs.Index.{place_of}
use Rattle.switch_ports.proofs.Places.{changed_at, guests_at, index_kept, no_guests_missing, unchanged}
use Rattle.switch_defs.specs.Session.{unguested}
use Rattle.switch_ports.proofs.Changes.{hits_guests, spares_guests}
use Rattle.switch_ports.proofs.ports.Ports.no_guests.Goals as goal

pub returns-in_default-clause-ports : goal.returns-in_default-clause-ports
returns-in_default-clause-ports c = sym (unchanged c.args.n (unguested c.args.n) c.args.self.now (spares_guests c.args.n) (sym c.place.ensures ∙ c.in_default.is))

pub returns-in_default-clause-were : goal.returns-in_default-clause-were
returns-in_default-clause-were c = no_guests_missing c.args.n c.args.self.now (sym c.place.ensures ∙ c.in_default.is)

pub invariant_of-self : goal.invariant_of-self
invariant_of-self c =
    index_kept c.self.inside.places c.self.inside.rows.items c.in-Some.place c.index_mut-row.result.now c.no_guests.new.self c.self.invariant c.index_mut-row.ensures.value (ap (λ (p : Port). p.conf) c.no_guests.ensures)

pub returns-clause-ports : goal.returns-clause-ports
returns-clause-ports c =
    let here : place_of c.args.n (confs c.self.inside.rows.items) ≡ Some c.in-Some.place = ap (λ (ps : List Port). place_of c.args.n (confs ps)) c.self.view_is ∙ sym c.place.ensures ∙ c.in-Some.is in
    changed_at c.args.n (unguested c.args.n) (λ p. record p { guest_while = 0; guest_open = false }) c.self.inside.rows.items c.in-Some.place c.index_mut-row.result.now c.no_guests.new.self (spares_guests c.args.n) (hits_guests c.args.n)
    c.self.invariant.ports here c.index_mut-row.ensures.value c.no_guests.ensures
    ∙ ap (map (unguested c.args.n)) c.self.view_is

pub returns-clause-were : goal.returns-clause-were
returns-clause-were c =
    let here : place_of c.args.n (confs c.self.inside.rows.items) ≡ Some c.in-Some.place = ap (λ (ps : List Port). place_of c.args.n (confs ps)) c.self.view_is ∙ sym c.place.ensures ∙ c.in-Some.is in
    c.guest_open-were.ensures ∙ guests_at c.args.n c.self.inside.rows.items c.in-Some.place c.index_mut-row.result.now c.self.invariant.ports here c.index_mut-row.ensures.value ∙ ap (lets_guests c.args.n) c.self.view_is

-- A link that is so already, one that comes up, and one that goes down.
use Rattle.std.proofs.Common.{◌≡◌, ◌∙◌, ℕ, Bool, Option, Some, length, refl, sym, ap, subst, arith, ◌≤◌}
use Rattle.std.specs.Prelude.{find}
use mathlib.Core.Bool.{beq}
use Rattle.switch_event.specs.declared.event.Outcome.TheVariants.{Done}
use Rattle.switch_defs.specs.Switch.{Did, Port, State, is_port, only, port_of, turned, most_sessions}
use Rattle.switch_defs.specs.Turn.{close_port, do_link, port_up, set_link, with_link}
use Rattle.switch_defs.proofs.Soundness.{sessions_are_few}
use Rattle.machine_defs.specs.BackendTable.{is_auto}
use Rattle.control_core.specs.declared.state.Core.{Core}
use Rattle.control_core.specs.Stands.{Holds}
use Rattle.control_core.specs.Does.{Turns}
use Rattle.control_core.specs.Walked.{MayClose}
use Rattle.control_core.proofs.Linking.{link_comes, link_goes, link_same, link_told, linked_holds, mapped, may_close_down, nothing_sent, number, up_linked}
use Rattle.control_core.proofs.state.Core.do_link.Goals as goal

here : (core : Core) (s : State) (n : ℕ) (q : Port) → Holds core s → Some q ≡ find (is_port n) core.ports → port_of n s ≡ Some q
here core s n q h e = ap (find (is_port n)) (sym h.ports) ∙ sym e

linked : (s : State) (n : ℕ) (up : Bool) (q : Port) → port_of n s ≡ Some q → port_of n (set_link n up s) ≡ Some (with_link n up q)
linked s n up q e = mapped n (with_link n up) (λ p. refl) s.ports q e

pub returns-then-link-up-clause-turns : goal.returns-then-link-up-clause-turns
returns-then-link-up-clause-turns c = λ s m.
    let q : Port = c.in-Some.port.now in
    let p : port_of c.args.n s ≡ Some q = here c.args.self.now s c.args.n q m.stands.holds c.in-Some.ensures in
    let same : do_link c.args.up (port_of c.args.n s) s ≡ only s = ap (λ (o : Option Port). do_link c.args.up o s) p ∙ link_same q.link c.args.up q s (ap (λ (b : Bool). beq b c.args.up) (sym c.link.ensures) ∙ c.if-link-up.true) in
    subst (λ (d : Did). Turns s (turned Done d) c.args.self.now Done c.args.tray.now c.args.tray.now c.args.items.now.items c.args.items.now.items) (sym same)
    (record { holds = m.stands.holds; became = refl; sent = nothing_sent c.args.tray.now; told = λ start b. b })

pub port_up-requires-clause-may : goal.port_up-requires-clause-may
port_up-requires-clause-may c =
    let s : State = c.requires.may.0 in
    let m = c.requires.may.1 in
    let q : Port = c.in-Some.port.now in
    let p : port_of c.args.n s ≡ Some q = here c.args.self.now s c.args.n q m.stands.holds c.in-Some.ensures in
    (set_link c.args.n c.args.up s, with_link c.args.n c.args.up q, linked s c.args.n c.args.up q p, linked_holds c.args.self.now s c.args.n c.args.up c.set_link.new.self m.stands.holds c.set_link.ensures, m.stands.sound.times)

pub close_port-requires : goal.close_port-requires
close_port-requires c =
    let s : State = c.requires.may.0 in
    let m = c.requires.may.1 in
    let q : Port = c.in-Some.port.now in
    let p : port_of c.args.n s ≡ Some q = here c.args.self.now s c.args.n q m.stands.holds c.in-Some.ensures in
    let few : length s.sessions ≤ most_sessions = sessions_are_few c.args.self.now.made s m.stands.sound in
    record {
      may = (
        set_link c.args.n c.args.up s,
        may_close_down (record c.args.self.now { ports = c.set_link.new.self }) s c.args.n c.args.up q m.stands.sound p (linked_holds c.args.self.now s c.args.n c.args.up c.set_link.new.self m.stands.holds c.set_link.ensures),
        omega (arith, few, c.push.ensures.len, c.requires.new),
      );
    }

pub returns-then-up-clause-turns : goal.returns-then-up-clause-turns
returns-then-up-clause-turns c = λ s m.
    let q : Port = c.in-Some.port.now in
    let p : port_of c.args.n s ≡ Some q = here c.args.self.now s c.args.n q m.stands.holds c.in-Some.ensures in
    let n : q.conf.port ≡ c.args.n = number c.args.n s q p in
    let u : State = set_link c.args.n c.args.up s in
    let d = c.port_up.ensures.does u (with_link c.args.n c.args.up q) c.push.new.self.items (linked s c.args.n c.args.up q p) (linked_holds c.args.self.now s c.args.n c.args.up c.set_link.new.self m.stands.holds c.set_link.ensures) m.stands.sound.times in
    let is : do_link c.args.up (port_of c.args.n s) s ≡ port_up (with_link c.args.n c.args.up q) c.control-control.result u =
    ap (λ (o : Option Port). do_link c.args.up o s) p ∙ link_comes q.link c.args.up q s (ap (λ (b : Bool). beq b c.args.up) (sym c.link.ensures) ∙ c.if-link-up.false) c.if-up.true ∙ (λ i. port_up q (sym c.control-control.ensures i) (set_link (n i) (sym c.if-up.true i) s)) ∙ sym (up_linked (is_auto c.control-control.result) c.args.n c.args.up q c.control-control.result u) in
    subst (λ (d : Did). Turns s (turned Done d) c.port_up.new.self Done c.args.tray.now c.port_up.new.tray c.args.items.now.items c.push.new.self.items) (sym is)
    (record { holds = d.holds; became = refl; sent = d.sent; told = λ start b. d.told start (link_told s c.args.n c.args.up q c.args.items.now.items c.push.new.self.items p c.push.ensures.items start b) })

pub returns-else-up-clause-turns : goal.returns-else-up-clause-turns
returns-else-up-clause-turns c = λ s m.
    let q : Port = c.in-Some.port.now in
    let p : port_of c.args.n s ≡ Some q = here c.args.self.now s c.args.n q m.stands.holds c.in-Some.ensures in
    let n : q.conf.port ≡ c.args.n = number c.args.n s q p in
    let u : State = set_link c.args.n c.args.up s in
    let k : MayClose c.args.n (record c.args.self.now { ports = c.set_link.new.self }) u =
    may_close_down (record c.args.self.now { ports = c.set_link.new.self }) s c.args.n c.args.up q m.stands.sound p (linked_holds c.args.self.now s c.args.n c.args.up c.set_link.new.self m.stands.holds c.set_link.ensures) in
    let is : do_link c.args.up (port_of c.args.n s) s ≡ only (close_port c.args.n u) =
    ap (λ (o : Option Port). do_link c.args.up o s) p ∙ link_goes q.link c.args.up q s (ap (λ (b : Bool). beq b c.args.up) (sym c.link.ensures) ∙ c.if-link-up.false) c.if-up.false ∙ (λ i. only (close_port (n i) (set_link (n i) (sym c.if-up.false i) s))) in
    subst (λ (d : Did). Turns s (turned Done d) c.close_port.new.self Done c.args.tray.now c.args.tray.now c.args.items.now.items c.close_port.new.items.items) (sym is)
    (record {
      holds = c.close_port.ensures.holds u k;
      became = refl;
      sent = nothing_sent c.args.tray.now;
      told = λ start b. c.close_port.ensures.told u k start (link_told s c.args.n c.args.up q c.args.items.now.items c.push.new.self.items p c.push.ensures.items start b);
    })

pub returns-else-up-clause-few : goal.returns-else-up-clause-few
returns-else-up-clause-few c = λ s m.
    let q : Port = c.in-Some.port.now in
    let p : port_of c.args.n s ≡ Some q = here c.args.self.now s c.args.n q m.stands.holds c.in-Some.ensures in
    let u : State = set_link c.args.n c.args.up s in
    let k : MayClose c.args.n (record c.args.self.now { ports = c.set_link.new.self }) u =
    may_close_down (record c.args.self.now { ports = c.set_link.new.self }) s c.args.n c.args.up q m.stands.sound p (linked_holds c.args.self.now s c.args.n c.args.up c.set_link.new.self m.stands.holds c.set_link.ensures) in
    omega (arith, c.close_port.ensures.few u k, c.push.ensures.len, c.requires.new)

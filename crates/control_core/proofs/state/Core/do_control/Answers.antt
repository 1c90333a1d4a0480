-- A control that is so already; else the port closes, and begins anew where it is up.
use Rattle.std.proofs.Common.{◌≡◌, ◌∙◌, ℕ, Bool, true, false, List, Option, Some, length, refl, sym, ap, subst, arith, ◌≤◌}
use Rattle.std.specs.Prelude.{find}
use Rattle.machine_vars.specs.declared.control.Control.{Control}
use Rattle.machine_defs.specs.BackendTable.{is_auto}
use Rattle.machine_defs.specs.Live.{InRange}
use Rattle.machine_defs.specs.PaeTable.{same_control}
use Rattle.switch_event.specs.Config.{Config}
use Rattle.switch_event.specs.declared.config.PortConf.{PortConf}
use Rattle.switch_event.specs.declared.event.Outcome.TheVariants.{Done}
use Rattle.switch_defs.specs.Switch.{Did, Port, State, is_port, only, port_of, turned, most_sessions}
use Rattle.switch_defs.specs.Turn.{close_port, control_by, do_control, port_up, set_control, up_if, with_control}
use Rattle.switch_defs.specs.Sound.{confs}
use Rattle.switch_defs.proofs.Keeping.{kept_close_port}
use Rattle.switch_defs.proofs.Soundness.{sessions_are_few}
use Rattle.table_defs.proofs.Told.{has_conf}
use Rattle.table_defs.specs.Told.{HasConf}
use Rattle.control_core.specs.declared.state.Core.{Core}
use Rattle.control_core.specs.Stands.{Holds}
use Rattle.control_core.specs.Does.{Turns}
use Rattle.control_core.proofs.Linking.{control_told, controlled_holds, mapped, may_close, nothing_sent, number, same_conf, up_conf}
use Rattle.control_core.proofs.state.Core.do_control.Goals as goal

here : (core : Core) (s : State) (n : ℕ) (q : Port) → Holds core s → Some q ≡ find (is_port n) core.ports → port_of n s ≡ Some q
here core s n q h e = ap (find (is_port n)) (sym h.ports) ∙ sym e

-- the port once its sessions are closed, and its control set
controlled : (s : State) (n : ℕ) (control : Control) (q : Port) → port_of n s ≡ Some q → (o : Port) × (port_of n (set_control n control (close_port n s)) ≡ Some o) × (o.conf ≡ q.conf)
controlled s n control q e =
    let k = same_conf n (close_port n s).ports s.ports q (kept_close_port n s).confs e in
    (with_control n control k.0, mapped n (with_control n control) (λ p. refl) (close_port n s).ports k.0 k.1, k.2)

after_by : (same : Bool) (link : Bool) (control : Control) (q : Port) (s : State) → same ≡ false → q.link ≡ link → control_by same control q s ≡ up_if link q control (set_control q.conf.port control (close_port q.conf.port s))
after_by true link control q s e l = cc
after_by false link control q s e l = ap (λ (b : Bool). up_if b q control (set_control q.conf.port control (close_port q.conf.port s))) l

same_by : (same : Bool) (control : Control) (q : Port) (s : State) → same ≡ true → control_by same control q s ≡ only s
same_by true control q s e = refl
same_by false control q s e = cc

pub returns-then-is_same-clause-turns : goal.returns-then-is_same-clause-turns
returns-then-is_same-clause-turns c = λ s m.
    let q : Port = c.in-Some.port.now in
    let p : port_of c.args.n s ≡ Some q = here c.args.self.now s c.args.n q m.stands.holds c.in-Some.ensures in
    let yes : same_control q.control c.args.control ≡ true = ap (λ (k : Control). same_control k c.args.control) (sym c.control.ensures) ∙ sym c.is_same.ensures ∙ c.if-is_same.true in
    let is : do_control c.args.control (port_of c.args.n s) s ≡ only s = ap (λ (o : Option Port). do_control c.args.control o s) p ∙ same_by (same_control q.control c.args.control) c.args.control q s yes in
    subst (λ (d : Did). Turns s (turned Done d) c.args.self.now Done c.args.tray.now c.args.tray.now c.args.items.now.items c.args.items.now.items) (sym is)
    (record { holds = m.stands.holds; became = refl; sent = nothing_sent c.args.tray.now; told = λ start b. b })

pub close_port-requires : goal.close_port-requires
close_port-requires c =
    let s : State = c.requires.may.0 in
    let m = c.requires.may.1 in
    let q : Port = c.in-Some.port.now in
    let p : port_of c.args.n s ≡ Some q = here c.args.self.now s c.args.n q m.stands.holds c.in-Some.ensures in
    let few : length s.sessions ≤ most_sessions = sessions_are_few c.args.self.now.made s m.stands.sound in
    record { may = (s, may_close c.args.self.now s c.args.n q m.stands.sound p m.stands.holds, omega (arith, few, c.requires.new)) }

pub push-requires : goal.push-requires
push-requires c =
    let s : State = c.requires.may.0 in
    let m = c.requires.may.1 in
    let q : Port = c.in-Some.port.now in
    let p : port_of c.args.n s ≡ Some q = here c.args.self.now s c.args.n q m.stands.holds c.in-Some.ensures in
    let few : length s.sessions ≤ most_sessions = sessions_are_few c.args.self.now.made s m.stands.sound in
    let l = c.close_port.ensures.few s (may_close c.args.self.now s c.args.n q m.stands.sound p m.stands.holds) in
    omega (arith, few, l, c.requires.new)

pub port_up-requires-clause-may : goal.port_up-requires-clause-may
port_up-requires-clause-may c =
    let s : State = c.requires.may.0 in
    let m = c.requires.may.1 in
    let q : Port = c.in-Some.port.now in
    let p : port_of c.args.n s ≡ Some q = here c.args.self.now s c.args.n q m.stands.holds c.in-Some.ensures in
    let h = c.close_port.ensures.holds s (may_close c.args.self.now s c.args.n q m.stands.sound p m.stands.holds) in
    let k = controlled s c.args.n c.args.control q p in (
      set_control c.args.n c.args.control (close_port c.args.n s),
      k.0,
      k.1,
      controlled_holds c.close_port.new.self (close_port c.args.n s) c.args.n c.args.control c.set_control.new.self h c.set_control.ensures,
      subst (λ (f : Config). InRange f.times) (sym (kept_close_port c.args.n s).config) m.stands.sound.times,
    )

pub returns-then-link-clause-turns : goal.returns-then-link-clause-turns
returns-then-link-clause-turns c = λ s m.
    let q : Port = c.in-Some.port.now in
    let p : port_of c.args.n s ≡ Some q = here c.args.self.now s c.args.n q m.stands.holds c.in-Some.ensures in
    let mc = may_close c.args.self.now s c.args.n q m.stands.sound p m.stands.holds in
    let n : q.conf.port ≡ c.args.n = number c.args.n s q p in
    let u : State = close_port c.args.n s in
    let v : State = set_control c.args.n c.args.control u in
    let k = controlled s c.args.n c.args.control q p in
    let h = controlled_holds c.close_port.new.self u c.args.n c.args.control c.set_control.new.self (c.close_port.ensures.holds s mc) c.set_control.ensures in
    let no : same_control q.control c.args.control ≡ false = ap (λ (k : Control). same_control k c.args.control) (sym c.control.ensures) ∙ sym c.is_same.ensures ∙ c.if-is_same.false in
    let conf : HasConf (confs u.ports) c.args.n = subst (λ (cs : List PortConf). HasConf cs c.args.n) (sym (kept_close_port c.args.n s).confs) (has_conf s c.args.n q p) in
    let times : InRange v.config.times = subst (λ (f : Config). InRange f.times) (sym (kept_close_port c.args.n s).config) m.stands.sound.times in
    let d = c.port_up.ensures.does v k.0 c.push.new.self.items k.1 h times in
    let is : do_control c.args.control (port_of c.args.n s) s ≡ port_up k.0 c.args.control v =
    ap (λ (o : Option Port). do_control c.args.control o s) p ∙ after_by (same_control q.control c.args.control) true c.args.control q s no (sym c.link-link.ensures ∙ c.if-link.true)
    ∙ (λ i. port_up q c.args.control (set_control (n i) c.args.control (close_port (n i) s))) ∙ up_conf (is_auto c.args.control) q k.0 c.args.control v (sym k.2) in
    subst (λ (d : Did). Turns s (turned Done d) c.port_up.new.self Done c.args.tray.now c.port_up.new.tray c.args.items.now.items c.push.new.self.items) (sym is)
    (record {
      holds = d.holds;
      became = refl;
      sent = d.sent;
      told = λ start b. d.told start (control_told u c.args.n c.args.control c.close_port.new.items.items c.push.new.self.items conf c.push.ensures.items start (c.close_port.ensures.told s mc start b));
    })

pub returns-else-link-clause-turns : goal.returns-else-link-clause-turns
returns-else-link-clause-turns c = λ s m.
    let q : Port = c.in-Some.port.now in
    let p : port_of c.args.n s ≡ Some q = here c.args.self.now s c.args.n q m.stands.holds c.in-Some.ensures in
    let mc = may_close c.args.self.now s c.args.n q m.stands.sound p m.stands.holds in
    let n : q.conf.port ≡ c.args.n = number c.args.n s q p in
    let u : State = close_port c.args.n s in
    let v : State = set_control c.args.n c.args.control u in
    let k = controlled s c.args.n c.args.control q p in
    let h = controlled_holds c.close_port.new.self u c.args.n c.args.control c.set_control.new.self (c.close_port.ensures.holds s mc) c.set_control.ensures in
    let no : same_control q.control c.args.control ≡ false = ap (λ (k : Control). same_control k c.args.control) (sym c.control.ensures) ∙ sym c.is_same.ensures ∙ c.if-is_same.false in
    let conf : HasConf (confs u.ports) c.args.n = subst (λ (cs : List PortConf). HasConf cs c.args.n) (sym (kept_close_port c.args.n s).confs) (has_conf s c.args.n q p) in
    let is : do_control c.args.control (port_of c.args.n s) s ≡ only v =
    ap (λ (o : Option Port). do_control c.args.control o s) p ∙ after_by (same_control q.control c.args.control) false c.args.control q s no (sym c.link-link.ensures ∙ c.if-link.false)
    ∙ (λ i. only (set_control (n i) c.args.control (close_port (n i) s))) in
    subst (λ (d : Did). Turns s (turned Done d) (record c.close_port.new.self { ports = c.set_control.new.self }) Done c.args.tray.now c.args.tray.now c.args.items.now.items c.push.new.self.items) (sym is)
    (record {
      holds = h;
      became = refl;
      sent = nothing_sent c.args.tray.now;
      told = λ start b. control_told u c.args.n c.args.control c.close_port.new.items.items c.push.new.self.items conf c.push.ensures.items start (c.close_port.ensures.told s mc start b);
    })

pub returns-then-link-clause-few : goal.returns-then-link-clause-few
returns-then-link-clause-few c = λ s m.
    let q : Port = c.in-Some.port.now in
    let p : port_of c.args.n s ≡ Some q = here c.args.self.now s c.args.n q m.stands.holds c.in-Some.ensures in
    let mc = may_close c.args.self.now s c.args.n q m.stands.sound p m.stands.holds in
    omega (arith, c.close_port.ensures.few s mc, c.push.ensures.len, c.requires.new)

pub returns-else-link-clause-few : goal.returns-else-link-clause-few
returns-else-link-clause-few c = λ s m.
    let q : Port = c.in-Some.port.now in
    let p : port_of c.args.n s ≡ Some q = here c.args.self.now s c.args.n q m.stands.holds c.in-Some.ensures in
    let mc = may_close c.args.self.now s c.args.n q m.stands.sound p m.stands.holds in
    omega (arith, c.close_port.ensures.few s mc, c.push.ensures.len, c.requires.new)

-- An Auto port is armed and asks; a forced one says what is decided.
use Rattle.std.proofs.Common.{◌≡◌, ◌∙◌, ◌++◌, [], ◌∷◌, ℕ, Bool, true, false, List, Some, refl, sym, ap, subst, map}
use Rattle.std.specs.Cmp.{unsigned_Decides}
use Rattle.wire_defs.specs.Ethernet.{pae_group}
use Rattle.machine_vars.specs.declared.control.Control.{Control}
use Rattle.machine_defs.specs.BackendTable.{is_auto}
use Rattle.machine_defs.specs.Live.{fresh}
use Rattle.switch_event.specs.Config.{Config}
use Rattle.switch_event.specs.Sent.{ToHost}
use Rattle.switch_event.specs.Frames.{eap_frame}
use Rattle.switch_defs.specs.Switch.{Port, State, is_port, port_address, port_of}
use Rattle.switch_defs.specs.Session.{armed}
use Rattle.switch_defs.specs.Turn.{up_by}
use Rattle.switch_defs.specs.Decide.{view}
use Rattle.switch_defs.proofs.Lists.{in_found}
use Rattle.switch_defs.proofs.Keeping.{confs_map}
use Rattle.switch_defs.specs.Moving.{stays}
use Rattle.table_defs.proofs.Told.{by_none}
use Rattle.table_defs.specs.declared.change.Item.{Item}
use Rattle.table_defs.specs.Change.{item_of}
use Rattle.switch_ports.specs.Ports.{settled_at, with_said}
use Rattle.turn_defs.proofs.Parts.{tells_none}
use Rattle.control_core.specs.declared.state.Core.{Core}
use Rattle.control_core.specs.Stands.{Holds, Lags}
use Rattle.control_core.specs.Does.{Does, TellsOn}
use Rattle.control_core.proofs.state.Core.port_up.Goals as goal

views_map : (f : Port → Port) → ((p : Port) → view (f p) ≡ view p) → (ps : List Port) → map view ps ≡ map view (map f ps)
views_map f e [] = refl
views_map f e (p ∷ ps) = λ i. sym (e p) i ∷ views_map f e ps i

number : (n : ℕ) (s : State) (q : Port) → port_of n s ≡ Some q → q.conf.port ≡ n
number n s q e = (unsigned_Decides q.conf.port n).0 (in_found (is_port n) s.ports q e).1

-- nothing is told of it
quiet : (b : Bool) (q : Port) (control : Control) (s : State) (items : List Item) → TellsOn s (up_by b q control s).state items items
quiet true q control s items = tells_none (map item_of items) s (up_by true q control s).state (by_none s (up_by true q control s).state (views_map _ (λ p. refl) s.ports) (confs_map _ (λ p. refl) s.ports) refl (record { by = stays }))
quiet false q control s items = tells_none (map item_of items) s (up_by false q control s).state (by_none s (up_by false q control s).state (views_map _ (λ p. refl) s.ports) (confs_map _ (λ p. refl) s.ports) refl (record { by = stays }))

armed_lags : (n : ℕ) (q : Port) (core : Core) (control : Control) (s : State) → q.conf.port ≡ n → Holds core s → Lags true n core (up_by true q control s).state
armed_lags n q core control s e h = record {
  config = h.config;
  clock = h.clock;
  ports = λ i. map (armed (e i) s.sessions s.config.guest_wait) (sym h.ports i);
  sessions = record { table = h.sessions.table; sessions = h.sessions.sessions; waits = h.sessions.waits; asked = h.sessions.asked; next = h.sessions.next };
  kept = h.kept;
}

pub returns-then-is_auto-clause-does : goal.returns-then-is_auto-clause-does
returns-then-is_auto-clause-does c = λ s q items e h r.
    let same : q.conf.port ≡ c.args.n = number c.args.n s q e in
    let auto : is_auto c.args.control ≡ true = sym c.is_auto.ensures ∙ c.if-is_auto.true in
    let own : c.own-own.result.0 ≡ port_address s.config.bridge q.conf.port = c.own-own.ensures ∙ (λ i. port_address (h.config i).bridge (sym same i)) in
    subst (λ (b : Bool). Does s (up_by b q c.args.control s) c.arm.new.self c.args.tray.now c.put.new.tray items items) (sym auto) (record {
      holds = c.arm.ensures.holds (up_by true q c.args.control s).state (armed_lags c.args.n q c.args.self.now c.args.control s same h);
      sent = c.put.ensures.items ∙ (λ i. record c.args.tray.now { items = c.args.tray.now.items ++ ToHost (sym same i) (eap_frame pae_group (own i) (c.identity_request.ensures.text i)) ∷ [] });
      told = quiet true q c.args.control s items;
    })

pub returns-else-is_auto-clause-does : goal.returns-else-is_auto-clause-does
returns-else-is_auto-clause-does c = λ s q items e h r.
    let same : q.conf.port ≡ c.args.n = number c.args.n s q e in
    let auto : is_auto c.args.control ≡ false = sym c.is_auto.ensures ∙ c.if-is_auto.false in
    let own : c.own-own.result.0 ≡ port_address s.config.bridge q.conf.port = c.own-own.ensures ∙ (λ i. port_address (h.config i).bridge (sym same i)) in
    let t : c.times-times.result ≡ s.config.times = c.times-times.ensures ∙ ap (λ (k : Config). k.times) h.config in
    let core : Core = record c.args.self.now { ports = c.begin.new.self } in
    subst (λ (b : Bool). Does s (up_by b q c.args.control s) core c.args.tray.now c.begin.new.tray items items) (sym auto) (record {
      holds = record {
        config = h.config;
        clock = h.clock;
        ports = c.begin.ensures.ports ∙ (λ i. settled_at (sym same i) (fresh (sym same i) (own i) pae_group c.args.control (t i)) (h.ports i));
        sessions = record { table = h.sessions.table; sessions = h.sessions.sessions; waits = h.sessions.waits; asked = h.sessions.asked; next = h.sessions.next };
        kept = h.kept;
      };
      sent = c.begin.ensures.sent ∙ (λ i. with_said (fresh (sym same i) (own i) pae_group c.args.control (t i)) c.args.tray.now);
      told = quiet false q c.args.control s items;
    })

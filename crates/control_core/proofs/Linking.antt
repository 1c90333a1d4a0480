-- Links and controls, as what is kept and what is told.
use Rattle.std.proofs.Common.{◌≡◌, ◌∙◌, ◌++◌, [], ◌∷◌, ℕ, Bool, true, false, List, Some, cond, map, refl, sym, ap, subst}
use Rattle.std.specs.Prelude.{find, ◌==◌}
use mathlib.Core.Bool.{beq}
use Rattle.std.specs.Cmp.{unsigned_Decides}
use Rattle.std.proofs.lemmas.List.{append-nil, map-append}
use Rattle.machine_vars.specs.declared.control.Control.{Control}
use Rattle.out_tray.specs.Tray.{Things}
use Rattle.switch_event.specs.declared.config.PortConf.{PortConf}
use Rattle.typed_session.specs.Follows.{with_sent}
use Rattle.switch_defs.specs.Switch.{Port, State, is_port, only, port_of}
use Rattle.switch_defs.specs.Turn.{link_by, port_up, close_port, set_control, set_link, up_by, with_control, with_link}
use Rattle.switch_defs.specs.Sound.{IsSound, confs}
use Rattle.switch_defs.proofs.Lists.{each_in, in_found}
use Rattle.switch_defs.proofs.Keeping.{confs_map}
use Rattle.table_defs.specs.Table as table
use Rattle.table_defs.proofs.Told.{by_set_control, by_set_link, has_conf, restricted_sound, session_conf}
use Rattle.table_defs.specs.Told.{AreConfigured, AreRestricted, HasConf}
use Rattle.table_defs.specs.declared.change.Item.{Item}
use Rattle.table_defs.specs.declared.change.Item.TheVariants as now
use Rattle.table_defs.specs.Change.{item_of}
use Rattle.turn_defs.proofs.Parts.{tells_one}
use Rattle.control_core.specs.declared.state.Core.{Core}
use Rattle.control_core.specs.Stands.{Holds}
use Rattle.control_core.specs.Does.{TellsOn}
use Rattle.control_core.specs.Walked.{MayClose}

pub nothing_sent : (t : Things) → t ≡ with_sent [] t
nothing_sent t = λ i. record t { items = sym (append-nil t.items) i }

pub number : (n : ℕ) (s : State) (q : Port) → port_of n s ≡ Some q → q.conf.port ≡ n
number n s q e = (unsigned_Decides q.conf.port n).0 (in_found (is_port n) s.ports q e).1

mapped_by : (n : ℕ) (f : Port → Port) (p q : Port) (ps : List Port) (a b : Bool) → a ≡ b → (find (is_port n) ps ≡ Some q → find (is_port n) (map f ps) ≡ Some (f q)) → cond b (Some p) (find (is_port n) ps) ≡ Some q →
    cond a (Some (f p)) (find (is_port n) (map f ps)) ≡ Some (f q)
mapped_by n f p q ps true true e g h = let same : p ≡ q = cc in ap (λ (r : Port). Some (f r)) same
mapped_by n f p q ps true false e g h = cc
mapped_by n f p q ps false true e g h = cc
mapped_by n f p q ps false false e g h = g h

-- the port of a number, once ports changed but for their settings
pub mapped : (n : ℕ) (f : Port → Port) → ((p : Port) → is_port n (f p) ≡ is_port n p) → (ps : List Port) (q : Port) → find (is_port n) ps ≡ Some q → find (is_port n) (map f ps) ≡ Some (f q)
mapped n f k [] q e = cc
mapped n f k (p ∷ ps) q e = mapped_by n f p q ps (is_port n (f p)) (is_port n p) (k p) (mapped n f k ps q) e

pub link_same : (was up : Bool) (q : Port) (s : State) → beq was up ≡ true → link_by was up q s ≡ only s
link_same true true q s e = refl
link_same true false q s e = cc
link_same false true q s e = cc
link_same false false q s e = refl

pub link_comes : (was up : Bool) (q : Port) (s : State) → beq was up ≡ false → up ≡ true → link_by was up q s ≡ port_up q q.control (set_link q.conf.port true s)
link_comes true true q s d e = cc
link_comes true false q s d e = cc
link_comes false true q s d e = refl
link_comes false false q s d e = cc

pub link_goes : (was up : Bool) (q : Port) (s : State) → beq was up ≡ false → up ≡ false → link_by was up q s ≡ only (close_port q.conf.port (set_link q.conf.port false s))
link_goes true true q s d e = cc
link_goes true false q s d e = refl
link_goes false true q s d e = cc
link_goes false false q s d e = cc

-- a port begins by its settings alone
pub up_linked : (b : Bool) (n : ℕ) (up : Bool) (q : Port) (control : Control) (s : State) → up_by b (with_link n up q) control s ≡ up_by b q control s
up_linked true n up q control s = refl
up_linked false n up q control s = refl

pub up_controlled : (b : Bool) (n : ℕ) (c : Control) (q : Port) (control : Control) (s : State) → up_by b (with_control n c q) control s ≡ up_by b q control s
up_controlled true n c q control s = refl
up_controlled false n c q control s = refl

pub linked_holds : (core : Core) (s : State) (n : ℕ) (up : Bool) (ports : List Port) → Holds core s → ports ≡ map (with_link n up) core.ports → Holds (record core { ports = ports }) (set_link n up s)
linked_holds core s n up ports h e = record {
  config = h.config;
  clock = h.clock;
  ports = e ∙ ap (map (with_link n up)) h.ports;
  sessions = record { table = h.sessions.table; sessions = h.sessions.sessions; waits = h.sessions.waits; asked = h.sessions.asked; next = h.sessions.next };
  kept = h.kept;
}

pub link_told : (s : State) (n : ℕ) (up : Bool) (q : Port) (before after : List Item) → port_of n s ≡ Some q → after ≡ before ++ now.Link n up ∷ [] → TellsOn s (set_link n up s) before after
link_told s n up q before after e k =
    tells_one (map item_of before) (map item_of after) (table.Link n up) s (set_link n up s) (by_set_link n up s (has_conf s n q e)) (ap (map item_of) k ∙ map-append item_of before (now.Link n up ∷ []))

-- a port whose link went down may be closed
pub may_close_down : {turns : ℕ} (core : Core) (s : State) (n : ℕ) (up : Bool) (q : Port) → IsSound turns s → port_of n s ≡ Some q → Holds core (set_link n up s) → MayClose n core (set_link n up s)
may_close_down core s n up q a e h =
    let same : confs (set_link n up s).ports ≡ confs s.ports = confs_map (with_link n up) (λ p. refl) s.ports in
    record {
      holds = h;
      closes = record {
        here = subst (λ (cs : List PortConf). HasConf cs n) (sym same) (has_conf s n q e);
        hosts = subst (λ (cs : List PortConf). AreConfigured cs s.sessions) (sym same) (each_in (λ y. HasConf (confs s.ports) y.host.port) s.sessions (λ y i. session_conf s y a i));
        restricted = subst AreRestricted (sym same) (restricted_sound s a);
        vlans = a.vlans;
      };
      hosts = a.hosts;
    }

-- the port of a number has its settings, whatever else of the ports changed
same_first : (n : ℕ) (p r : Port) (ps rs : List Port) (q : Port) (b : Bool) → p.conf ≡ r.conf → is_port n r ≡ b → (find (is_port n) rs ≡ Some q → (o : Port) × (find (is_port n) ps ≡ Some o) × (o.conf ≡ q.conf)) → cond b (Some r) (find (is_port n) rs) ≡ Some q →
    (o : Port) × (cond (is_port n p) (Some p) (find (is_port n) ps) ≡ Some o) × (o.conf ≡ q.conf)
same_first n p r ps rs q true e h g k =
    let same : r ≡ q = cc in
    let on : is_port n p ≡ true = ap (λ (c : PortConf). c.port == n) e ∙ h in
    (p, ap (λ (b : Bool). cond b (Some p) (find (is_port n) ps)) on, e ∙ ap (λ (x : Port). x.conf) same)
same_first n p r ps rs q false e h g k =
    let on : is_port n p ≡ false = ap (λ (c : PortConf). c.port == n) e ∙ h in
    let found = g k in
    (found.0, ap (λ (b : Bool). cond b (Some p) (find (is_port n) ps)) on ∙ found.1, found.2)

pub same_conf : (n : ℕ) (ps rs : List Port) (q : Port) → confs ps ≡ confs rs → find (is_port n) rs ≡ Some q → (o : Port) × (find (is_port n) ps ≡ Some o) × (o.conf ≡ q.conf)
same_conf n [] [] q e k = cc
same_conf n [] (r ∷ rs) q e k = cc
same_conf n (p ∷ ps) [] q e k = cc
same_conf n (p ∷ ps) (r ∷ rs) q e k =
    let first : p.conf ≡ r.conf = cc in
    let rest : confs ps ≡ confs rs = cc in
    same_first n p r ps rs q (is_port n r) first refl (same_conf n ps rs q rest) k

pub up_conf : (b : Bool) (q r : Port) (c : Control) (s : State) → q.conf ≡ r.conf → up_by b q c s ≡ up_by b r c s
up_conf true q r c s e = ap (λ (k : PortConf). up_by true (record q { conf = k }) c s) e
up_conf false q r c s e = ap (λ (k : PortConf). up_by false (record q { conf = k }) c s) e

pub may_close : {turns : ℕ} (core : Core) (s : State) (n : ℕ) (q : Port) → IsSound turns s → port_of n s ≡ Some q → Holds core s → MayClose n core s
may_close core s n q a e h = record {
  holds = h;
  closes = record { here = has_conf s n q e; hosts = each_in (λ y. HasConf (confs s.ports) y.host.port) s.sessions (λ y i. session_conf s y a i); restricted = restricted_sound s a; vlans = a.vlans };
  hosts = a.hosts;
}

pub controlled_holds : (core : Core) (s : State) (n : ℕ) (control : Control) (ports : List Port) → Holds core s → ports ≡ map (with_control n control) core.ports → Holds (record core { ports = ports }) (set_control n control s)
controlled_holds core s n control ports h e = record {
  config = h.config;
  clock = h.clock;
  ports = e ∙ ap (map (with_control n control)) h.ports;
  sessions = record { table = h.sessions.table; sessions = h.sessions.sessions; waits = h.sessions.waits; asked = h.sessions.asked; next = h.sessions.next };
  kept = h.kept;
}

pub control_told : (s : State) (n : ℕ) (control : Control) (before after : List Item) → HasConf (confs s.ports) n → after ≡ before ++ now.SetControl n control ∷ [] → TellsOn s (set_control n control s) before after
control_told s n control before after c k =
    tells_one (map item_of before) (map item_of after) (table.SetControl n control) s (set_control n control s) (by_set_control n control s c) (ap (map item_of) k ∙ map-append item_of before (now.SetControl n control ∷ []))

-- Ports as their links and controls change.
use Rattle.std.proofs.Common.{◌≡◌, ℕ, refl, sym, ap, subst, ◌∙◌, List, [], ◌∷◌, map, None, Some, Bool, true, false, cond}
use Rattle.std.specs.Prelude.{find, nat_eq}
use Rattle.std.specs.List.{AllByRecursion, IsDistinct}
use Rattle.std.specs.Cmp.{unsigned_Decides}
use Rattle.machine_vars.specs.declared.vars.Vars.{Vars}
use Rattle.machine_vars.specs.declared.control.Control.{Control}
use Rattle.machine_defs.specs.BackendTable.{is_auto}
use Rattle.machine_defs.specs.Settling.{next}
use Rattle.machine_defs.specs.Live.{Live, born, addressed, Ready, still, turns, InRange, fresh, set, to_all}
use Rattle.machine_defs.specs.Live as live
use Rattle.settle_defs.specs.Settle.{settled}
use Rattle.wire_defs.specs.Ethernet.{pae_group}
use Rattle.settle_defs.proofs.SettleLaws.{stays_live, is_idle_after, keeps_its_peer}
use Rattle.switch_defs.specs.Switch.{Port, State, is_port, port_of, own_address}
use Rattle.switch_defs.specs.Turn.{set_link, with_link, set_control, with_control, with_forced, close_port, up_by, up_if, link_by, control_by}
use Rattle.switch_defs.specs.Sound.{In, here, there, IsPort, confs}
use Rattle.switch_defs.proofs.Lists.{of_both, each_in, of_each}
use Rattle.switch_defs.proofs.Keeping.{AreLinked, kept_mild, mild_armed, kept_close_port}

-- ---- one port of each number

abbrev pub AreDistinct : List Port → Type 0
AreDistinct ps = IsDistinct nat_eq (map (λ c. c.port) (confs ps))

port_in : {p : Port} {ps : List Port} → In p ps → In p.conf.port (map (λ c. c.port) (confs ps))
port_in here = here
port_in (there i) = there (port_in i)

found_one : (n : ℕ) (q r p : Port) (ps : List Port) (b : Bool) → is_port n r ≡ b → cond b (Some r) (find (is_port n) ps) ≡ Some q → AllByRecursion (λ m. nat_eq r.conf.port m ≡ false) (map (λ c. c.port) (confs ps)) →
    (find (is_port n) ps ≡ Some q → In p ps → p ≡ q) → In p (r ∷ ps) → is_port n p ≡ true → p ≡ q
found_one n q r p ps true e f d k here h = cc
found_one n q r p ps true e f d k (there i) h =
    let same : r.conf.port ≡ p.conf.port = (unsigned_Decides r.conf.port n).0 e ∙ sym ((unsigned_Decides p.conf.port n).0 h) in
    of_both (of_each (λ m. nat_eq r.conf.port m ≡ false) d (port_in i)) ((unsigned_Decides r.conf.port p.conf.port).1 same)
found_one n q r p ps false e f d k here h = of_both e h
found_one n q r p ps false e f d k (there i) h = k f i

pub port_one : (ps : List Port) (n : ℕ) (q : Port) → AreDistinct ps → find (is_port n) ps ≡ Some q → (p : Port) → In p ps → is_port n p ≡ true → p ≡ q
unfolding IsDistinct
port_one [] n q d f p i h = elim i [ ]
port_one (r ∷ ps) n q d f p i h = found_one n q r p ps (is_port n r) refl f d.0 (λ g j. port_one ps n q d.1 g p j h) i h

pub linked_one : (ps : List Port) (n : ℕ) (q : Port) → AreDistinct ps → find (is_port n) ps ≡ Some q → AreLinked q.link n ps
linked_one ps n q d f = each_in _ ps (λ p i h. ap (λ (r : Port). r.link) (port_one ps n q d f p i h))

-- ---- the variables of a port that is forced

pub record IsForcedBy (control : Control) (v : Vars) : Type 0 where
  pub live : Live v
  pub same : v.port_control ≡ control
  pub idle : next v ≡ None

next_to_all : (v : Vars) → next (to_all v) ≡ next v
next_to_all v = refl

pub forced_settled : (control : Control) (v : Vars) → is_auto control ≡ false → v.port_control ≡ control → Ready v → IsForcedBy control (to_all (settled v).vars)
forced_settled c v a e r =
    let k = keeps_its_peer v r in
    let same : (settled v).vars.port_control ≡ c = k.control ∙ e in
    record {
      live = addressed (stays_live v r) (ap is_auto same ∙ a);
      same = same;
      idle = next_to_all (settled v).vars ∙ is_idle_after v r;
    }

greeting_control : (from : List ℕ) (v : Vars) → (set (live.Greeting from) v).port_control ≡ v.port_control
greeting_control from v = refl

-- ---- maps of ports

pub sound_at : (f : Port → Port) (ps : List Port) → ((p : Port) → In p ps → IsPort p → IsPort (f p)) → AllByRecursion IsPort ps → AllByRecursion IsPort (map f ps)
sound_at f [] e a = tt
sound_at f (p ∷ ps) e a = (e p here a.0, sound_at f ps (λ q i. e q (there i)) a.1)

sound_twice : (f g : Port → Port) (ps : List Port) → ((p : Port) → In p ps → IsPort p → IsPort (g (f p))) → AllByRecursion IsPort ps → AllByRecursion IsPort (map g (map f ps))
sound_twice f g [] e a = tt
sound_twice f g (p ∷ ps) e a = (e p here a.0, sound_twice f g ps (λ q i. e q (there i)) a.1)

by_number : (n : ℕ) (f : Port → Port) (p : Port) → (is_port n p ≡ false → f p ≡ p) → (is_port n p ≡ true → IsPort (f p)) → IsPort p → IsPort (f p)
by_number n f p same other i = by (is_port n p) refl
  where
    by : (b : Bool) → is_port n p ≡ b → IsPort (f p)
    by true e = other e
    by false e = subst IsPort (sym (same e)) i

-- a port whose variables are set
forced_port : (n : ℕ) (v : Vars) (p : Port) → is_port n p ≡ true → IsForcedBy p.control v → IsPort (with_forced n v p)
forced_port n v p e k = rw e (record { live = k.live; control = λ a l. k.same; idle = λ a l. k.idle })

unforced : (n : ℕ) (v : Vars) (p : Port) → is_port n p ≡ false → with_forced n v p ≡ p
unforced n v p e = rw e refl

pub forced_ports : (n : ℕ) (v : Vars) (ps : List Port) → ((p : Port) → In p ps → is_port n p ≡ true → IsForcedBy p.control v) → AllByRecursion IsPort ps → AllByRecursion IsPort (map (with_forced n v) ps)
forced_ports n v ps f a = sound_at (with_forced n v) ps (λ p i k. by_number n (with_forced n v) p (unforced n v p) (λ e. forced_port n v p e (f p i e)) k) a

-- a link that comes up
linked_auto : (n : ℕ) (p : Port) → is_port n p ≡ true → is_auto p.control ≡ true → IsPort p → IsPort (with_link n true p)
linked_auto n p e a i = record { live = i.live; control = λ b l. of_both b a; idle = λ b l. of_both b a }

linked_down : (n : ℕ) (p : Port) → is_port n p ≡ true → IsPort p → IsPort (with_link n false p)
linked_down n p e i = rw e (record { live = i.live; control = λ b l. false_true l; idle = λ b l. false_true l })
  where
    false_true : {X : Type 0} → false ≡ true → X
    false_true l = cc

unlinked : (n : ℕ) (up : Bool) (p : Port) → is_port n p ≡ false → with_link n up p ≡ p
unlinked n up p e = rw e refl

linked_forced : (n : ℕ) (v : Vars) (p : Port) → is_port n p ≡ true → IsForcedBy p.control v → IsPort (with_forced n v (with_link n true p))
linked_forced n v p e k = rw e (record { live = k.live; control = λ a l. k.same; idle = λ a l. k.idle })

not_linked_forced : (n : ℕ) (v : Vars) (p : Port) → is_port n p ≡ false → with_forced n v (with_link n true p) ≡ p
not_linked_forced n v p e = rw e refl

-- a control that is set
uncontrolled : (n : ℕ) (c : Control) (p : Port) → is_port n p ≡ false → with_control n c p ≡ p
uncontrolled n c p e = rw e refl

controlled_auto : (n : ℕ) (c : Control) (p : Port) → is_port n p ≡ true → is_auto c ≡ true → IsPort p → IsPort (with_control n c p)
controlled_auto n c p e a i = rw e (record { live = i.live; control = λ b l. of_both b a; idle = λ b l. of_both b a })

controlled_down : (n : ℕ) (c : Control) (p : Port) → is_port n p ≡ true → p.link ≡ false → IsPort p → IsPort (with_control n c p)
controlled_down n c p e d i = rw e (record { live = i.live; control = λ b l. of_both d l; idle = λ b l. of_both d l })

controlled_forced : (n : ℕ) (c : Control) (v : Vars) (p : Port) → is_port n p ≡ true → IsForcedBy c v → IsPort (with_forced n v (with_control n c p))
controlled_forced n c v p e k = rw e (record { live = k.live; control = λ a l. k.same; idle = λ a l. k.idle })

not_controlled_forced : (n : ℕ) (c : Control) (v : Vars) (p : Port) → is_port n p ≡ false → with_forced n v (with_control n c p) ≡ p
not_controlled_forced n c v p e = rw e refl

-- ---- a port that begins

fresh_forced : (s : State) (q : Port) (c : Control) → InRange s.config.times → is_auto c ≡ false →
    IsForcedBy c (to_all (settled (fresh q.conf.port (own_address s q.conf.port) pae_group c s.config.times)).vars)
fresh_forced s q c t a = forced_settled c _ a refl (still (born _ _ _ _ _ t))

sound_link_up : (b : Bool) (s : State) (q : Port) → is_auto q.control ≡ b → InRange s.config.times → AreDistinct s.ports → port_of q.conf.port s ≡ Some q → AllByRecursion IsPort s.ports →
    AllByRecursion IsPort (up_by b q q.control (set_link q.conf.port true s)).state.ports
sound_link_up true s q e t d f a =
    let n : ℕ = q.conf.port in
    let u : State = set_link n true s in
    let linked : AllByRecursion IsPort u.ports = sound_at (with_link n true) s.ports (λ p i k. by_number n (with_link n true) p (unlinked n true p)
    (λ h. linked_auto n p h (ap (λ (r : Port). is_auto r.control) (port_one s.ports n q d f p i h) ∙ e) k) k) a in
    (kept_mild u (mild_armed n u.sessions u.config.guest_wait)).ports linked
sound_link_up false s q e t d f a =
    let n : ℕ = q.conf.port in
    let v : Vars = to_all (settled (fresh n (own_address s n) pae_group q.control s.config.times)).vars in
    let k : IsForcedBy q.control v = fresh_forced s q q.control t e in
    sound_twice (with_link n true) (with_forced n v) s.ports (λ p i j. by_number n (λ r. with_forced n v (with_link n true r)) p (not_linked_forced n v p)
    (λ h. linked_forced n v p h (subst (λ (r : Port). IsForcedBy r.control v) (sym (port_one s.ports n q d f p i h)) k)) j) a

sound_control_up : (b : Bool) (s : State) (q : Port) (c : Control) → is_auto c ≡ b → InRange s.config.times → AllByRecursion IsPort s.ports →
    AllByRecursion IsPort (up_by b q c (set_control q.conf.port c s)).state.ports
sound_control_up true s q c e t a =
    let n : ℕ = q.conf.port in
    let u : State = set_control n c s in
    let set_ : AllByRecursion IsPort u.ports = sound_at (with_control n c) s.ports (λ p i k. by_number n (with_control n c) p (uncontrolled n c p) (λ h. controlled_auto n c p h e k) k) a in
    (kept_mild u (mild_armed n u.sessions u.config.guest_wait)).ports set_
sound_control_up false s q c e t a =
    let n : ℕ = q.conf.port in
    let v : Vars = to_all (settled (fresh n (own_address s n) pae_group c s.config.times)).vars in
    sound_twice (with_control n c) (with_forced n v) s.ports (λ p i j. by_number n (λ r. with_forced n v (with_control n c r)) p (not_controlled_forced n c v p)
    (λ h. controlled_forced n c v p h (fresh_forced s q c t e)) j) a

sound_control_down : (s : State) (q : Port) (c : Control) → AreLinked false q.conf.port s.ports → AllByRecursion IsPort s.ports → AllByRecursion IsPort (set_control q.conf.port c s).ports
sound_control_down s q c l a =
    let n : ℕ = q.conf.port in
    sound_at (with_control n c) s.ports (λ p i k. by_number n (with_control n c) p (uncontrolled n c p) (λ h. controlled_down n c p h (of_each (λ r. is_port n r ≡ true → r.link ≡ false) l i h) k) k) a

-- ---- links and controls

pub sound_link_by : (was up : Bool) (s : State) (q : Port) → InRange s.config.times → AreDistinct s.ports → port_of q.conf.port s ≡ Some q → AllByRecursion IsPort s.ports → AllByRecursion IsPort (link_by was up q s).state.ports
sound_link_by true true s q t d f a = a
sound_link_by false false s q t d f a = a
sound_link_by false true s q t d f a = sound_link_up (is_auto q.control) s q refl t d f a
sound_link_by true false s q t d f a =
    let n : ℕ = q.conf.port in
    (kept_close_port n (set_link n false s)).ports (sound_at (with_link n false) s.ports (λ p i k. by_number n (with_link n false) p (unlinked n false p) (λ h. linked_down n p h k) k) a)

sound_up_if : (b : Bool) (s : State) (q : Port) (c : Control) → InRange s.config.times → (b ≡ false → AreLinked false q.conf.port s.ports) → AllByRecursion IsPort s.ports →
    AllByRecursion IsPort (up_if b q c (set_control q.conf.port c s)).state.ports
sound_up_if true s q c t l a = sound_control_up (is_auto c) s q c refl t a
sound_up_if false s q c t l a = sound_control_down s q c (l refl) a

pub sound_control_by : (b : Bool) (control : Control) (s : State) (q : Port) → InRange s.config.times → AreDistinct s.ports → port_of q.conf.port s ≡ Some q → AllByRecursion IsPort s.ports →
    AllByRecursion IsPort (control_by b control q s).state.ports
sound_control_by true control s q t d f a = a
sound_control_by false control s q t d f a =
    let n : ℕ = q.conf.port in
    let k = kept_close_port n s in
    sound_up_if q.link (close_port n s) q control (subst (λ (c : _). InRange c.times) (sym k.config) t)
    (λ e. subst (λ (b : Bool). AreLinked b n (close_port n s).ports) e (k.links q.link n (linked_one s.ports n q d f))) (k.ports a)

-- Sessions are on ports that are configured, Auto, and up.
use Rattle.std.proofs.Common.{◌≡◌, ℕ, ◌≤◌, ◌<◌, refl, sym, subst, ◌∙◌, List, [], ◌∷◌, map, Some, Bool, true, false, arith, inl, inr}
use Rattle.std.specs.Prelude.{if◌then◌else◌, ◌==◌}
use Rattle.std.specs.List.{AllByRecursion}
use Rattle.std.specs.Cmp.{unsigned_Decides}
use Rattle.machine_vars.specs.declared.vars.Vars.{Vars}
use Rattle.machine_vars.specs.declared.control.Control.{Control}
use Rattle.machine_vars.specs.declared.control.Control.TheVariants.{Auto, ForceAuth, ForceUnauth}
use Rattle.machine_defs.specs.BackendTable.{is_auto}
use Rattle.switch_defs.specs.Switch.{Port, Host, Session, State, hosts, is_port, port_of}
use Rattle.switch_defs.specs.Turn.{opened, fresh_standing, set_link, with_link, set_control, with_control, set_forced, with_forced, with_session, close_port, up_by, up_if, link_by, control_by}
use Rattle.switch_defs.specs.Sound.{In, here, there, AreHosts, IsOpenPort, ArePlaced, IsUp}
use Rattle.switch_defs.proofs.Lists.{of_both, each_in, of_each, each_push, in_map}
use Rattle.switch_defs.proofs.Hosts.{moves_from, below_high}
use Rattle.switch_defs.proofs.Moving.{hosts_pushed}
use Rattle.switch_defs.specs.Moving.{Moved}
use Rattle.switch_defs.proofs.Turning.{none_on}
use Rattle.switch_defs.proofs.Keeping.{Kept, kept_mild, mild_armed, kept_open, kept_close_port, open_map}

-- no session opens: those that there are were there
old_host : {s t : State} → Moved s t → t.next ≤ s.next → AreHosts (hosts t) t.next → (h : Host) → In h (hosts t) → In h (hosts s)
old_host {s = s} {t = t} m le a h i = elim (moves_from h m.by i) [
  | inl k ↦ k
  | inr l ↦ (let b : h.number < t.next = below_high 1 (hosts t) t.next h a.rises i in absurd (omega (arith, l, b, le)))
]

pub placed_on : (s t : State) → Moved s t → t.next ≤ s.next → AreHosts (hosts t) t.next → ((m : ℕ) → IsOpenPort (port_of m s) → IsOpenPort (port_of m t)) → ArePlaced s → ArePlaced t
placed_on s t m le a o p = each_in (λ h. IsOpenPort (port_of h.port t)) (hosts t) (λ h i. o h.port (of_each (λ g. IsOpenPort (port_of g.port s)) p (old_host m le a h i)))

auto_is : (c : Control) → is_auto c ≡ true → c ≡ Auto
auto_is Auto e = refl
auto_is ForceAuth e = cc
auto_is ForceUnauth e = cc

-- one session opens on a port that is up and Auto
pub placed_open : (s : State) (q : Port) (from : List ℕ) → IsUp s q → is_auto q.control ≡ true → ArePlaced s → ArePlaced (with_session (opened s q from) (fresh_standing s q from) s)
placed_open s q from u a p =
    let h : Host = opened s q from in
    let t : State = with_session h (fresh_standing s q from) s in
    let k : Kept 0 1 s t = kept_open h (fresh_standing s q from) s in
    let at : IsOpenPort (port_of q.conf.port s) = subst IsOpenPort (sym u.here) (u.link, auto_is q.control a) in
    subst (λ (hs : List Host). AllByRecursion (λ h. IsOpenPort (port_of h.port t)) hs) (sym (hosts_pushed h (fresh_standing s q from) s.sessions))
    (each_push (λ h. IsOpenPort (port_of h.port t)) (hosts s) h (each_in (λ h. IsOpenPort (port_of h.port t)) (hosts s) (λ g i. k.opens g.port (of_each (λ f. IsOpenPort (port_of f.port s)) p i))) (k.opens q.conf.port at))

-- ---- links and controls

link_up_open : (n : ℕ) (p : Port) → IsOpenPort (Some p) → IsOpenPort (Some (with_link n true p))
link_up_open n p o = (by (is_port n p), o.1)
  where
    by : (b : Bool) → (if b then true else p.link) ≡ true
    by true = refl
    by false = o.0

pub opens_link_up : (n : ℕ) (s : State) (m : ℕ) → IsOpenPort (port_of m s) → IsOpenPort (port_of m (set_link n true s))
opens_link_up n s m o = open_map (with_link n true) m (λ p. refl) (λ p e k. link_up_open n p k) s.ports o

pub opens_forced : (n : ℕ) (v : Vars) (s : State) (m : ℕ) → IsOpenPort (port_of m s) → IsOpenPort (port_of m (set_forced n v s))
opens_forced n v s m o = open_map (with_forced n v) m (λ p. refl) (λ p e k. k) s.ports o

-- another port
is_another : (m n : ℕ) (p : Port) → (m == n) ≡ false → is_port m p ≡ true → is_port n p ≡ false
is_another m n p d e = by (is_port n p) refl
  where
    by : (b : Bool) → is_port n p ≡ b → is_port n p ≡ false
    by false h = h
    by true h = of_both d ((unsigned_Decides m n).1 (sym ((unsigned_Decides p.conf.port m).0 e) ∙ (unsigned_Decides p.conf.port n).0 h))

opens_other_link : (n : ℕ) (up : Bool) (s : State) (m : ℕ) → (m == n) ≡ false → IsOpenPort (port_of m s) → IsOpenPort (port_of m (set_link n up s))
opens_other_link n up s m d o = open_map (with_link n up) m (λ p. refl) (λ p e k. rw (is_another m n p d e) k) s.ports o

opens_other_control : (n : ℕ) (c : Control) (s : State) (m : ℕ) → (m == n) ≡ false → IsOpenPort (port_of m s) → IsOpenPort (port_of m (set_control n c s))
opens_other_control n c s m d o = open_map (with_control n c) m (λ p. refl) (λ p e k. rw (is_another m n p d e) k) s.ports o

pub host_of : {h : Host} (ys : List Session) → In h (map (λ y. y.host) ys) → (z : Session) × In z ys × (z.host ≡ h)
host_of [] i = elim i [ ]
host_of (y ∷ ys) here = (y, here, refl)
host_of (y ∷ ys) (there i) = let k = host_of ys i in (k.0, there k.1, k.2)

-- who is left after a port was closed is on another one
elsewhere : (n : ℕ) (s : State) (h : Host) → In h (hosts (close_port n s)) → In h (hosts s) × ((h.port == n) ≡ false)
elsewhere n s h i =
    let k = host_of (close_port n s).sessions i in
    let r = none_on n s k.0 k.1 in
    (at k.2 r.0, subst (λ (g : Host). (g.port == n) ≡ false) k.2 r.1)
  where
    at : {z : Session} → z.host ≡ h → In z s.sessions → In h (hosts s)
    at {z = z} e j = subst (λ (g : Host). In g (hosts s)) e (in_map (λ (y : Session). y.host) j)

pub placed_down : (n : ℕ) (s : State) → ArePlaced s → ArePlaced (close_port n (set_link n false s))
placed_down n s p =
    let u : State = set_link n false s in
    let t : State = close_port n u in
    each_in (λ h. IsOpenPort (port_of h.port t)) (hosts t) (λ h i.
    let e = elsewhere n u h i in
    (kept_close_port n u).opens h.port (opens_other_link n false s h.port e.1 (of_each (λ g. IsOpenPort (port_of g.port s)) p e.0)))

placed_control : (n : ℕ) (c : Control) (s : State) → ArePlaced s → ArePlaced (set_control n c (close_port n s))
placed_control n c s p =
    let u : State = close_port n s in
    let t : State = set_control n c u in
    each_in (λ h. IsOpenPort (port_of h.port t)) (hosts t) (λ h i.
    let e = elsewhere n s h i in
    opens_other_control n c u h.port e.1 ((kept_close_port n s).opens h.port (of_each (λ g. IsOpenPort (port_of g.port s)) p e.0)))

placed_up : (b : Bool) (q : Port) (c : Control) (s : State) → ArePlaced s → ArePlaced (up_by b q c s).state
placed_up true q c s p = each_in (λ h. IsOpenPort (port_of h.port (up_by true q c s).state)) (hosts s) (λ h i. (kept_mild s (mild_armed q.conf.port s.sessions s.config.guest_wait)).opens h.port (of_each (λ g. IsOpenPort (port_of g.port s)) p i))
placed_up false q c s p = each_in (λ h. IsOpenPort (port_of h.port (up_by false q c s).state)) (hosts s) (λ h i. opens_forced q.conf.port _ s h.port (of_each (λ g. IsOpenPort (port_of g.port s)) p i))

pub placed_link_by : (was up : Bool) (q : Port) (s : State) → ArePlaced s → ArePlaced (link_by was up q s).state
placed_link_by true true q s p = p
placed_link_by false false q s p = p
placed_link_by false true q s p =
    placed_up (is_auto q.control) q q.control (set_link q.conf.port true s)
    (each_in (λ h. IsOpenPort (port_of h.port (set_link q.conf.port true s))) (hosts s) (λ h i. opens_link_up q.conf.port s h.port (of_each (λ g. IsOpenPort (port_of g.port s)) p i)))
placed_link_by true false q s p = placed_down q.conf.port s p

placed_up_if : (b : Bool) (q : Port) (c : Control) (s : State) → ArePlaced s → ArePlaced (up_if b q c s).state
placed_up_if true q c s p = placed_up (is_auto c) q c s p
placed_up_if false q c s p = p

pub placed_control_by : (b : Bool) (c : Control) (q : Port) (s : State) → ArePlaced s → ArePlaced (control_by b c q s).state
placed_control_by true c q s p = p
placed_control_by false c q s p = placed_up_if q.link q c (set_control q.conf.port c (close_port q.conf.port s)) (placed_control q.conf.port c s p)

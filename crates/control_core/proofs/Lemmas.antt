-- What the parts of the core need.
use Rattle.std.proofs.Common.{◌≡◌, [], ◌∷◌, ℕ, Bool, true, false, List, Option, Some, map, refl, sym, ap, subst, ◌∙◌, cond}
use Rattle.std.specs.Prelude.{find, ◌&&◌, ◌||◌}
use Rattle.switch_ports.specs.Ports.{lets_guests}
use Rattle.table_defs.proofs.Told.{IsShut}
use Rattle.std.specs.List.{AllByRecursion}
use Rattle.host_frames.specs.declared.heard.Said.{Said}
use Rattle.host_frames.specs.declared.heard.Said.TheVariants as said
use Rattle.host_frames.specs.Heard.{event_of}
use Rattle.switch_defs.specs.Turn.{set_vars}
use Rattle.switch_defs.specs.Laws.{MayAsk}
use Rattle.switch_defs.proofs.Turning.{may_event}
use Rattle.switch_defs.proofs.Soundness.{sessions_are_few}
use Rattle.host_sessions.specs.declared.sessions.Sessions.{Sessions}
use Rattle.host_sessions.specs.Holds as sessions
use Rattle.turn_defs.specs.Parts.{Beside, armed_if}
use Rattle.wire_core.specs.declared.address.Mac.{Mac}
use Rattle.std.specs.Prelude.{slice_get}
use Rattle.host_sessions.specs.Finds.{FindsAt, IsAt}
use Rattle.switch_defs.specs.Session.{close}
use Rattle.switch_defs.proofs.Fitting.{vlans_close}
use Rattle.switch_defs.proofs.Moving.{moved_close}
use Rattle.table_defs.proofs.Told.{aside_close}
use Rattle.table_defs.specs.Told.{Speaks}
use Rattle.turn_defs.specs.Parts.{Near}
use Rattle.turn_defs.specs.Walks.{Next, after_closing}
use Rattle.control_core.specs.declared.state.Core.{Core}
use Rattle.control_core.specs.Stands.{Lags}
use Rattle.switch_defs.specs.Switch.{Host, Port, Session, State, hosts, is_at, is_port, port_of}
use Rattle.switch_defs.specs.Decide.{authorised, restricted_of, right_by, right_of}
use Rattle.switch_defs.specs.Sound.{In, here, there, AreApart, FromHost, start, logoff, packet, IsSound}
use Rattle.switch_defs.proofs.Lists.{in_map, key_flip, key_same, none_passes}

found_first : (y z : Session) (zs : List Session) (b : Bool) → b ≡ false → find (λ w. is_at y.host.port y.host.address w.host) zs ≡ Some y → cond b (Some z) (find (λ w. is_at y.host.port y.host.address w.host) zs) ≡ Some y
found_first y z zs true e f = cc
found_first y z zs false e f = f

found_here : (y : Session) (zs : List Session) (b : Bool) → b ≡ true → cond b (Some y) (find (λ w. is_at y.host.port y.host.address w.host) zs) ≡ Some y
found_here y zs true e = refl
found_here y zs false e = cc

-- a session is the one of its port and address
pub found_in : (ys : List Session) (y : Session) → AreApart (map (λ z. z.host) ys) → In y ys → find (λ w. is_at y.host.port y.host.address w.host) ys ≡ Some y
found_in [] y a i = elim i [ ]
found_in (z ∷ zs) y a here = found_here z zs (is_at z.host.port z.host.address z.host) (key_same z.host.port z.host.address)
found_in (z ∷ zs) y a (there i) =
    let differ : is_at y.host.port y.host.address z.host ≡ false = key_flip y.host.port y.host.address z.host.port z.host.address (none_passes (is_at z.host.port z.host.address) a.0 (in_map (λ (w : Session). w.host) i)) in
    found_first y z zs (is_at y.host.port y.host.address z.host) differ (found_in zs y a.1 i)

-- and has its right
pub right_in_place : (s : State) (y : Session) → AreApart (hosts s) → In y s.sessions → right_by (restricted_of (port_of y.host.port s)) y ≡ authorised s y.host.port y.host.address
right_in_place s y a i = ap (right_of (restricted_of (port_of y.host.port s))) (sym (found_in s.sessions y a i))

shut_first : (b o : Bool) (rest : Bool) → b && o || rest ≡ false → (b ≡ true → o ≡ false) × (rest ≡ false)
shut_first true true rest e = cc
shut_first true false rest e = ((λ k. refl), e)
shut_first false o rest e = ((λ k. cc), e)

-- a port that lets no guests in
pub all_shut : (n : ℕ) (ps : List Port) → lets_guests n ps ≡ false → AllByRecursion (IsShut n) ps
all_shut n [] e = tt
all_shut n (p ∷ ps) e = let k = shut_first (is_port n p) p.guest_open (lets_guests n ps) e in (k.0, all_shut n ps k.1)

-- what a host says is something that may come from one
pub from_host : (x : Said) → FromHost (event_of x)
from_host said.Start = start
from_host said.Logoff = logoff
from_host (said.Packet eap) = packet eap.now

-- a session that there is may be settled after what its host says
pub may_known : {turns : ℕ} (s : State) (y : Session) (x : Said) → IsSound turns s → In y s.sessions → MayAsk y.host (set_vars (event_of x) y.standing) s
may_known {turns} s y x a i = record { hosts = a.hosts; few = sessions_are_few turns s a; settle = may_event y (event_of x) s i (from_host x) a.rests }

-- after something was done to a session, its port is still to be armed where the session was closed
pub lags_by : (closed gone : Bool) (port n : ℕ) (core : Core) (k : Sessions) (s t : State) → core.config ≡ s.config → core.clock ≡ s.clock → core.ports ≡ s.ports → core.kept.items ≡ s.kept →
    port ≡ n → closed ≡ gone → Beside gone n s t → sessions.Holds k t → Lags closed port (record core { sessions = k }) t
lags_by closed gone port n core k s t config clock ports kept p c b d = record {
  config = config ∙ sym b.config;
  clock = clock ∙ sym b.clock;
  ports = b.ports ∙ (λ i. armed_if (sym c i) (sym p i) t (sym ports i));
  sessions = d;
  kept = kept ∙ sym b.kept;
}

pair_same : {x z : ℕ × Mac} → Some x ≡ Some z → x ≡ z
pair_same e = cc

pub key_is : (x : ℕ × Mac) (h : Host) → Some x ≡ Some (h.port, record { 0 = h.address }) → (x.0 ≡ h.port) × (x.1.0 ≡ h.address)
key_is x h e = (ap (λ (k : ℕ × Mac). k.0) (pair_same e), ap (λ (k : ℕ × Mac). k.1.0) (pair_same e))

-- the session at a place of the order is kept where the order says
pub at_place : (n at : ℕ) (y : Session) (core : Core) (t : State) → FindsAt (Some at) (slice_get t.sessions n) core.sessions t → Next y n t → IsAt at y core.sessions t
at_place n at y core t f x = subst (λ (o : Option Session). FindsAt (Some at) o core.sessions t) x.at f

-- a session that ends may be told of
pub near_end : (y : Session) (t : State) → Speaks y.host t t → Near y.host t (close y.host t)
near_end y t k = record { aside = aside_close y.host t; moved = moved_close y.host t; speaks = record { here = k.here; restricted = k.restricted; vlans = vlans_close y.host t k.vlans } }

-- a session that is on the port is closed
pub if_on : (P : State → Type 0) (b : Bool) (y : Session) (t : State) → b ≡ true → P (close y.host t) → P (after_closing b y t)
if_on P true y t e h = h
if_on P false y t e h = cc

pub if_not_on : (P : State → Type 0) (b : Bool) (y : Session) (t : State) → b ≡ false → P t → P (after_closing b y t)
if_not_on P true y t e h = cc
if_not_on P false y t e h = h

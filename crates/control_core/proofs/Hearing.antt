-- What frames do.
use Rattle.std.proofs.Common.{◌≡◌, ℕ, ◌+◌, ◌*◌, ◌^◌, ◌≤◌, ◌<◌, refl, sym, ap, subst, ◌∙◌, List, [], ◌∷◌, Option, Some, None, Bool, true, false, not, map, drop, arith}
use Rattle.std.specs.Prelude.{find, if◌then◌else◌, nat_le, nat_lt, ◌&&◌}
use Rattle.std.specs.List.{list_all}
use Rattle.std.specs.Cmp.{unsigned_Decides}
use Rattle.std.proofs.lemmas.Bool.Decides.{nat_tests}
use Rattle.wire_defs.specs.Ethernet.{source, is_group}
use Rattle.wire_defs.specs.Eapol.{eapol_of}
use Rattle.machine_vars.specs.declared.vars.Vars.{Vars}
use Rattle.machine_vars.specs.declared.control.Control.{Control}
use Rattle.machine_vars.specs.declared.control.Control.TheVariants.{Auto, ForceAuth, ForceUnauth}
use Rattle.machine_defs.specs.BackendTable.{is_auto}
use Rattle.machine_defs.specs.Live.{InRange, set, to_all}
use Rattle.machine_defs.specs.Live as live
use Rattle.settle_defs.specs.Settle.{settled}
use Rattle.session_table.specs.Slots as slots
use Rattle.switch_event.specs.declared.config.PortConf.{PortConf}
use Rattle.switch_event.specs.declared.drop.FrameDrop.{FrameDrop}
use Rattle.switch_event.specs.declared.drop.FrameDrop.TheVariants.{Elsewhere, GroupSource, Down, Forced, NoSession, PortFull}
use Rattle.switch_event.specs.Drop.{frame_line}
use Rattle.switch_event.specs.declared.event.Outcome.{Outcome}
use Rattle.switch_event.specs.declared.event.Outcome.TheVariants.{Done, FrameDropped}
use Rattle.out_tray.specs.Tray.{Things}
use Rattle.switch_defs.specs.Switch.{Port, Session, State, is_at, is_port, own_address, port_of, session_at}
use Rattle.switch_defs.specs.Session.{no_guests}
use Rattle.switch_defs.specs.Decide.{view}
use Rattle.switch_defs.specs.Turn.{FrameCase, Dropped, Forces, Opens, Turns as Hears, control_case, eapol_case, frame_case, is_elsewhere, is_full, is_logoff, is_start, known_case, set_forced, with_forced}
use Rattle.switch_defs.specs.Turn as model
use Rattle.switch_defs.specs.Sound.{In, here, there, IsPort, IsSound, IsUp, confs}
use Rattle.switch_defs.specs.Laws.{MayFrame, most_turns}
use Rattle.switch_defs.proofs.Lists.{both, in_found, in_map, key_equal, of_each}
use Rattle.switch_defs.proofs.Keeping.{confs_map}
use Rattle.switch_defs.specs.Moving.{stays}
use Rattle.table_defs.proofs.Told.{by_none}
use Rattle.turn_defs.proofs.Parts.{tells_none}
use Rattle.table_defs.specs.declared.change.Item.{Item}
use Rattle.table_defs.specs.Change.{item_of}
use Rattle.switch_ports.specs.Ports as ports
use Rattle.host_sessions.specs.declared.sessions.Sessions.{Sessions}
use Rattle.host_sessions.specs.Holds as sessions
use Rattle.control_core.specs.declared.state.Core.{Core}
use Rattle.control_core.specs.Stands.{Holds}
use Rattle.control_core.specs.Does.{Does, IsHere, IsOfHost, Turns}
use Rattle.control_core.specs.Hearing.{MayHear}
use Rattle.control_core.proofs.Answering.{none_sent}

-- ---- a frame that was read came in on a port that is up

abbrev line_of : FrameCase → ℕ
line_of (Dropped why) = frame_line why
line_of (Forces q from) = 99
line_of (Opens q from) = 99
line_of (Hears y e) = 99

-- the lines of reading, and the others
at_least : (n : ℕ) → 12 ≤ 12 + n
at_least n = omega arith

low_one : 1 ≤ 3
low_one = omega arith

low_two : 2 ≤ 3
low_two = omega arith

low_three : 3 ≤ 3
low_three = omega arith

late_first : (b c : Bool) (q : Port) (from : List ℕ) → 12 ≤ line_of (if b then Dropped NoSession else if c then Dropped PortFull else Opens q from)
late_first true c q from = at_least 1
late_first false true q from = at_least 2
late_first false false q from = at_least 87

late_known : (s : State) (q : Port) (from : List ℕ) (e : live.Event) (o : Option Session) → 12 ≤ line_of (known_case s q from e o)
late_known s q from e (Some y) = at_least 87
late_known s q from e None = late_first (is_logoff e) (is_full q.conf.port s) q from

late_by : (b c : Bool) (k : FrameCase) (q : Port) (from : List ℕ) → 12 ≤ line_of k → 12 ≤ line_of (if b then k else if c then Forces q from else Dropped Forced)
late_by true c k q from l = l
late_by false true k q from l = at_least 87
late_by false false k q from l = at_least 0

late : (s : State) (q : Port) (from : List ℕ) (e : live.Event) → 12 ≤ line_of (control_case s q from e)
late s q from e = late_by (is_auto q.control) (is_start e) (known_case s q from e (session_at q.conf.port from s)) q from (late_known s q from e (session_at q.conf.port from s))

early_by : (a b up : Bool) (k : FrameCase) → up ≡ false → line_of (if a then Dropped Elsewhere else if b then Dropped GroupSource else if not up then Dropped Down else k) ≤ 3
early_by true b up k e = low_one
early_by false true up k e = low_two
early_by false false true k e = cc
early_by false false false k e = low_three

early : (s : State) (octets : List ℕ) (q : Port) → q.link ≡ false → line_of (frame_case s octets (Some q)) ≤ 3
early s octets q e = early_by (is_elsewhere s q.conf.port octets) (is_group (source octets)) q.link (eapol_case s q (source octets) (eapol_of (drop 14 octets))) e

differ : (a b : ℕ) → a ≤ 3 → 12 ≤ b → a ≡ b → ⊥
differ a b l m e = omega (arith, l, m, e)

pub heard_up : (s : State) (octets : List ℕ) (q : Port) (from : List ℕ) (e : live.Event) → frame_case s octets (Some q) ≡ control_case s q from e → q.link ≡ true
heard_up s octets q from e k = by q.link refl
  where
    by : (b : Bool) → q.link ≡ b → q.link ≡ true
    by true f = f
    by false f = absurd (differ (line_of (frame_case s octets (Some q))) (line_of (control_case s q from e)) (early s octets q f) (late s q from e) (ap line_of k))

-- ---- the cases of a frame

pub auto_case : (s : State) (q : Port) (from : List ℕ) (e : live.Event) → is_auto q.control ≡ true → control_case s q from e ≡ known_case s q from e (session_at q.conf.port from s)
auto_case s q from e a = rw a refl

pub forced_case : (s : State) (q : Port) (from : List ℕ) (e : live.Event) → is_auto q.control ≡ false → is_start e ≡ true → control_case s q from e ≡ Forces q from
forced_case s q from e a b = rw (a, b) refl

pub unheard_case : (s : State) (q : Port) (from : List ℕ) (e : live.Event) → is_auto q.control ≡ false → is_start e ≡ false → control_case s q from e ≡ Dropped Forced
unheard_case s q from e a b = rw (a, b) refl

pub logoff_case : (s : State) (q : Port) (from : List ℕ) (e : live.Event) → is_logoff e ≡ true → known_case s q from e None ≡ Dropped NoSession
logoff_case s q from e a = rw a refl

pub full_case : (s : State) (q : Port) (from : List ℕ) (e : live.Event) → is_logoff e ≡ false → is_full q.conf.port s ≡ true → known_case s q from e None ≡ Dropped PortFull
full_case s q from e a b = rw (a, b) refl

pub first_case : (s : State) (q : Port) (from : List ℕ) (e : live.Event) → is_logoff e ≡ false → is_full q.conf.port s ≡ false → known_case s q from e None ≡ Opens q from
first_case s q from e a b = rw (a, b) refl

-- ---- a port that is up

pub same_number : {conf : PortConf} {control : Control} {q : Port} {s : State} → IsHere conf control q s → q.conf.port ≡ conf.port
same_number k = ap (λ (p : PortConf). p.port) k.settings

pub is_up : {conf : PortConf} {control : Control} {q : Port} {s : State} → IsHere conf control q s → IsUp s q
is_up {q = q} {s = s} k = record { here = subst (λ (n : ℕ). port_of n s ≡ Some q) (sym (same_number k)) k.here; link = k.link }

pub auto_here : {conf : PortConf} {control : Control} {q : Port} {s : State} → IsHere conf control q s → control ≡ Auto → IsHere conf Auto q s
auto_here k e = record { settings = k.settings; controlled = k.controlled ∙ e; here = k.here; link = k.link }

pub not_auto : (c : Control) → (c ≡ Auto → ⊥) → is_auto c ≡ false
not_auto Auto n = absurd (n refl)
not_auto ForceAuth n = refl
not_auto ForceUnauth n = refl

pub case_known : {conf : PortConf} {control : Control} {q : Port} (s : State) (from : List ℕ) (e : live.Event) (o : Option Session) → IsHere conf control q s → control ≡ Auto → session_at conf.port from s ≡ o →
    control_case s q from e ≡ known_case s q from e o
case_known {q = q} s from e o k f g =
    auto_case s q from e (ap is_auto (k.controlled ∙ f)) ∙ ap (λ (r : Option Session). known_case s q from e r) (ap (λ (n : ℕ). session_at n from s) (same_number k) ∙ g)

pub may_as : {k l : FrameCase} {core : Core} {s : State} → k ≡ l → MayHear k core s → MayHear l core s
may_as {s = s} e m = record { turn = m.turn; settles = subst (MayFrame s) e m.settles }

pub as_host : (s : State) (port : ℕ) (from : List ℕ) (y : Session) → session_at port from s ≡ Some y → IsOfHost y.host port from
as_host s port from y e =
    let k = key_equal y.host.port y.host.address port from (in_found (λ (z : Session). is_at port from z.host) s.sessions y e).1 in
    record { on = k.0; whose = k.1 }

-- ---- numbers that fit

pub asked_fits : (turns : ℕ) (s : State) → turns < most_turns → IsSound turns s → s.asked + 1 < 2 ^ 64
asked_fits turns s few a =
    let asked : s.asked ≤ 961 * turns = a.asked in
    let less : turns < 1048576 = few in
    omega (arith, less, asked)

pub next_fits : (turns : ℕ) (s : State) → turns < most_turns → IsSound turns s → s.next + 1 < 2 ^ 32
next_fits turns s few a =
    let less : turns < 1048576 = few in
    omega (arith, less, a.next)

each_tested : {A : Type 0} (f : A → Bool) (xs : List A) → list_all f xs ≡ true → (x : A) → In x xs → f x ≡ true
each_tested f [] e x i = elim i [ ]
each_tested f (y ∷ xs) e x here = (both (f y) (list_all f xs) e).0
each_tested f (y ∷ xs) e x (there i) = each_tested f xs (both (f y) (list_all f xs) e).1 x i

within_ports : (n : ℕ) → nat_le 1 n && nat_le n 60 ≡ true → nat_lt 0 n && nat_lt n 61 ≡ true
within_ports n e = grind (arith, nat_tests)

-- a configured port is 1 to 60
pub port_is_one : {turns : ℕ} (s : State) (q : Port) (n : ℕ) → IsSound turns s → port_of n s ≡ Some q → slots.is_port q.conf.port ≡ true
port_is_one s q n a e =
    let i : In q.conf (confs s.ports) = in_map (λ (p : Port). p.conf) (in_found (is_port n) s.ports q e).0 in
    let j : In q.conf s.config.ports = subst (λ (cs : List PortConf). In q.conf cs) a.confs i in
    within_ports q.conf.port (each_tested (λ (c : PortConf). nat_le 1 c.port && nat_le c.port 60) s.config.ports a.distinct.in_range q.conf j)

-- ---- what a frame does

pub turns_as : {k l : FrameCase} {s : State} {core : Core} {outcome : Outcome} {from to : Things} {before after : List Item} → k ≡ l → Turns s (model.do_frame s l) core outcome from to before after →
    Turns s (model.do_frame s k) core outcome from to before after
turns_as {s = s} {core = core} {outcome = outcome} {from = from} {to = to} {before = before} {after = after} e t =
    subst (λ (j : FrameCase). Turns s (model.do_frame s j) core outcome from to before after) (sym e) t

pub frame_dropped : (s : State) (why : FrameDrop) (core : Core) (tray : Things) (items : List Item) → Holds core s → Turns s (model.do_frame s (Dropped why)) core (FrameDropped why) tray tray items items
frame_dropped s why core tray items h = record { holds = h; became = refl; sent = none_sent tray; told = λ start told. told }

views_map : (f : Port → Port) → ((p : Port) → view (f p) ≡ view p) → (ps : List Port) → map view ps ≡ map view (map f ps)
views_map f e [] = refl
views_map f e (p ∷ ps) = λ i. sym (e p) i ∷ views_map f e ps i

-- a forced port greets a host
pub turns_greeted : (s : State) (q : Port) (n : ℕ) (from : List ℕ) (core : Core) (ps : List Port) (tray tray' : Things) (items : List Item) → Holds core s → q.conf.port ≡ n →
    ps ≡ ports.settled_at n (set (live.Greeting from) q.forced) core.ports → tray' ≡ ports.with_said (set (live.Greeting from) q.forced) tray →
    Turns s (model.do_frame s (Forces q from)) (record core { ports = ps }) Done tray tray' items items
turns_greeted s q n from core ps tray tray' items h same p sent =
    let v : Vars = to_all (settled (set (live.Greeting from) q.forced)).vars in
    let t : State = set_forced q.conf.port v s in
    record {
      holds = record {
        config = h.config;
        clock = h.clock;
        ports = p ∙ ap (map (with_forced n v)) h.ports ∙ ap (λ (m : ℕ). map (with_forced m v) s.ports) (sym same);
        sessions = record { table = h.sessions.table; sessions = h.sessions.sessions; waits = h.sessions.waits; asked = h.sessions.asked; next = h.sessions.next };
        kept = h.kept;
      };
      became = refl;
      sent = sent;
      told = tells_none (map item_of items) s t (by_none s t (views_map (with_forced q.conf.port v) (λ p. refl) s.ports) (confs_map (with_forced q.conf.port v) (λ p. refl) s.ports) refl (record { by = stays }));
    }

pub may_greet : {turns : ℕ} (s : State) (q : Port) → IsSound turns s → IsUp s q → is_auto q.control ≡ false → ports.IsForced q
may_greet s q a up f =
    let k : IsPort q = of_each IsPort a.ports (in_found (is_port q.conf.port) s.ports q up.here).0 in
    record { live = k.live; forced = ap is_auto (k.control f up.link) ∙ f }

-- the sessions say nothing of guests
pub sessions_hold : (n : ℕ) {k : Sessions} {s : State} → sessions.Holds k (no_guests n s) → sessions.Holds k s
sessions_hold n h = record { table = h.table; sessions = h.sessions; waits = h.waits; asked = h.asked; next = h.next }

pub auto_is : (c : Control) → is_auto c ≡ true → c ≡ Auto
auto_is Auto e = refl
auto_is ForceAuth e = cc
auto_is ForceUnauth e = cc

pub full_by : (n l : ℕ) → n ≡ l → 16 ≤ n → nat_le 16 l ≡ true
full_by n l e f = grind (arith, nat_tests)

pub room_by : (n l : ℕ) → n ≡ l → n < 16 → nat_le 16 l ≡ false
room_by n l e f = grind (arith, nat_tests)

pub number_of : (s : State) (n : ℕ) (q : Port) → port_of n s ≡ Some q → q.conf.port ≡ n
number_of s n q e = (unsigned_Decides q.conf.port n).0 (in_found (is_port n) s.ports q e).1

-- the same list of ports
pub port_found : (s : State) (n : ℕ) (ps : List Port) (o : Option Port) → ps ≡ s.ports → o ≡ find (is_port n) ps → port_of n s ≡ o
port_found s n ps o e f = ap (find (is_port n)) (sym e) ∙ sym f

pub opened_turns : (s : State) (q : Port) (from : List ℕ) {core : Core} {tray tray' : Things} {before after : List Item} → Does s (model.open_session s q from) core tray tray' before after →
    Turns s (model.do_frame s (Opens q from)) core Done tray tray' before after
opened_turns s q from d = record { holds = d.holds; became = refl; sent = d.sent; told = d.told }

-- ---- a frame that is read

pub own_by : (s : State) (n : ℕ) (q : Port) → port_of n s ≡ Some q → own_address s q.conf.port ≡ own_address s n
own_by s n q e = ap (own_address s) (number_of s n q e)

pub here_by : (s : State) (octets : List ℕ) (n : ℕ) (q : Port) (from : List ℕ) (e : live.Event) (conf : PortConf) (control : Control) → port_of n s ≡ Some q →
    frame_case s octets (Some q) ≡ control_case s q from e → q.conf ≡ conf → q.control ≡ control → IsHere conf control q s
here_by s octets n q from e conf control found case f g = record {
  settings = f;
  controlled = g;
  here = subst (λ (m : ℕ). port_of m s ≡ Some q) (sym (number_of s n q found) ∙ ap (λ (p : PortConf). p.port) f) found;
  link = heard_up s octets q from e case;
}

-- Each turn leads from a sound state to a sound one.
use Rattle.std.proofs.Common.{◌≡◌, ◌⊎◌, ℕ, zero, suc, ◌+◌, ◌*◌, ◌-◌, ◌≤◌, ◌<◌, refl, sym, ap, subst, ◌∙◌, List, [], ◌∷◌, ◌++◌, length, map, filter, Option, None, Some, Bool, true, false, cond, not, arith, inl, inr}
use Rattle.std.specs.Prelude.{find, is_some, ◌==◌, ◌&&◌, nat_eq, nat_le}
use Rattle.std.specs.List.{AllByRecursion, IsDistinct, list_all, range_with_len}
use Rattle.std.specs.Cmp.{unsigned_Decides}
use Rattle.std.proofs.lemmas.Bool.{cases_eq}
use Rattle.std.proofs.lemmas.Bool.Decides.{nat_tests}
use Rattle.settle_defs.specs.Named.{needs_name, IsNamed}
use Rattle.settle_defs.proofs.SettleLaws.{stays_named}
use Rattle.aaa_defs.specs.Waits.{Pending, Waits, pending_of, placed}
use Rattle.aaa_defs.proofs.Waiting.{forgotten-none, placed_length}
use Rattle.event_record.specs.Entry.{Entry}
use Rattle.switch_defs.specs.History.{runs, after}
use Rattle.switch_defs.specs.Laws.{OpeningIsSound, TurnsAreSound, HistoriesAreSound, SessionsAreFew, NumbersFit, AsksOnce, RestsAgain, SoundIsBetween, MayFrame, FramesMaySettle, MayAnswer, AnswersMaySettle, SecondsMaySettle}
use Rattle.aaa_defs.specs.declared.Aged.{Aged}
use Rattle.aaa_defs.specs.Age.{aged}
use Rattle.switch_defs.proofs.Answers.{IsFit, answer_fits}
use Rattle.switch_defs.proofs.Resting.{only_one, settle_rests}
use Rattle.switch_defs.proofs.Hosts.{moves_up, fewer_left, from_low}
use Rattle.switch_defs.specs.Moving.{stays, drops, opens}
use Rattle.switch_defs.specs.Moving.{Moves}
use Rattle.switch_defs.proofs.Requests.{few_requests, order_placed, order_filter, each_placed}
use Rattle.machine_vars.specs.declared.control.Control.{Control}
use Rattle.machine_defs.specs.BackendTable.{is_auto}
use Rattle.machine_defs.specs.PaeTable.{same_control}
use Rattle.machine_defs.specs.Live.{InRange, born, turns}
use Rattle.machine_defs.specs.Live as live
use Rattle.settle_defs.specs.Settle.{settled}
use Rattle.switch_event.specs.declared.config.PortConf.{PortConf}
use Rattle.switch_event.specs.Config.{Config, Client, is_valid}
use Rattle.kept_defs.specs.Kept.{Entry as Reply}
use Rattle.switch_defs.proofs.Settings.{replies_turn}
use Rattle.switch_defs.proofs.Valid.{valid_times, valid_clock, valid_ports, few_ports}
use Rattle.switch_event.specs.Event.{Happening, Frame, Radius, Dynamic, Second, Link, SetControl}
use Rattle.switch_defs.specs.Switch.{Port, Host, Session, State, hosts, is_port, port_of, opening, opened_port, most_hosts, most_sessions}
use Rattle.switch_defs.specs.Session.{Another, rested, place, forget_if}
use Rattle.switch_defs.specs.Answer.{Answered, Refused, Told, answered_on}
use Rattle.switch_defs.specs.Dynamic.{judged_on}
use Rattle.switch_defs.specs.Turn.{FrameCase, Dropped, Forces, Opens, Turns, frame_case, do_frame, opened, fresh_standing, with_session, set_vars, cause_of, set_forced, guests_second, tick, up_by, up_if, link_by, do_link, control_by, do_control, set_link, set_control, close_port, turn}
use Rattle.switch_defs.specs.Sound.{In, here, there, MayHaveGuests, SomeHost, AreOwned, InOrder, MaySettle, most_ports, Rises, AreHosts, AreFew, host_on, IsPort, IsOpenPort, ArePlaced, confs, IsSound, Fits, IsUp, ArePorts}
use Rattle.switch_defs.proofs.Lists.{of_both, both, in_found, in_kept, in_map, of_each, each_in, each_filter, fewer}
use Rattle.switch_defs.proofs.Moving.{moved_to, moved_open, moved_settle, moved_each, moved_second, moved_turn}
use Rattle.switch_defs.specs.Moving.{Moved}
use Rattle.switch_defs.proofs.Turning.{may_open, may_event, may_answer, may_second, second_rests, rests_turn}
use Rattle.switch_defs.proofs.Frames.{fits_frame, found_port}
use Rattle.switch_defs.proofs.Keeping.{Kept, kept_none, kept_then, kept_mild, mild_second, kept_settle, kept_open, kept_answer, kept_request, kept_second, kept_each, kept_close_port, confs_map}
use Rattle.switch_defs.proofs.Fitting.{guests_turn, vlans_turn}
use Rattle.switch_defs.proofs.Ports.{AreDistinct, port_one, IsForcedBy, forced_settled, forced_ports, sound_link_by, sound_control_by}
use Rattle.switch_defs.proofs.Placing.{placed_on, placed_open, placed_link_by, placed_control_by, opens_forced}

-- what a turn may use up, and what it keeps
record Steps (k : ℕ) (s t : State) : Type 0 where
  config : t.config ≡ s.config
  clock : t.clock ≤ s.clock + 1
  asked : t.asked ≤ s.asked + k
  next : t.next ≤ s.next + 1
  confs : confs t.ports ≡ confs s.ports
  ports : AllByRecursion IsPort t.ports
  placed : ArePlaced t

of_kept : {k n : ℕ} {s t : State} → Kept k n s t → n ≤ 1 → AllByRecursion IsPort s.ports → ArePlaced t → Steps k s t
of_kept {s = s} {t = t} a le i p = record {
  config = a.config;
  clock = (let e : t.clock ≡ s.clock = a.clock in omega (arith, e));
  asked = a.asked;
  next = omega (arith, a.next, le);
  confs = a.confs;
  ports = a.ports i;
  placed = p;
}

steps_weaker : {k l : ℕ} {s t : State} → k ≤ l → Steps k s t → Steps l s t
steps_weaker le a = record { config = a.config; clock = a.clock; asked = omega (arith, a.asked, le); next = a.next; confs = a.confs; ports = a.ports; placed = a.placed }

placed_same : (s t : State) → Moved s t → Kept 1 0 s t → AreHosts (hosts t) t.next → ArePlaced s → ArePlaced t
placed_same s t m k a p = placed_on s t m (omega (arith, k.next)) a k.opens p

greeted : (s : State) (q p : Port) (from : List ℕ) → IsUp s q → is_auto q.control ≡ false → AreDistinct s.ports → AllByRecursion IsPort s.ports → In p s.ports → is_port q.conf.port p ≡ true →
    IsForcedBy p.control (live.to_all (settled (live.set (live.Greeting from) q.forced)).vars)
greeted s q p from u f d a i h =
    let v = live.to_all (settled (live.set (live.Greeting from) q.forced)).vars in
    let q_in = (in_found (is_port q.conf.port) s.ports q u.here).0 in
    let k : IsPort q = of_each IsPort a q_in in
    let e = k.control f u.link in
    let forced : IsForcedBy q.control v = forced_settled q.control (live.set (live.Greeting from) q.forced) f e (turns (live.Greeting from) k.live (ap is_auto e ∙ f)) in
    subst (λ (r : Port). IsForcedBy r.control v) (sym (port_one s.ports q.conf.port q d u.here p i h)) forced

steps_frame : (s : State) (k : FrameCase) → Fits s k → AreDistinct s.ports → AreHosts (hosts s) s.next → AreHosts (hosts (do_frame s k).state) (do_frame s k).state.next → AllByRecursion IsPort s.ports → ArePlaced s →
    Steps 1 s (do_frame s k).state
steps_frame s (Dropped why) f d a b i p = steps_weaker (omega arith) (of_kept (kept_none {s = s}) (omega arith) i p)
steps_frame s (Forces q from) f d a b i p =
    let v = live.to_all (settled (live.set (live.Greeting from) q.forced)).vars in
    record {
      config = refl;
      clock = omega arith;
      asked = omega arith;
      next = omega arith;
      confs = confs_map _ (λ p. refl) s.ports;
      ports = forced_ports q.conf.port v s.ports (λ r j h. greeted s q r from f.0 f.1 d i j h) i;
      placed = each_in (λ h. IsOpenPort (port_of h.port (set_forced q.conf.port v s))) (hosts s) (λ h j. opens_forced q.conf.port v s h.port (of_each (λ g. IsOpenPort (port_of g.port s)) p j));
    }
steps_frame s (Opens q from) f d a b i p =
    let h : Host = opened s q from in
    let x = fresh_standing s q from in
    let u : State = with_session h x s in
    let k = kept_settle Another h x u in
    of_kept (kept_then {k = 0} {l = 1} {n = 1} {m = 0} (kept_open h x s) k) (omega arith) i (placed_same u _ (moved_settle Another h x u) k b (placed_open s q from f.0 f.1 p))
steps_frame s (Turns y e) f d a b i p =
    let k = kept_settle (cause_of e) y.host (set_vars e y.standing) s in
    of_kept k (omega arith) i (placed_same s _ (moved_settle (cause_of e) y.host (set_vars e y.standing) s) k b p)

confs_link : (n : ℕ) (up : Bool) (s : State) → confs (set_link n up s).ports ≡ confs s.ports
confs_link n up s = confs_map _ (λ p. refl) s.ports

confs_control : (n : ℕ) (c : Control) (s : State) → confs (set_control n c s).ports ≡ confs s.ports
confs_control n c s = confs_map _ (λ p. refl) s.ports

-- what a port that begins leaves of the rest
record Plain (s t : State) : Type 0 where
  config : t.config ≡ s.config
  clock : t.clock ≡ s.clock
  asked : t.asked ≡ s.asked
  next : t.next ≡ s.next
  confs : confs t.ports ≡ confs s.ports

plain_up : (b : Bool) (q : Port) (c : Control) (s : State) → Plain s (up_by b q c s).state
plain_up true q c s = record { config = refl; clock = refl; asked = refl; next = refl; confs = confs_map _ (λ p. refl) s.ports }
plain_up false q c s = record { config = refl; clock = refl; asked = refl; next = refl; confs = confs_map _ (λ p. refl) s.ports }

steps_plain : {s t : State} → t.config ≡ s.config → t.clock ≡ s.clock → t.asked ≤ s.asked → t.next ≤ s.next → confs t.ports ≡ confs s.ports → AllByRecursion IsPort t.ports → ArePlaced t → Steps 0 s t
steps_plain e f g h c i p = record { config = e; clock = omega (arith, f); asked = omega (arith, g); next = omega (arith, h); confs = c; ports = i; placed = p }

steps_link_by : (was up : Bool) (q : Port) (s : State) → AllByRecursion IsPort (link_by was up q s).state.ports → ArePlaced (link_by was up q s).state → Steps 0 s (link_by was up q s).state
steps_link_by true true q s i p = steps_plain refl refl (omega arith) (omega arith) refl i p
steps_link_by false false q s i p = steps_plain refl refl (omega arith) (omega arith) refl i p
steps_link_by false true q s i p =
    let u : State = set_link q.conf.port true s in
    let k = plain_up (is_auto q.control) q q.control u in
    steps_plain k.config k.clock (omega (arith, k.asked)) (omega (arith, k.next)) (k.confs ∙ confs_link q.conf.port true s) i p
steps_link_by true false q s i p =
    let u : State = set_link q.conf.port false s in
    let k = kept_close_port q.conf.port u in
    steps_plain k.config k.clock (omega (arith, k.asked)) (omega (arith, k.next)) (k.confs ∙ confs_link q.conf.port false s) i p

plain_up_if : (b : Bool) (q : Port) (c : Control) (s : State) → Plain s (up_if b q c s).state
plain_up_if true q c s = plain_up (is_auto c) q c s
plain_up_if false q c s = record { config = refl; clock = refl; asked = refl; next = refl; confs = refl }

steps_control_by : (b : Bool) (c : Control) (q : Port) (s : State) → AllByRecursion IsPort (control_by b c q s).state.ports → ArePlaced (control_by b c q s).state → Steps 0 s (control_by b c q s).state
steps_control_by true c q s i p = steps_plain refl refl (omega arith) (omega arith) refl i p
steps_control_by false c q s i p =
    let n : ℕ = q.conf.port in
    let u : State = close_port n s in
    let k = kept_close_port n s in
    let j = plain_up_if q.link q c (set_control n c u) in
    steps_plain (j.config ∙ k.config) (j.clock ∙ k.clock) (omega (arith, j.asked, k.asked)) (omega (arith, j.next, k.next)) (j.confs ∙ confs_control n c u ∙ k.confs) i p

steps_link : (up : Bool) (o : Option Port) (n : ℕ) (s : State) → port_of n s ≡ o → InRange s.config.times → AreDistinct s.ports → AllByRecursion IsPort s.ports → ArePlaced s → Steps 0 s (do_link up o s).state
steps_link up None n s e t d i p = steps_plain refl refl (omega arith) (omega arith) refl i p
steps_link up (Some q) n s e t d i p = steps_link_by q.link up q s (sound_link_by q.link up s q t d (found_port n s q e) i) (placed_link_by q.link up q s p)

steps_control : (c : Control) (o : Option Port) (n : ℕ) (s : State) → port_of n s ≡ o → InRange s.config.times → AreDistinct s.ports → AllByRecursion IsPort s.ports → ArePlaced s → Steps 0 s (do_control c o s).state
steps_control c None n s e t d i p = steps_plain refl refl (omega arith) (omega arith) refl i p
steps_control c (Some q) n s e t d i p =
    steps_control_by (same_control q.control c) c q s (sound_control_by (same_control q.control c) c s q t d (found_port n s q e) i) (placed_control_by (same_control q.control c) c q s p)

steps_second : (s : State) → AreHosts (hosts (turn s Second).state) (turn s Second).state.next → AllByRecursion IsPort s.ports → ArePlaced s → Steps (length s.sessions) s (turn s Second).state
steps_second s b i p =
    let u : State = guests_second (tick s) in
    let t : State = (turn s Second).state in
    let k : Kept 0 0 (tick s) u = kept_mild (tick s) mild_second in
    let j : Kept (length s.sessions) 0 u t = kept_each s.sessions u in
    let placed_u : ArePlaced u = each_in (λ h. IsOpenPort (port_of h.port u)) (hosts s) (λ h l. k.opens h.port (of_each (λ g. IsOpenPort (port_of g.port s)) p l)) in
    record {
      config = j.config;
      clock = (let e : t.clock ≡ s.clock + 1 = j.clock in omega (arith, e));
      asked = j.asked;
      next = omega (arith, j.next);
      confs = j.confs ∙ k.confs;
      ports = j.ports (k.ports i);
      placed = placed_on u t (moved_each s.sessions u) (omega (arith, j.next)) b j.opens placed_u;
    }

steps_turn : (s : State) (e : Happening) → InRange s.config.times → AreDistinct s.ports → AreHosts (hosts s) s.next → AreHosts (hosts (turn s e).state) (turn s e).state.next → AllByRecursion IsPort s.ports → ArePlaced s →
    Steps (length s.sessions + 1) s (turn s e).state
steps_turn s (Frame port octets) t d a b i p = steps_weaker (omega arith) (steps_frame s (frame_case s octets (port_of port s)) (fits_frame s port octets) d a b i p)
steps_turn s (Radius socket octets) t d a b i p =
    let k = kept_answer s (answered_on s socket octets) in
    let m : Moved s (turn s (Radius socket octets)).state = moved_turn s (Radius socket octets) in
    steps_weaker (omega arith) (of_kept k (omega arith) i (placed_on s _ m (omega (arith, k.next)) b k.opens p))
steps_turn s (Dynamic from octets) t d a b i p =
    let k = kept_request s from octets (judged_on s from octets) in
    let m : Moved s (turn s (Dynamic from octets)).state = moved_turn s (Dynamic from octets) in
    steps_weaker (omega arith) (of_kept k (omega arith) i (placed_on s _ m (omega (arith, k.next)) b k.opens p))
steps_turn s Second t d a b i p = steps_weaker (omega arith) (steps_second s b i p)
steps_turn s (Link port up) t d a b i p = steps_weaker (omega arith) (steps_link up (port_of port s) port s refl t d i p)
steps_turn s (SetControl port c) t d a b i p = steps_weaker (omega arith) (steps_control c (port_of port s) port s refl t d i p)

-- ---- how many sessions there are

split_by : (n : ℕ) (hs : List Host) → length hs ≤ length (filter (host_on n) hs) + length (filter (λ h. not (host_on n h)) hs)
split_by n [] = omega arith
split_by n (h ∷ hs) =
    let l : length hs ≤ length (filter (host_on n) hs) + length (filter (λ h. not (host_on n h)) hs) = split_by n hs in
    elim (host_on n h) as (λ b. suc (length hs) ≤ length (cond b (h ∷ filter (host_on n) hs) (filter (host_on n) hs)) + length (cond (not b) (h ∷ filter (λ h. not (host_on n h)) hs) (filter (λ h. not (host_on n h)) hs))) [
      | true ↦ omega arith
      | false ↦ omega arith
    ]

in_rest : (n m : ℕ) (ns : List ℕ) → not (m == n) ≡ true → In m (n ∷ ns) → In m ns
in_rest n m ns e here = let same : (m == m) ≡ true = (unsigned_Decides m m).1 refl in false_not (m == m) same e
  where
    false_not : {X : Type 0} (b : Bool) → b ≡ true → not b ≡ true → X
    false_not true g h = cc
    false_not false g h = cc
in_rest n m ns e (there i) = i

pub few_hosts : (ns : List ℕ) (hs : List Host) → ((h : Host) → In h hs → In h.port ns) → AreFew hs → length hs ≤ most_hosts * length ns
few_hosts [] [] f a = omega arith
few_hosts [] (h ∷ hs) f a = no_port (f h here)
  where
    no_port : {n k : ℕ} → In n [] → k ≤ 0
    no_port i = elim i [ ]
few_hosts (n ∷ ns) hs f a =
    let off : List Host = filter (λ h. not (host_on n h)) hs in
    let rest : length off ≤ most_hosts * length ns = few_hosts ns off (λ h i. (let k = in_kept (λ h. not (host_on n h)) hs i in in_rest n h.port ns k.1 (f h k.0)))
    (λ p. (let l : length (filter (host_on p) off) ≤ length (filter (host_on p) hs) = fewer_left (host_on p) (λ h. not (host_on n h)) hs in let m : length (filter (host_on p) hs) ≤ most_hosts = a p in omega arith)) in
    let here_ : length (filter (host_on n) hs) ≤ most_hosts = a n in
    let all : length hs ≤ length (filter (host_on n) hs) + length off = split_by n hs in
    omega arith

in_range : (from n k : ℕ) → from ≤ k → k < from + n → In k (range_with_len from n)
in_range from zero k l m = absurd (omega arith)
in_range from (suc n) k l m = elim (cases_eq k from) [
  | inl same ↦ subst (λ (j : ℕ). In k (j ∷ range_with_len (from + 1) n)) same here
  | inr other ↦ there (in_range (from + 1) n k (omega (arith, l, other)) (omega (arith, m)))
]

-- a port that is configured is one of 1 to 60
each_tested : {A : Type 0} (f : A → Bool) (xs : List A) → list_all f xs ≡ true → (x : A) → In x xs → f x ≡ true
each_tested f [] e x i = elim i [ ]
each_tested f (y ∷ xs) e x here = (both (f x) (list_all f xs) e).0
each_tested f (y ∷ xs) e x (there i) = each_tested f xs (both (f y) (list_all f xs) e).1 x i

up_to : (a b : ℕ) → nat_le a b ≡ true → a ≤ b
up_to a b h = grind (arith, nat_tests)

open_is : (o : Option Port) → IsOpenPort o → (q : Port) × (o ≡ Some q)
open_is None p = absurd p
open_is (Some q) p = (q, refl)

placed_range : (s : State) → confs s.ports ≡ s.config.ports → ArePorts s.config.ports → ArePlaced s → (h : Host) → In h (hosts s) → In h.port (range_with_len 1 most_ports)
placed_range s confs_same distinct placed h i =
    let o = open_is (port_of h.port s) (of_each (λ g. IsOpenPort (port_of g.port s)) placed i) in
    let f = in_found (is_port h.port) s.ports o.0 o.1 in
    let c : In o.0.conf s.config.ports = subst (λ (cs : List PortConf). In o.0.conf cs) confs_same (in_map (λ (p : Port). p.conf) f.0) in
    let t = each_tested (λ c. nat_le 1 c.port && nat_le c.port 60) s.config.ports distinct.in_range o.0.conf c in
    let r = both (nat_le 1 o.0.conf.port) (nat_le o.0.conf.port 60) t in
    let same : o.0.conf.port ≡ h.port = (unsigned_Decides o.0.conf.port h.port).0 f.1 in
    let low : 1 ≤ o.0.conf.port = up_to 1 o.0.conf.port r.0 in
    let high : o.0.conf.port ≤ 60 = up_to o.0.conf.port 60 r.1 in
    in_range 1 60 h.port (omega (arith, same, low)) (omega (arith, same, high))

range_length : (from n : ℕ) → length (range_with_len from n) ≡ n
range_length from zero = refl
range_length from (suc n) = ap suc (range_length (from + 1) n)

hosts_length : (ys : List Session) → length (map (λ y. y.host) ys) ≡ length ys
hosts_length [] = refl
hosts_length (y ∷ ys) = ap suc (hosts_length ys)

pub sessions_are_few : SessionsAreFew
sessions_are_few n s a =
    let l : length (hosts s) ≤ most_hosts * length (range_with_len 1 most_ports) = few_hosts (range_with_len 1 most_ports) (hosts s) (placed_range s a.confs a.distinct a.placed) a.hosts.few in
    let e : length (hosts s) ≡ length s.sessions = hosts_length s.sessions in
    let r : length (range_with_len 1 most_ports) ≡ 60 = range_length 1 60 in
    omega (arith, l, e, r)

-- ---- a turn

pub distinct_of : {turns : ℕ} (s : State) → IsSound turns s → AreDistinct s.ports
distinct_of s a = subst (λ (cs : List PortConf). IsDistinct nat_eq (map (λ c. c.port) cs)) (sym a.confs) a.distinct.apart

confs_length : (ps : List Port) → length (confs ps) ≡ length ps
confs_length [] = refl
confs_length (p ∷ ps) = ap suc (confs_length ps)

pub turns_are_sound : TurnsAreSound
turns_are_sound n s e a =
    let t : State = (turn s e).state in
    let b : AreHosts (hosts t) t.next = moved_to (moved_turn s e) a.hosts in
    let k : Steps (length s.sessions + 1) s t = steps_turn s e a.times (distinct_of s a) a.hosts b a.ports a.placed in
    let few : length s.sessions ≤ most_sessions = sessions_are_few n s a in
    let clock : t.config.clock ≡ s.config.clock = ap (λ (c : Config). c.clock) k.config in
    let asked : t.asked ≤ s.asked + (length s.sessions + 1) = k.asked in
    record {
      valid = subst (λ (c : Config). is_valid c ≡ true) (sym k.config) a.valid;
      times = subst (λ (c : Config). InRange c.times) (sym k.config) a.times;
      clock = omega (arith, k.clock, a.clock, clock);
      next = omega (arith, k.next, a.next);
      asked = omega (arith, asked, a.asked, few);
      confs = k.confs ∙ a.confs ∙ ap (λ (c : Config). c.ports) (sym k.config);
      distinct = subst (λ (c : Config). ArePorts c.ports) (sym k.config) a.distinct;
      room = (let l : length t.ports ≡ length s.ports = sym (confs_length t.ports) ∙ ap (λ (cs : List PortConf). length cs) k.confs ∙ confs_length s.ports in let m : length s.ports ≤ most_ports = a.room in omega arith);
      ports = k.ports;
      guests = guests_turn s e a.guests;
      hosts = b;
      placed = k.placed;
      vlans = vlans_turn s e a;
      rests = rests_turn s e a.times a.hosts a.rests;
      kept = replies_turn s e ∙ a.kept ∙ ap (λ (c : Config). length c.clients) (sym k.config);
    }

-- ---- the opening

opened_confs : (c : Config) (ps : List PortConf) → confs (map (opened_port c) ps) ≡ ps
opened_confs c [] = refl
opened_confs c (p ∷ ps) = ap (λ (cs : List PortConf). p ∷ cs) (opened_confs c ps)

opened_ports : (c : Config) (ps : List PortConf) → InRange c.times → AllByRecursion IsPort (map (opened_port c) ps)
opened_ports c [] t = tt
opened_ports c (p ∷ ps) t = (record { live = born _ _ _ _ _ t; control = λ a l. down l; idle = λ a l. down l }, opened_ports c ps t)
  where
    down : {X : Type 0} → false ≡ true → X
    down l = cc

opened_guests : (c : Config) (ps : List PortConf) → AllByRecursion MayHaveGuests (map (opened_port c) ps)
opened_guests c [] = tt
opened_guests c (p ∷ ps) = (record { while = λ e. refl; shut = λ e. refl }, opened_guests c ps)

abbrev nothing_kept : List Reply
nothing_kept = []

pub no_hosts : AreHosts [] 1
unfolding Rises
no_hosts = record { rises = omega arith; apart = tt; few = λ n. omega arith }

as_many_lists : (cs : List Client) → length (map (λ (client : Client). nothing_kept) cs) ≡ length cs
as_many_lists [] = refl
as_many_lists (c ∷ cs) = ap suc (as_many_lists cs)

pub opening_is_sound : OpeningIsSound
opening_is_sound c valid = record {
  valid = valid;
  times = valid_times c valid;
  clock = omega arith;
  next = omega arith;
  asked = omega arith;
  confs = opened_confs c c.ports;
  distinct = valid_ports c valid;
  room = (let l : length (map (opened_port c) c.ports) ≡ length c.ports = sym (confs_length (map (opened_port c) c.ports)) ∙ ap (λ (cs : List PortConf). length cs) (opened_confs c c.ports) in let m : length c.ports ≤ 60 = few_ports c.ports (valid_ports c valid) in omega (arith, l, m));
  ports = opened_ports c c.ports (valid_times c valid);
  guests = opened_guests c c.ports;
  hosts = no_hosts;
  placed = tt;
  vlans = tt;
  rests = record { sessions = tt; owned = tt; order = tt };
  kept = as_many_lists c.clients;
}

runs_sound : (n : ℕ) (s : State) (h : List Entry) → IsSound n s → IsSound (n + length h) (runs s h)
runs_sound n s [] a = subst (λ (k : ℕ). IsSound k s) (omega arith) a
runs_sound n s (e ∷ h) a =
    let b : IsSound ((n + 1) + length h) (runs (turn s e.event).state h) = runs_sound (n + 1) (turn s e.event).state h (turns_are_sound n s e.event a) in
    subst (λ (k : ℕ). IsSound k (runs (turn s e.event).state h)) (omega arith) b

pub histories_are_sound : HistoriesAreSound
unfolding after
histories_are_sound c h valid =
    let a : IsSound (0 + length h) (runs (opening c) h) = runs_sound 0 (opening c) h (opening_is_sound c valid) in
    subst (λ (k : ℕ). IsSound k (runs (opening c) h)) (omega arith) a

pub numbers_fit : NumbersFit
numbers_fit n s le a =
    let c : s.config.clock ≤ 4294967295 = valid_clock s.config a.valid in
    (omega (arith, a.clock, c, le), omega (arith, a.next, le), omega (arith, a.asked, le))

-- ---- a request

is_none : {X : Type 0} (o : Option X) → is_some o ≡ false → o ≡ None
is_none None e = refl
is_none (Some x) e = cc

some_or : (b : Bool) → (b ≡ true) ⊎ (b ≡ false)
some_or true = inl refl
some_or false = inr refl

-- requests of a list of sessions are fewer where one session has none
fewer_by_one : (n : ℕ) (h : Host) (hs : List Host) (hi : ℕ) (ps : List Pending) → Rises 1 hs hi → InOrder 0 ps → AreOwned hs ps → In h hs → find (λ p. p.session == h.number) ps ≡ None → length ps < length hs
fewer_by_one n h hs hi ps r o a i none =
    let p : Pending = record { session = h.number; name = 0; auth = []; age = 0; octets = [] } in
    let l : length (placed (λ q. q.session) p ps) ≤ length hs = few_requests 1 hs hi (placed (λ q. q.session) p ps) r (order_from_one hs hi (placed (λ q. q.session) p ps) r (order_placed p 0 ps (omega arith) o none) (each_placed (λ q. SomeHost hs q.session) p ps (h, i, refl) a)) (each_placed (λ q. SomeHost hs q.session) p ps (h, i, refl) a) in
    let m : length (placed (λ q. q.session) p ps) ≡ suc (length ps) = placed_length p ps in
    omega (arith, l, m)
  where
    order_from_one : (hs : List Host) (hi : ℕ) (qs : List Pending) → Rises 1 hs hi → InOrder 0 qs → AreOwned hs qs → InOrder 1 qs
    order_from_one hs hi [] r o a = tt
    order_from_one hs hi (q ∷ qs) r o a = (let l : 1 ≤ a.0.0.number = from_low 1 hs hi a.0.0 r a.0.1 in omega (arith, l, a.0.2), o.1)

pub asks_once : AsksOnce
asks_once why h x s may asked =
    let m : MaySettle h x s = may.settle in
    let w = (settled x.vars).vars in
    let x' = rested why x w in
    let u : Waits = (forget_if w.aaa_abort h (place h x' s)).waits in
    let few : length s.sessions ≤ most_sessions = may.few in
    let e : length (hosts s) ≡ length s.sessions = hosts_length s.sessions in
    let free : (pending_of h.number u ≡ None) × AreOwned (hosts s) u.requests × InOrder 0 u.requests = by w.aaa_abort refl m in
    let l : length u.requests < length (hosts s) = fewer_by_one 0 h (hosts s) s.next u.requests may.hosts.rises free.2 free.1 m.there free.0 in
    let named : IsNamed w = stays_named x.vars m.ready m.named in
    (free.0, omega (arith, few, e, l), named (ap (λ (z : _). needs_name z w.local) (m.fine.asks asked)))
  where
    by : (b : Bool) → (settled x.vars).vars.aaa_abort ≡ b → MaySettle h x s →
        (pending_of h.number (forget_if b h (place h (rested why x (settled x.vars).vars) s)).waits ≡ None) × AreOwned (hosts s) (forget_if b h (place h (rested why x (settled x.vars).vars) s)).waits.requests × InOrder 0 (forget_if b h (place h (rested why x (settled x.vars).vars) s)).waits.requests
    by true f m = (forgotten-none h.number s.waits, each_filter (λ p. SomeHost (hosts s) p.session) _ s.waits.requests m.owned, order_filter _ 0 s.waits.requests m.order)
    by false f m = (is_none (pending_of h.number s.waits) (elim (some_or (is_some (pending_of h.number s.waits))) [ inl g ↦ of_both f (m.fine.free asked g) | inr g ↦ g ]), m.owned, m.order)

-- ---- while a turn goes on

pub sound_is_between : SoundIsBetween
sound_is_between n s a = record { hosts = a.hosts; few = sessions_are_few n s a; rests = a.rests }

-- no more sessions than before
moved_fewer : (hs gs : List Host) (n m : ℕ) → Moves hs n gs m → m ≤ n → length gs ≤ length hs
moved_fewer hs gs n m stays le = omega arith
moved_fewer hs gs n m (drops keep p) le = (let l : length gs ≤ length (filter keep hs) = moved_fewer (filter keep hs) gs n m p le in let f : length (filter keep hs) ≤ length hs = fewer keep hs in omega arith)
moved_fewer hs gs n m (opens port address free few p) le = let l : n + 1 ≤ m = moves_up p in absurd (omega arith)

few_after : (s t : State) → Moved s t → t.next ≤ s.next → length s.sessions ≤ most_sessions → length t.sessions ≤ most_sessions
few_after s t m le f =
    let l : length (hosts t) ≤ length (hosts s) = moved_fewer (hosts s) (hosts t) s.next t.next m.by le in
    let a : length (hosts s) ≡ length s.sessions = hosts_length s.sessions in
    let b : length (hosts t) ≡ length t.sessions = hosts_length t.sessions in
    omega (arith, f)

pub rests_again : RestsAgain
rests_again why h x s may =
    let m = moved_settle why h x s in
    let k = kept_settle why h x s in
    record {
      hosts = moved_to m may.hosts;
      few = few_after s _ m (omega (arith, k.next)) may.few;
      rests = settle_rests why h x s (only_one may.hosts may.settle.there) may.settle;
    }

opened_length : (ys : List Session) (y : Session) → length (ys ++ y ∷ []) ≡ suc (length ys)
opened_length [] y = refl
opened_length (x ∷ ys) y = ap suc (opened_length ys y)

may_frame : (turns : ℕ) (s : State) (k : FrameCase) → Fits s k → IsSound turns s → MayFrame s k
may_frame n s (Dropped why) f a = tt
may_frame n s (Forces q from) f a =
    let k : IsPort q = of_each IsPort a.ports (in_found (is_port q.conf.port) s.ports q f.0.here).0 in
    turns (live.Greeting from) k.live (ap is_auto (k.control f.1 f.0.link) ∙ f.1)
may_frame n s (Opens q from) f a =
    let h : Host = opened s q from in
    let t : State = with_session h (fresh_standing s q from) s in
    let b : AreHosts (hosts t) t.next = moved_to (moved_open s q from f.2 f.3) a.hosts in
    let p : ArePlaced t = placed_open s q from f.0 f.1 a.placed in
    let k = kept_open h (fresh_standing s q from) s in
    let l : length (hosts t) ≤ most_hosts * length (range_with_len 1 most_ports) =
    few_hosts (range_with_len 1 most_ports) (hosts t) (λ g i. placed_range t (k.confs ∙ a.confs ∙ ap (λ (c : Config). c.ports) (sym k.config)) (subst (λ (c : Config). ArePorts c.ports) (sym k.config) a.distinct) p g i) b.few in
    let e : length (hosts t) ≡ length t.sessions = hosts_length t.sessions in
    let r : length (range_with_len 1 most_ports) ≡ 60 = range_length 1 60 in
    record { hosts = b; few = omega (arith, l, e, r); settle = may_open s q from a.hosts a.rests a.times }
may_frame n s (Turns y e) f a = record { hosts = a.hosts; few = sessions_are_few n s a; settle = may_event y e s f.0 f.1 a.rests }

pub frames_may_settle : FramesMaySettle
frames_may_settle n s port octets a = may_frame n s (frame_case s octets (port_of port s)) (fits_frame s port octets) a

may_answers : (turns : ℕ) (s : State) (k : Answered) → IsFit s k → IsSound turns s → MayAnswer s k
may_answers n s (Refused why) f a = tt
may_answers n s (Told y said) f a = record { hosts = a.hosts; few = sessions_are_few n s a; settle = may_answer y said s f.0 f.1 a.hosts a.rests }

pub answers_may_settle : AnswersMaySettle
answers_may_settle n s socket octets a = may_answers n s (answered_on s socket octets) (answer_fits s socket octets a.times) a

pub seconds_may_settle : SecondsMaySettle
seconds_may_settle y s b i =
    let m = moved_second y s in
    let k = kept_second y s in
    let a : Aged = aged (pending_of y.host.number s.waits) in (
      record {
        hosts = moved_to m b.hosts;
        few = few_after s _ m (omega (arith, k.next)) b.few;
        rests = second_rests (y.standing.end_while == 1) y s b.hosts i b.rests;
      },
      record { hosts = b.hosts; few = b.few; settle = may_second a y (record y.standing { end_while = y.standing.end_while - 1 }) s refl b.hosts i b.rests },
    )

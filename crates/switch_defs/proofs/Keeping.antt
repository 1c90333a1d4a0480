-- What an event keeps: the settings, the clock, the ports, and how many authenticators and numbers it uses.
use Rattle.std.proofs.Common.{◌≡◌, ℕ, suc, ◌+◌, ◌-◌, ◌≤◌, refl, sym, ap, subst, ◌∙◌, List, [], ◌∷◌, length, map, filter, Option, None, Some, Bool, true, false, cond, arith}
use Rattle.std.specs.Prelude.{find, if◌then◌else◌, ◌==◌, ◌&&◌, not}
use Rattle.std.specs.List.{AllByRecursion, list_any}
use Rattle.machine_defs.specs.BackendTable.{is_auto}
use Rattle.machine_defs.specs.Live as live
use Rattle.settle_defs.specs.Settle.{Rest, settled}
use Rattle.radius_defs.specs.Packet.{Packet}
use Rattle.radius_defs.specs.Parsed.{packet_of}
use Rattle.radius_defs.specs.declared.Timeout.{Timeout}
use Rattle.aaa_defs.specs.declared.Aged.{Aged}
use Rattle.aaa_defs.specs.Waits.{pending_of}
use Rattle.aaa_defs.specs.Age.{aged}
use Rattle.std.specs.Str.{bytes_eq}
use Rattle.kept_defs.specs.Kept.{Entry, with_newest}
use Rattle.switch_event.specs.Config.{Client}
use Rattle.wire_core.specs.declared.address.Addr.{Addr}
use Rattle.dynauth_defs.specs.declared.Action.{Action}
use Rattle.dynauth_defs.specs.declared.Action.TheVariants.{Disconnect, Change}
use Rattle.dynauth_defs.specs.Judge.{Judged, Drop, Again, Nak, Ack}
use Rattle.switch_defs.specs.Switch.{Port, Host, Standing, Session, State, is_port, port_of, on_port, session_numbered}
use Rattle.switch_defs.specs.Session.{Cause, AnAnswer, Another, place, close, may_arm, armed, unguested, is_other, rested, forget, forget_if, ask_if, close_if, follow, settle_session}
use Rattle.switch_defs.specs.Answer.{stands, Answered, Refused, Told}
use Rattle.switch_defs.specs.Dynamic.{act, disconnected, changed, keep_for, reply_to}
use Rattle.switch_defs.specs.Turn.{with_session, set_vars, is_given_up, do_answer, do_request, age_request, second_by, second_of, each_second, guest_second, close_all, close_port, on_port_of}
use Rattle.switch_defs.specs.Sound.{IsPort, MayHaveGuests, IsOpenPort, confs}

-- the link of the port of a number is so
abbrev pub AreLinked : Bool → ℕ → List Port → Type 0
AreLinked up m ps = AllByRecursion (λ p. is_port m p ≡ true → p.link ≡ up) ps

-- at most k authenticators and n numbers are used; ports stay sound, and those that sessions may be on stay so
pub record Kept (k n : ℕ) (s t : State) : Type 0 where
  pub config : t.config ≡ s.config
  pub clock : t.clock ≡ s.clock
  pub asked : t.asked ≤ s.asked + k
  pub next : t.next ≤ s.next + n
  pub confs : confs t.ports ≡ confs s.ports
  pub ports : AllByRecursion IsPort s.ports → AllByRecursion IsPort t.ports
  pub opens : (m : ℕ) → IsOpenPort (port_of m s) → IsOpenPort (port_of m t)
  pub links : (up : Bool) (m : ℕ) → AreLinked up m s.ports → AreLinked up m t.ports
  pub guests : AllByRecursion MayHaveGuests s.ports → AllByRecursion MayHaveGuests t.ports
  pub replies : length t.kept ≡ length s.kept

pub kept_none : {s : State} → Kept 0 0 s s
kept_none = record { config = refl; clock = refl; asked = omega arith; next = omega arith; confs = refl; ports = λ a. a; opens = λ m o. o; links = λ up m a. a; guests = λ g. g; replies = refl }

pub kept_then : {k l n m : ℕ} {s t u : State} → Kept k n s t → Kept l m t u → Kept (k + l) (n + m) s u
kept_then a b = record {
  config = b.config ∙ a.config;
  clock = b.clock ∙ a.clock;
  asked = omega (arith, a.asked, b.asked);
  next = omega (arith, a.next, b.next);
  confs = b.confs ∙ a.confs;
  ports = λ p. b.ports (a.ports p);
  opens = λ m o. b.opens m (a.opens m o);
  links = λ up m l. b.links up m (a.links up m l);
  guests = λ g. b.guests (a.guests g);
  replies = b.replies ∙ a.replies;
}

pub kept_weaker : {k l n m : ℕ} {s t : State} → k ≤ l → n ≤ m → Kept k n s t → Kept l m s t
kept_weaker g h a = record { config = a.config; clock = a.clock; asked = omega (arith, a.asked, g); next = omega (arith, a.next, h); confs = a.confs; ports = a.ports; opens = a.opens; links = a.links; guests = a.guests; replies = a.replies }

-- ---- what changes no port but its guests

pub record Mild (f : Port → Port) : Type 0 where
  pub conf : (p : Port) → (f p).conf ≡ p.conf
  pub link : (p : Port) → (f p).link ≡ p.link
  pub port : (n : ℕ) (p : Port) → is_port n (f p) ≡ is_port n p
  pub sound : (p : Port) → IsPort p → IsPort (f p)
  pub stays : (p : Port) → IsOpenPort (Some p) → IsOpenPort (Some (f p))
  pub guests : (p : Port) → MayHaveGuests p → MayHaveGuests (f p)

pub mild_guests : (n : ℕ) → Mild (unguested n)
mild_guests n = record {
  conf = λ p. refl;
  link = λ p. refl;
  port = λ m p. refl;
  sound = λ p i. record { live = i.live; control = i.control; idle = i.idle };
  stays = λ p o. o;
  guests = λ p g. record { while = λ e. nought (is_port n p) p (g.while e); shut = λ e. closed (is_port n p) p (g.shut e) };
}
  where
    nought : (b : Bool) (p : Port) → p.guest_while ≡ 0 → (if b then 0 else p.guest_while) ≡ 0
    nought true p e = refl
    nought false p e = e

    closed : (b : Bool) (p : Port) → p.guest_open ≡ false → (if b then false else p.guest_open) ≡ false
    closed true p e = refl
    closed false p e = e

-- without a VLAN for guests nothing is waited for
unarmed_by : (a b c d : Bool) (wait old : ℕ) → old ≡ 0 → (if a && b && c && false && d then wait else old) ≡ 0
unarmed_by true true true d wait old nought = nought
unarmed_by true true false d wait old nought = nought
unarmed_by true false c d wait old nought = nought
unarmed_by false b c d wait old nought = nought

unarmed : (n : ℕ) (ys : List Session) (wait : ℕ) (p : Port) → p.conf.guest ≡ 0 → p.guest_while ≡ 0 → (if may_arm n ys p then wait else p.guest_while) ≡ 0
unarmed n ys wait p none nought = rw (none) (unarmed_by (is_port n p) (is_auto p.control) p.link (not (list_any (on_port n) ys)) wait p.guest_while nought)

pub mild_armed : (n : ℕ) (ys : List Session) (wait : ℕ) → Mild (armed n ys wait)
mild_armed n ys wait = record {
  conf = λ p. refl;
  link = λ p. refl;
  port = λ m p. refl;
  sound = λ p i. record { live = i.live; control = i.control; idle = i.idle };
  stays = λ p o. o;
  guests = λ p g. record { while = λ e. unarmed n ys wait p e (g.while e); shut = g.shut };
}

pub mild_second : Mild guest_second
mild_second = record {
  conf = λ p. refl;
  link = λ p. refl;
  port = λ m p. refl;
  sound = λ p i. record { live = i.live; control = i.control; idle = i.idle };
  stays = λ p o. o;
  guests = λ p g. record { while = λ e. rw (g.while e) refl; shut = λ e. rw (g.while e, g.shut e) refl };
}

pub confs_map : (f : Port → Port) → ((p : Port) → (f p).conf ≡ p.conf) → (ps : List Port) → confs (map f ps) ≡ confs ps
confs_map f e [] = refl
confs_map f e (p ∷ ps) = rw (e p, confs_map f e ps) refl

pub open_map : (f : Port → Port) (n : ℕ) → ((p : Port) → is_port n (f p) ≡ is_port n p) → ((p : Port) → is_port n p ≡ true → IsOpenPort (Some p) → IsOpenPort (Some (f p))) → (ps : List Port) →
    IsOpenPort (find (is_port n) ps) → IsOpenPort (find (is_port n) (map f ps))
open_map f n e k [] o = o
open_map f n e k (p ∷ ps) o = subst (λ (b : Bool). IsOpenPort (cond b (Some (f p)) (find (is_port n) (map f ps)))) (sym (e p)) (by (is_port n p) refl o (open_map f n e k ps))
  where
    by : (b : Bool) → is_port n p ≡ b → IsOpenPort (cond b (Some p) (find (is_port n) ps)) → (IsOpenPort (find (is_port n) ps) → IsOpenPort (find (is_port n) (map f ps))) → IsOpenPort (cond b (Some (f p)) (find (is_port n) (map f ps)))
    by true h q g = k p h q
    by false h q g = g q

pub sound_map : (f : Port → Port) → ((p : Port) → IsPort p → IsPort (f p)) → (ps : List Port) → AllByRecursion IsPort ps → AllByRecursion IsPort (map f ps)
sound_map f e [] a = tt
sound_map f e (p ∷ ps) a = (e p a.0, sound_map f e ps a.1)

links_map : (f : Port → Port) (up : Bool) (n : ℕ) → ((p : Port) → is_port n (f p) ≡ is_port n p) → ((p : Port) → (f p).link ≡ p.link) → (ps : List Port) → AreLinked up n ps → AreLinked up n (map f ps)
links_map f up n e k [] a = tt
links_map f up n e k (p ∷ ps) a = (λ h. k p ∙ a.0 (sym (e p) ∙ h), links_map f up n e k ps a.1)

pub guests_map : (f : Port → Port) → ((p : Port) → MayHaveGuests p → MayHaveGuests (f p)) → (ps : List Port) → AllByRecursion MayHaveGuests ps → AllByRecursion MayHaveGuests (map f ps)
guests_map f e [] a = tt
guests_map f e (p ∷ ps) a = (e p a.0, guests_map f e ps a.1)

pub kept_mild : {f : Port → Port} (s : State) → Mild f → Kept 0 0 s (record s { ports = map f s.ports })
kept_mild {f = f} s m = record {
  config = refl;
  clock = refl;
  asked = omega arith;
  next = omega arith;
  confs = confs_map f m.conf s.ports;
  ports = sound_map f m.sound s.ports;
  opens = λ n o. open_map f n (m.port n) (λ p e q. m.stays p q) s.ports o;
  links = λ up n l. links_map f up n (m.port n) m.link s.ports l;
  guests = guests_map f m.guests s.ports;
  replies = refl;
}

-- ---- one session

pub kept_place : (h : Host) (x : Standing) (s : State) → Kept 0 0 s (place h x s)
kept_place h x s = record { config = refl; clock = refl; asked = omega arith; next = omega arith; confs = refl; ports = λ a. a; opens = λ m o. o; links = λ up m a. a; guests = λ g. g; replies = refl }

pub kept_close : (h : Host) (s : State) → Kept 0 0 s (close h s)
kept_close h s =
    let t : State = record (forget h s) { sessions = filter (is_other h) s.sessions } in
    let a : Kept 0 0 s t = record { config = refl; clock = refl; asked = omega arith; next = omega arith; confs = refl; ports = λ a. a; opens = λ m o. o; links = λ up m a. a; guests = λ g. g; replies = refl } in
    kept_then {k = 0} {l = 0} {n = 0} {m = 0} a (kept_mild t (mild_armed h.port t.sessions t.config.guest_wait))

kept_forget_if : (b : Bool) (h : Host) (s : State) → Kept 0 0 s (forget_if b h s)
kept_forget_if true h s = record { config = refl; clock = refl; asked = omega arith; next = omega arith; confs = refl; ports = λ a. a; opens = λ m o. o; links = λ up m a. a; guests = λ g. g; replies = refl }
kept_forget_if false h s = kept_none

kept_ask_if : (b : Bool) (h : Host) (x : Standing) (s : State) → Kept 1 0 s (ask_if b h x s).state
kept_ask_if true h x s = record { config = refl; clock = refl; asked = omega arith; next = omega arith; confs = refl; ports = λ a. a; opens = λ m o. o; links = λ up m a. a; guests = λ g. g; replies = refl }
kept_ask_if false h x s = record { config = refl; clock = refl; asked = omega arith; next = omega arith; confs = refl; ports = λ a. a; opens = λ m o. o; links = λ up m a. a; guests = λ g. g; replies = refl }

kept_close_if : (b : Bool) (h : Host) (s : State) → Kept 0 0 s (close_if b h s)
kept_close_if true h s = kept_close h s
kept_close_if false h s = kept_none

pub kept_follow : (why : Cause) (h : Host) (x : Standing) (r : Rest) (s : State) → Kept 1 0 s (follow why h x r s).state
kept_follow why h x r s =
    let a = kept_place h (rested why x r.vars) s in
    let b = kept_forget_if r.vars.aaa_abort h (place h (rested why x r.vars) s) in
    let c = kept_ask_if r.vars.aaa_eap_resp h (rested why x r.vars) (forget_if r.vars.aaa_abort h (place h (rested why x r.vars) s)) in
    let d = kept_close_if r.vars.gone h (ask_if r.vars.aaa_eap_resp h (rested why x r.vars) (forget_if r.vars.aaa_abort h (place h (rested why x r.vars) s))).state in
    kept_then {k = 0} {l = 1} {n = 0} {m = 0} (kept_then {k = 0} {l = 0} {n = 0} {m = 0} a b) (kept_then {k = 1} {l = 0} {n = 0} {m = 0} c d)

pub kept_settle : (why : Cause) (h : Host) (x : Standing) (s : State) → Kept 1 0 s (settle_session why h x s).state
kept_settle why h x s = kept_follow why h x (settled x.vars) s

-- ---- events

pub kept_open : (h : Host) (x : Standing) (s : State) → Kept 0 1 s (with_session h x s)
kept_open h x s =
    let a = kept_mild s (mild_guests h.port) in
    record { config = a.config; clock = a.clock; asked = a.asked; next = omega arith; confs = a.confs; ports = a.ports; opens = a.opens; links = a.links; guests = a.guests; replies = a.replies }

pub kept_forget : (h : Host) (s : State) → Kept 0 0 s (forget h s)
kept_forget h s = kept_forget_if true h s

pub kept_answer : (s : State) (k : Answered) → Kept 1 0 s (do_answer s k).state
kept_answer s (Refused why) = kept_weaker (omega arith) (omega arith) kept_none
kept_answer s (Told y said) = kept_then {k = 0} {l = 1} {n = 0} {m = 0} (kept_forget y.host s) (kept_settle AnAnswer y.host (stands said y.standing) (forget y.host s))

kept_disconnected : (o : Option Session) (s : State) → Kept 0 0 s (disconnected o s).state
kept_disconnected None s = kept_none
kept_disconnected (Some y) s = kept_close y.host s

kept_changed : (vlan : Option ℕ) (t : Timeout) (o : Option Session) (s : State) → Kept 0 0 s (changed vlan t o s).state
kept_changed vlan t None s = kept_none
kept_changed vlan t (Some y) s = kept_place y.host _ s

kept_act : (a : Action) (s : State) → Kept 0 0 s (act a s).state
kept_act (Disconnect number) s = kept_disconnected (session_numbered number s) s
kept_act (Change number vlan t) s = kept_changed vlan t (session_numbered number s) s

-- each client has its list
kept_by : (b : Bool) (x y : List Entry) (xs ys : List (List Entry)) → length ys ≡ length xs → length (if b then y ∷ xs else x ∷ ys) ≡ suc (length xs)
kept_by true x y xs ys e = refl
kept_by false x y xs ys e = ap suc e

kept_for : (ip : List ℕ) (e : Entry) (cs : List Client) (ks : List (List Entry)) → length (keep_for ip e cs ks) ≡ length ks
kept_for ip e [] ks = refl
kept_for ip e (c ∷ cs) [] = refl
kept_for ip e (c ∷ cs) (k ∷ ks) = kept_by (bytes_eq c.ip ip) k (with_newest e k) ks (keep_for ip e cs ks) (kept_for ip e cs ks)

kept_reply : (o : Option Packet) (cause : Option ℕ) (from : Addr) (s : State) → Kept 0 0 s (reply_to o cause from s).state
kept_reply None cause from s = kept_none
kept_reply (Some p) cause from s =
    record { config = refl; clock = refl; asked = omega arith; next = omega arith; confs = refl; ports = λ a. a; opens = λ m o. o; links = λ up m a. a; guests = λ g. g; replies = kept_for from.ip _ s.config.clients s.kept }

pub kept_request : (s : State) (from : Addr) (octets : List ℕ) (j : Judged) → Kept 0 0 s (do_request s from octets j).state
kept_request s from octets (Drop reason) = kept_none
kept_request s from octets (Again reply) = kept_none
kept_request s from octets (Nak cause) = kept_reply (packet_of octets) (Some cause) from s
kept_request s from octets (Ack a) = kept_then {k = 0} {l = 0} {n = 0} {m = 0} (kept_act a s) (kept_reply (packet_of octets) None from (act a s).state)

kept_age : (a : Aged) (h : Host) (s : State) → Kept 0 0 s (age_request a h s)
kept_age a h s = record { config = refl; clock = refl; asked = omega arith; next = omega arith; confs = refl; ports = λ a. a; opens = λ m o. o; links = λ up m a. a; guests = λ g. g; replies = refl }

kept_second_by : (b : Bool) (y : Session) (s : State) → Kept 1 0 s (second_by b y s).state
kept_second_by true y s = kept_weaker (omega arith) (omega arith) (kept_close y.host s)
kept_second_by false y s =
    let a : Aged = aged (pending_of y.host.number s.waits) in
    kept_then {k = 0} {l = 1} {n = 0} {m = 0} (kept_age a y.host s) (kept_settle Another y.host (set_vars (live.Second (is_given_up a)) (record y.standing { end_while = y.standing.end_while - 1 })) (age_request a y.host s))

pub kept_second : (y : Session) (s : State) → Kept 1 0 s (second_of y s).state
kept_second y s = kept_second_by (y.standing.end_while == 1) y s

pub kept_each : (ys : List Session) (s : State) → Kept (length ys) 0 s (each_second ys s).state
kept_each [] s = kept_none
kept_each (y ∷ ys) s = kept_weaker {k = 1 + length ys} {n = 0} (omega arith) (omega arith) (kept_then {k = 1} {l = length ys} {n = 0} {m = 0} (kept_second y s) (kept_each ys (second_of y s).state))

pub kept_close_all : (ys : List Session) (s : State) → Kept 0 0 s (close_all ys s)
kept_close_all [] s = kept_none
kept_close_all (y ∷ ys) s = kept_then {k = 0} {l = 0} {n = 0} {m = 0} (kept_close y.host s) (kept_close_all ys (close y.host s))

pub kept_close_port : (n : ℕ) (s : State) → Kept 0 0 s (close_port n s)
kept_close_port n s = kept_then {k = 0} {l = 0} {n = 0} {m = 0} (kept_close_all (on_port_of n s) s) (kept_mild (close_all (on_port_of n s) s) (mild_guests n))

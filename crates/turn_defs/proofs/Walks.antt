-- The sessions, walked by their places in the order, where those that close leave the walk where it is.
use Rattle.std.proofs.Common.{◌≡◌, ◌++◌, [], ◌∷◌, ℕ, zero, suc, ◌+◌, ◌-◌, Bool, true, false, cond, not, List, None, Some, length, filter, map, drop, refl, sym, ap, subst, ◌∙◌, arith, append_assoc}
use Rattle.std.specs.Prelude.{◌==◌, ◌||◌, find, slice_get, if◌then◌else◌}
use Rattle.aaa_defs.specs.Waits.{pending_of}
use Rattle.aaa_defs.specs.Age.{aged}
use Rattle.switch_event.specs.Sent.{Sent}
use Rattle.switch_defs.specs.Switch.{Host, Session, Standing, State, hosts, is_at, on_port}
use Rattle.switch_defs.specs.Session.{Another, close, close_if, ask_if, forget_if, is_other, place, rested, stands_as}
use Rattle.switch_defs.specs.Turn.{age_request, close_all, each_second, second_by, second_of}
use Rattle.switch_defs.specs.Sound.{In, here, there, AreApart, AreHosts, HasVlan, confs}
use Rattle.switch_defs.specs.Laws.{IsBetween}
use Rattle.switch_defs.proofs.Lists.{in_kept, in_map, key_flip, none_passes, key_same, of_each}
use Rattle.switch_defs.specs.Moving.{stays}
use Rattle.switch_defs.proofs.Fitting.{vlans_close, vlans_second, vlans_settle}
use Rattle.switch_defs.specs.Fitting.{AreVlans}
use Rattle.switch_defs.proofs.Moving.{moved_close, moved_settle, moved_to, then_moved}
use Rattle.table_defs.proofs.Told.{aside_close, aside_settle, aside_then}
use Rattle.table_defs.specs.Told.{Speaks}
use Rattle.switch_defs.proofs.Keeping.{kept_second, kept_close}
use Rattle.switch_defs.proofs.Soundness.{seconds_may_settle}
use Rattle.std.proofs.lemmas.List.{append-nil}
use Rattle.machine_vars.specs.declared.vars.Vars.{Vars}
use Rattle.settle_defs.specs.Settle.{settled}
use Rattle.turn_defs.specs.Parts.{Beside, Near, is_gone}
use Rattle.turn_defs.proofs.Parts.{beside_close, beside_settle}
use Rattle.turn_defs.specs.Walks.{Next, after_closing, is_over, later, next_place}

-- ---- one session among them

-- all others stay as they are
other_stays : (h : Host) (x : Standing) (z : Session) → is_at h.port h.address z.host ≡ false → stands_as h x z ≡ z
other_stays h x z e = by (is_at h.port h.address z.host) e
  where
    by : (b : Bool) → b ≡ false → record z { standing = if b then x else z.standing } ≡ z
    by true k = cc
    by false k = refl

keeps_other : {A : Type 0} (b : Bool) (z : A) (zs : List A) → b ≡ false → cond (not b) (z ∷ zs) zs ≡ z ∷ zs
keeps_other true z zs e = cc
keeps_other false z zs e = refl

drops_it : {A : Type 0} (b : Bool) (z : A) (zs : List A) → b ≡ true → cond (not b) (z ∷ zs) zs ≡ zs
drops_it true z zs e = refl
drops_it false z zs e = cc

apart_of : (y : Session) (ys : List Session) (z : Session) → find (is_at y.host.port y.host.address) (map (λ z. z.host) ys) ≡ None → In z ys → is_at y.host.port y.host.address z.host ≡ false
apart_of y ys z a i = none_passes (is_at y.host.port y.host.address) a (in_map (λ (w : Session). w.host) i)

itself : (y : Session) → is_at y.host.port y.host.address y.host ≡ true
itself y = key_same y.host.port y.host.address

-- a part of the list without the session is left as it is
all_stay : (h : Host) (x : Standing) (zs : List Session) → ((z : Session) → In z zs → is_at h.port h.address z.host ≡ false) → map (stands_as h x) zs ≡ zs
all_stay h x [] f = refl
all_stay h x (z ∷ zs) f = λ i. other_stays h x z (f z here) i ∷ all_stay h x zs (λ w j. f w (there j)) i

all_kept : (h : Host) (zs : List Session) → ((z : Session) → In z zs → is_at h.port h.address z.host ≡ false) → filter (is_other h) zs ≡ zs
all_kept h [] f = refl
all_kept h (z ∷ zs) f = keeps_other (is_at h.port h.address z.host) z (filter (is_other h) zs) (f z here) ∙ ap (λ (ws : List Session). z ∷ ws) (all_kept h zs (λ w j. f w (there j)))

in_rest : (n : ℕ) (zs : List Session) (y : Session) (ys : List Session) → drop n zs ≡ y ∷ ys → In y zs
in_rest zero zs y ys e = subst (λ (ws : List Session). In y ws) (sym e) here
in_rest (suc n) [] y ys e = cc
in_rest (suc n) (z ∷ zs) y ys e = there (in_rest n zs y ys e)

pub in_drop : (n : ℕ) (zs : List Session) (y : Session) (ys : List Session) → drop n zs ≡ y ∷ ys → In y zs
in_drop n zs y ys e = in_rest n zs y ys e

-- the session at a place closes: those behind it move up
pub behind_closed : (n : ℕ) (zs : List Session) (y : Session) (ys : List Session) → AreApart (map (λ z. z.host) zs) → drop n zs ≡ y ∷ ys → drop n (filter (is_other y.host) zs) ≡ ys
behind_closed zero zs y ys a e =
    let same : filter (is_other y.host) zs ≡ filter (is_other y.host) (y ∷ ys) = ap (filter (is_other y.host)) e in
    let b : AreApart (map (λ z. z.host) (y ∷ ys)) = subst (λ (ws : List Session). AreApart (map (λ z. z.host) ws)) e a in
    same ∙ drops_it (is_at y.host.port y.host.address y.host) y (filter (is_other y.host) ys) (itself y) ∙ all_kept y.host ys (λ z i. apart_of y ys z b.0 i)
behind_closed (suc n) [] y ys a e = cc
behind_closed (suc n) (z ∷ zs) y ys a e =
    let differ : is_at y.host.port y.host.address z.host ≡ false = key_flip y.host.port y.host.address z.host.port z.host.address (apart_of z zs y a.0 (in_rest n zs y ys e)) in
    ap (drop (suc n)) (keeps_other (is_at y.host.port y.host.address z.host) z (filter (is_other y.host) zs) differ) ∙ behind_closed n zs y ys a.1 e

-- it stays, in another standing
pub behind_placed : (n : ℕ) (zs : List Session) (y : Session) (x : Standing) (ys : List Session) → AreApart (map (λ z. z.host) zs) → drop n zs ≡ y ∷ ys → drop (suc n) (map (stands_as y.host x) zs) ≡ ys
behind_placed zero zs y x ys a e =
    let b : AreApart (map (λ z. z.host) (y ∷ ys)) = subst (λ (ws : List Session). AreApart (map (λ z. z.host) ws)) e a in
    ap (λ (ws : List Session). drop 1 (map (stands_as y.host x) ws)) e ∙ all_stay y.host x ys (λ z i. apart_of y ys z b.0 i)
behind_placed (suc n) [] y x ys a e = cc
behind_placed (suc n) (z ∷ zs) y x ys a e = behind_placed n zs y x ys a.1 e

placed_apart : (h : Host) (x : Standing) (zs : List Session) → map (λ z. z.host) (map (stands_as h x) zs) ≡ map (λ z. z.host) zs
placed_apart h x [] = refl
placed_apart h x (z ∷ zs) = ap (λ (hs : List Host). z.host ∷ hs) (placed_apart h x zs)

-- what is behind a place, once the session there stands otherwise
rest_placed : (n : ℕ) (zs : List Session) (y : Session) (x : Standing) (ys : List Session) → AreApart (map (λ z. z.host) zs) → drop n zs ≡ y ∷ ys → drop n (map (stands_as y.host x) zs) ≡ stands_as y.host x y ∷ ys
rest_placed zero zs y x ys a e =
    let b : AreApart (map (λ z. z.host) (y ∷ ys)) = subst (λ (ws : List Session). AreApart (map (λ z. z.host) ws)) e a in
    ap (map (stands_as y.host x)) e ∙ ap (λ (ws : List Session). stands_as y.host x y ∷ ws) (all_stay y.host x ys (λ z i. apart_of y ys z b.0 i))
rest_placed (suc n) [] y x ys a e = cc
rest_placed (suc n) (z ∷ zs) y x ys a e = rest_placed n zs y x ys a.1 e

-- the sessions once one of them was settled
settled_by : (ask abort gone : Bool) (h : Host) (x : Standing) (s : State) →
    (close_if gone h (ask_if ask h x (forget_if abort h (place h x s))).state).sessions ≡ cond gone (filter (is_other h) (map (stands_as h x) s.sessions)) (map (stands_as h x) s.sessions)
settled_by true true true h x s = refl
settled_by true true false h x s = refl
settled_by true false true h x s = refl
settled_by true false false h x s = refl
settled_by false true true h x s = refl
settled_by false true false h x s = refl
settled_by false false true h x s = refl
settled_by false false false h x s = refl

behind_settled : (gone : Bool) (n : ℕ) (zs : List Session) (y : Session) (x : Standing) (ys : List Session) → AreApart (map (λ z. z.host) zs) → drop n zs ≡ y ∷ ys →
    drop (next_place gone n) (cond gone (filter (is_other y.host) (map (stands_as y.host x) zs)) (map (stands_as y.host x) zs)) ≡ ys
behind_settled true n zs y x ys a e =
    let b : AreApart (map (λ z. z.host) (map (stands_as y.host x) zs)) = subst AreApart (sym (placed_apart y.host x zs)) a in
    behind_closed n (map (stands_as y.host x) zs) (stands_as y.host x y) ys b (rest_placed n zs y x ys a e)
behind_settled false n zs y x ys a e = behind_placed n zs y x ys a e

second_moves_by : (over : Bool) (n : ℕ) (s : State) (y : Session) (ys : List Session) → AreApart (hosts s) → drop n s.sessions ≡ y ∷ ys → drop (next_place (over || is_gone (later y s)) n) (second_by over y s).state.sessions ≡ ys
second_moves_by true n s y ys a e = behind_closed n s.sessions y ys a e
second_moves_by false n s y ys a e =
    let x : Standing = later y s in
    let v : Vars = (settled x.vars).vars in
    ap (drop (next_place (is_gone x) n)) (settled_by v.aaa_eap_resp v.aaa_abort v.gone y.host (rested Another x v) (age_request (aged (pending_of y.host.number s.waits)) y.host s)) ∙ behind_settled (is_gone x) n s.sessions y (rested Another x v) ys a e

second_moves : (n : ℕ) (s : State) (y : Session) (ys : List Session) → AreApart (hosts s) → drop n s.sessions ≡ y ∷ ys → drop (next_place (is_over y s) n) (second_of y s).state.sessions ≡ ys
second_moves n s y ys a e = second_moves_by (y.standing.end_while == 1) n s y ys a e

beside_second_by : (over : Bool) (y : Session) (s : State) → Beside (over || is_gone (later y s)) y.host.port s (second_by over y s).state
beside_second_by true y s = beside_close y.host s
beside_second_by false y s =
    let k = beside_settle Another y.host (later y s) (age_request (aged (pending_of y.host.number s.waits)) y.host s) in
    record { config = k.config; clock = k.clock; ports = k.ports; kept = k.kept }

pub beside_second : (y : Session) (s : State) → Beside (is_over y s) y.host.port s (second_of y s).state
beside_second y s = beside_second_by (y.standing.end_while == 1) y s

near_second_by : (over : Bool) (y : Session) (s : State) → HasVlan y → Speaks y.host s s → Near y.host s (second_by over y s).state
near_second_by true y s v k = record { aside = aside_close y.host s; moved = moved_close y.host s; speaks = record { here = k.here; restricted = k.restricted; vlans = vlans_close y.host s k.vlans } }
near_second_by false y s v k =
    let x : Standing = later y s in
    let u : State = age_request (aged (pending_of y.host.number s.waits)) y.host s in
    record {
      aside = aside_then {t = u} (record { ports = refl; confs = refl; others = λ port address e. refl }) (aside_settle Another y.host x u);
      moved = then_moved {t = u} (record { by = stays }) (moved_settle Another y.host x u);
      speaks = record { here = k.here; restricted = k.restricted; vlans = vlans_settle Another y.host x u v k.vlans };
    }

pub near_second : (y : Session) (s : State) → HasVlan y → Speaks y.host s s → Near y.host s (second_of y s).state
near_second y s v k = near_second_by (y.standing.end_while == 1) y s v k

-- ---- a second, session by session

-- so many sessions of a start, those behind a place, are still to have their second
pub record Seconds (start : State) (n left : ℕ) (t : State) (said : List Sent) : Type 0 where
  pub rest : List Session
  pub behind : drop n t.sessions ≡ rest
  pub count : length rest ≡ left
  pub state : (each_second rest t).state ≡ (each_second start.sessions start).state
  pub sent : said ++ (each_second rest t).sent ≡ (each_second start.sessions start).sent
  pub between : IsBetween t
  pub vlans : AreVlans t.sessions
  pub config : t.config ≡ start.config
  pub confs : confs t.ports ≡ confs start.ports

pub seconds_begin : (s : State) → IsBetween s → AreVlans s.sessions → Seconds s 0 (length s.sessions) s []
seconds_begin s b v = record {
  rest = s.sessions;
  behind = refl;
  count = refl;
  state = refl;
  sent = refl;
  between = b;
  vlans = v;
  config = refl;
  confs = refl;
}

pub seconds_end : (start : State) (n : ℕ) (t : State) (said : List Sent) → Seconds start n 0 t said → (t ≡ (each_second start.sessions start).state) × (said ≡ (each_second start.sessions start).sent)
seconds_end start n t said w = by w.rest w.count w.state w.sent
  where
    by : (ys : List Session) → length ys ≡ 0 → (each_second ys t).state ≡ (each_second start.sessions start).state → said ++ (each_second ys t).sent ≡ (each_second start.sessions start).sent →
        (t ≡ (each_second start.sessions start).state) × (said ≡ (each_second start.sessions start).sent)
    by [] l e k = (e, sym (append-nil said) ∙ k)
    by (y ∷ ys) l e k = absurd (omega (arith, l))

got_rest : (n : ℕ) (zs : List Session) (y : Session) (ys : List Session) → drop n zs ≡ y ∷ ys → slice_get zs n ≡ Some y
got_rest zero zs y ys e = ap (λ (ws : List Session). slice_get ws 0) e
got_rest (suc n) [] y ys e = cc
got_rest (suc n) (z ∷ zs) y ys e = got_rest n zs y ys e

-- one session more has its second
pub record SecondGoes (start : State) (n left : ℕ) (t : State) (said : List Sent) : Type 0 where
  pub session : Session
  pub next : Next session n t
  pub vlan : HasVlan session
  pub after : Seconds start (next_place (is_over session t) n) left (second_of session t).state (said ++ (second_of session t).sent)

pub seconds_step : (start : State) (n left : ℕ) (t : State) (said : List Sent) → Seconds start n (suc left) t said → SecondGoes start n left t said
seconds_step start n left t said w = by w.rest w.behind w.count w.state w.sent
  where
    by : (ys : List Session) → drop n t.sessions ≡ ys → length ys ≡ suc left → (each_second ys t).state ≡ (each_second start.sessions start).state → said ++ (each_second ys t).sent ≡ (each_second start.sessions start).sent →
        SecondGoes start n left t said
    by [] b l e k = absurd (omega (arith, l))
    by (y ∷ ys) b l e k =
        let i : In y t.sessions = in_drop n t.sessions y ys b in
        let may = seconds_may_settle y t w.between i in
        let v : HasVlan y = of_each HasVlan w.vlans i in
        let m = kept_second y t in
        record {
          session = y;
          next = record { at = got_rest n t.sessions y ys b; there = i };
          vlan = v;
          after = record {
            rest = ys;
            behind = second_moves n t y ys w.between.hosts.apart b;
            count = omega (arith, l);
            state = e;
            sent = append_assoc said (second_of y t).sent (each_second ys (second_of y t).state).sent ∙ k;
            between = may.0;
            vlans = vlans_second y t v w.vlans;
            config = m.config ∙ w.config;
            confs = m.confs ∙ w.confs;
          };
        }

-- ---- a port closes, session by session

abbrev pub on_behind : ℕ → ℕ → State → List Session
on_behind port n t = filter (on_port port) (drop n t.sessions)

behind_more : (n : ℕ) (zs : List Session) (y : Session) (ys : List Session) → drop n zs ≡ y ∷ ys → drop (suc n) zs ≡ ys
behind_more zero zs y ys e = ap (λ (ws : List Session). drop 1 ws) e
behind_more (suc n) [] y ys e = cc
behind_more (suc n) (z ∷ zs) y ys e = behind_more n zs y ys e

-- so many sessions of a start, those behind a place, are still to be looked at
pub record Closings (start : State) (port n left : ℕ) (t : State) : Type 0 where
  pub rest : List Session
  pub behind : drop n t.sessions ≡ rest
  pub count : length rest ≡ left
  pub state : close_all (filter (on_port port) rest) t ≡ close_all (filter (on_port port) start.sessions) start
  pub hosts : AreHosts (hosts t) t.next
  pub vlans : AreVlans t.sessions
  pub config : t.config ≡ start.config
  pub confs : confs t.ports ≡ confs start.ports
  pub there : (z : Session) → In z t.sessions → In z start.sessions

pub closings_begin : (s : State) (port : ℕ) → AreHosts (hosts s) s.next → AreVlans s.sessions → Closings s port 0 (length s.sessions) s
closings_begin s port a v = record { rest = s.sessions; behind = refl; count = refl; state = refl; hosts = a; vlans = v; config = refl; confs = refl; there = λ z i. i }

pub closings_end : (start : State) (port n : ℕ) (t : State) → Closings start port n 0 t → t ≡ close_all (filter (on_port port) start.sessions) start
closings_end start port n t w = by w.rest w.count w.state
  where
    by : (ys : List Session) → length ys ≡ 0 → close_all (filter (on_port port) ys) t ≡ close_all (filter (on_port port) start.sessions) start → t ≡ close_all (filter (on_port port) start.sessions) start
    by [] l e = e
    by (y ∷ ys) l e = absurd (omega (arith, l))

pub record ClosingGoes (start : State) (port n left : ℕ) (t : State) : Type 0 where
  pub session : Session
  pub next : Next session n t
  pub after : Closings start port (next_place (on_port port session) n) left (after_closing (on_port port session) session t)

pub closings_step : (start : State) (port n left : ℕ) (t : State) → Closings start port n (suc left) t → ClosingGoes start port n left t
closings_step start port n left t w = by w.rest w.behind w.count w.state
  where
    go : (b : Bool) (y : Session) (ys : List Session) → drop n t.sessions ≡ y ∷ ys → In y t.sessions → length ys ≡ left → close_all (cond b (y ∷ filter (on_port port) ys) (filter (on_port port) ys)) t ≡ close_all (filter (on_port port) start.sessions) start →
        Closings start port (next_place b n) left (after_closing b y t)
    go true y ys b i l e = record {
      rest = ys;
      behind = behind_closed n t.sessions y ys w.hosts.apart b;
      count = l;
      state = e;
      hosts = moved_to (moved_close y.host t) w.hosts;
      vlans = vlans_close y.host t w.vlans;
      config = (kept_close y.host t).config ∙ w.config;
      confs = (kept_close y.host t).confs ∙ w.confs;
      there = λ z j. w.there z (in_kept (is_other y.host) t.sessions j).0;
    }
    go false y ys b i l e = record {
      rest = ys;
      behind = behind_more n t.sessions y ys b;
      count = l;
      state = e;
      hosts = w.hosts;
      vlans = w.vlans;
      config = w.config;
      confs = w.confs;
      there = w.there;
    }

    by : (ys : List Session) → drop n t.sessions ≡ ys → length ys ≡ suc left → close_all (filter (on_port port) ys) t ≡ close_all (filter (on_port port) start.sessions) start → ClosingGoes start port n left t
    by [] b l e = absurd (omega (arith, l))
    by (y ∷ ys) b l e =
        let i : In y t.sessions = in_drop n t.sessions y ys b in
        record { session = y; next = record { at = got_rest n t.sessions y ys b; there = i }; after = go (on_port port y) y ys b i (omega (arith, l)) e }

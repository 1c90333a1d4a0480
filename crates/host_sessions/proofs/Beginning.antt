-- A session that opens: its entry comes last, as its session does.
use Rattle.std.proofs.Common.{◌≡◌, ℕ, ◌+◌, ◌∙◌, refl, sym, ap, subst, List, [], ◌∷◌, ◌++◌, map, filter, length, Option, Some, None, Bool, true, false, cond}
use Rattle.std.specs.Prelude.{find}
use Rattle.std.specs.Option.{option_map}
use Rattle.machine_vars.specs.declared.control.Times.{Times}
use Rattle.machine_vars.specs.declared.wants.Wants.{Wants}
use Rattle.settle_defs.specs.Settle.{settled}
use Rattle.settle_defs.proofs.SettleLaws.{keeps_its_peer}
use Rattle.switch_event.specs.Config.{Config}
use Rattle.out_tray.specs.Tray.{Things}
use Rattle.session_table.specs.Slots.{Entry, IsTable, count_on, held_at, is_for, is_on, place_for}
use Rattle.session_table.proofs.Tables.{each_at_place}
use Rattle.switch_defs.specs.Switch as switch
use Rattle.switch_defs.specs.Switch.{Host, Port, Standing, State, is_at, on_port, own_address, session_at}
use Rattle.switch_defs.specs.Session.{Another, place, rested, stands_as}
use Rattle.switch_defs.specs.Turn.{fresh_standing, is_full, on_port_of, opened, with_session}
use Rattle.switch_defs.specs.Sound.{In}
use Rattle.switch_defs.proofs.Lists.{in_last, key_same, of_each}
use Rattle.host_session.specs.declared.session.Session.{Session}
use Rattle.host_session.specs.Settles.{Settles, beginning}
use Rattle.host_sessions.specs.declared.sessions.Sessions.{Sessions}
use Rattle.host_sessions.specs.Holds.{AreOf, Holds, IsOf}
use Rattle.host_sessions.specs.Does.{IsPortOf, MayOpen}
use Rattle.host_sessions.specs.Follows.{MayFollow}
use Rattle.host_sessions.proofs.Pairs.{Both, as_many, both_found, both_kept, for_agree, on_agree, one_more}
use Rattle.host_sessions.proofs.Turning.{to_ask}

-- ---- there is room, and nothing of the host

none_of : (t : Times) (es : List (Entry Session)) (ys : List switch.Session) (o : Option (Entry Session))
    (p : Option switch.Session) → Both t es ys o p → p ≡ None → o ≡ None
none_of t es ys None p b e = refl
none_of t es ys (Some f) None b e = absurd b
none_of t es ys (Some f) (Some y) b e = cc

pub none_for : (k : Sessions) (s : State) (n : ℕ) (address : List ℕ) → Holds k s →
    session_at n address s ≡ None → place_for n address k.slots ≡ None
none_for k s n address holds none =
    let t = s.config.times in
    ap (option_map (λ (e : Entry Session). e.place))
    (none_of t k.slots s.sessions (find (is_for n address) k.slots) (session_at n address s)
    (both_found t (is_for n address) (λ y. is_at n address y.host) (for_agree t n address) k.slots s.sessions holds.sessions)
    none)

pub is_room : (k : Sessions) (s : State) (n : ℕ) → Holds k s → is_full n s ≡ false →
    count_on n k.slots ≡ 16 → ⊥
is_room k s n holds room full =
    let t = s.config.times in
    let same : length (on_port_of n s) ≡ 16 =
    sym (as_many t (filter (is_on n) k.slots) (filter (on_port n) s.sessions)
    (both_kept t (is_on n) (on_port n) (on_agree t n) k.slots s.sessions holds.sessions)) ∙ full in
    never (rw same at room)
  where
    never : true ≡ false → ⊥
    never e = cc

-- ---- the last of all

pub last_placed : (h : Host) (x z : Standing) (ys : List switch.Session) →
    find (λ y. is_at h.port h.address y.host) ys ≡ None →
    map (stands_as h z) (ys ++ record { host = h; standing = x } ∷ [])
    ≡ ys ++ record { host = h; standing = z } ∷ []
last_placed h x z [] none = rw (key_same h.port h.address) refl
last_placed h x z (y ∷ ys) none =
    by (is_at h.port h.address y.host) refl none (last_placed h x z ys)
  where
    by : (b : Bool) → is_at h.port h.address y.host ≡ b →
        cond b (Some y) (find (λ y. is_at h.port h.address y.host) ys) ≡ None →
        (find (λ y. is_at h.port h.address y.host) ys ≡ None →
        map (stands_as h z) (ys ++ record { host = h; standing = x } ∷ [])
        ≡ ys ++ record { host = h; standing = z } ∷ []) →
        stands_as h z y ∷ map (stands_as h z) (ys ++ record { host = h; standing = x } ∷ [])
        ≡ y ∷ (ys ++ record { host = h; standing = z } ∷ [])
    by true e found rest = cc
    by false e found rest = rw e (ap (λ (zs : List switch.Session). y ∷ zs) (rest found))

-- the session begins as the definitions say
pub begins_as : (s : State) (q : Port) (port : ℕ) (own from : List ℕ) (native : ℕ) (times : Times) →
    IsPortOf s q port own native → s.config.times ≡ times →
    beginning port own from native times ≡ fresh_standing s q from
begins_as s q port own from native times p e =
    let at : own_address s q.conf.port ≡ own = ap (own_address s) p.number ∙ p.own in
    rw (sym e, sym p.number, sym at, sym p.native) refl

pub opened_may : (c : Config) (k : Sessions) (s : State) (q : Port) (at port : ℕ) (from : List ℕ)
    (w : Session) (wants : Wants) (before after : Things) (es : List (Entry Session)) → Holds k s →
    s.config ≡ c → q.conf.port ≡ port → MayOpen q from s → w.number ≡ k.next →
    Settles Another (fresh_standing s q from) w wants before after →
    es ≡ k.slots ++ record { place = at; port = port; address = from; value = w } ∷ [] → IsTable es →
    let h = opened s q from in
    let x = fresh_standing s q from in
    let x' = rested Another x (settled x.vars).vars in
    MayFollow c (record k { slots = es; next = k.next + 1 }) at wants
    (record { host = h; standing = x' }) (place h x' (with_session h x s))
opened_may c k s q at port from w wants before after es holds config number may given settles slots table =
    let h : Host = opened s q from in
    let x : Standing = fresh_standing s q from in
    let x' : Standing = rested Another x (settled x.vars).vars in
    let t = s.config.times in
    let e : Entry Session = record { place = at; port = port; address = from; value = w } in
    let y : switch.Session = record { host = h; standing = x' } in
    let keeps = keeps_its_peer x.vars may.ask.settle.ready in
    let is : IsOf t e y = record { number = given ∙ holds.next; port = sym number; address = refl; sits = settles.sits; timed = keeps.times } in
    let last = last_placed h x x' s.sessions may.new in
    let P : List switch.Session → Type 0 = λ ys. AreOf t es ys in
    let Q : List (Entry Session) → Type 0 = λ fs. AreOf t fs (s.sessions ++ y ∷ []) in
    let R : List switch.Session → Type 0 = λ ys. In y ys in
    let S : List (Entry Session) → Type 0 = λ fs. In e fs in
    record {
      has = record {
        holds = record {
          table = table;
          sessions = subst P (sym last) (subst Q (sym slots) (one_more t k.slots s.sessions e y holds.sessions is));
          waits = holds.waits;
          asked = holds.asked;
          next = ap (λ (n : ℕ). n + 1) holds.next;
        };
        config = config;
        here = record {
          entry = e;
          here = of_each (λ (f : Entry Session). held_at f.place es ≡ Some f) (each_at_place es table) (subst S (sym slots) (in_last k.slots e));
          there = subst R (sym last) (in_last s.sessions y);
          is = is;
        };
      };
      asks = λ a. to_ask Another h x (with_session h x s) wants may.ask settles.wants a;
    }

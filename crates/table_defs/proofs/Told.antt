-- Each event has items that tell what it changed.
use Rattle.std.proofs.Common.{◌≡◌, ℕ, suc, ◌+◌, ◌-◌, ◌≤◌, length, refl, sym, ap, subst, not, ◌∙◌, List, [], ◌∷◌, ◌++◌, map, Option, None, Some, Bool, true, false, arith, cond}
use Rattle.std.specs.Prelude.{if◌then◌else◌, find, ◌==◌, ◌&&◌, ◌||◌, nat_eq, nat_le}
use Rattle.std.specs.List.{AllByRecursion, IsDistinct, list_all}
use Rattle.std.specs.Cmp.{unsigned_Decides}
use Rattle.std.proofs.lemmas.Bool.Decides.{nat_tests}
use Rattle.std.proofs.lemmas.List.{length-append}
use Rattle.switch_event.specs.Config.{has_valid_vlans, within}
use Rattle.machine_vars.specs.declared.control.Control.{Control}
use Rattle.machine_defs.specs.BackendTable.{is_auto}
use Rattle.machine_defs.specs.PaeTable.{same_control}
use Rattle.machine_defs.specs.Live as live
use Rattle.settle_defs.specs.Settle.{Rest, settled}
use Rattle.radius_defs.specs.Packet.{Packet}
use Rattle.radius_defs.specs.Parsed.{packet_of}
use Rattle.radius_defs.specs.declared.Timeout.{Timeout}
use Rattle.aaa_defs.specs.declared.Aged.{Aged}
use Rattle.aaa_defs.specs.Waits.{pending_of}
use Rattle.aaa_defs.specs.Age.{aged}
use Rattle.switch_event.specs.declared.config.PortConf.{PortConf}
use Rattle.wire_core.specs.declared.address.Addr.{Addr}
use Rattle.switch_event.specs.Event as event
use Rattle.dynauth_defs.specs.declared.Action.{Action}
use Rattle.dynauth_defs.specs.declared.Action.TheVariants.{Disconnect, Change}
use Rattle.dynauth_defs.specs.Judge.{Judged, Drop, Again, Nak, Ack}
use Rattle.switch_defs.specs.Switch.{Port, is_vlan, on_port, Host, Standing, Session, State, hosts, session_at, session_numbered, port_of, is_port, is_at, same_key}
use Rattle.switch_defs.specs.Session.{Cause, AnAnswer, Another, stands_as, place, close, no_guests, unguested, forget, rested, forget_if, ask_if, close_if, follow, settle_session}
use Rattle.switch_defs.specs.Answer.{Answered, Refused, Told as Taken, stands, answered_on}
use Rattle.switch_defs.specs.Dynamic.{act, disconnected, changed, times_or, vlan_or, reply_to, judged_on}
use Rattle.switch_defs.specs.Turn.{FrameCase, Dropped, Forces, Opens, Turns, frame_case, do_frame, opened, fresh_standing, with_session, set_vars, cause_of, do_answer, do_request, age_request, is_given_up, second_by, second_of, each_second, guest_second, guests_second, tick, close_all, close_port, on_port_of, up_by, link_by, do_link, up_if, control_by, do_control, with_link, set_link, with_control, set_control, turn}
use Rattle.switch_defs.specs.Decide.{Right, PortView, view, restricted_of, right_of, authorised}
use Rattle.switch_defs.specs.Sound.{In, here, there, AreFew, Fits, confs, IsSound, IsOpenPort, HasVlan, MayHaveGuests}
use Rattle.switch_defs.proofs.Lists.{both, in_found, in_map, each_in, each_filter, each_push, first_kept, first_same, first_pushed, key_apart, key_equal, fewer, of_each, of_both}
use Rattle.switch_defs.proofs.Frames.{fits_frame}
use Rattle.switch_defs.proofs.Keeping.{confs_map, mild_second}
use Rattle.switch_defs.proofs.Answers.{IsFit, answer_fits}
use Rattle.switch_defs.proofs.Judging.{Acks}
use Rattle.switch_defs.proofs.Valid.{valid_confs}
use Rattle.switch_defs.proofs.Fitting.{vlans_placed, vlans_close, vlans_settle, vlans_second, native_vlan, SaysVlan, answer_vlan, request_vlan, changed_vlan}
use Rattle.switch_defs.specs.Fitting.{AreVlans, MayName, NamesVlan}
use Rattle.switch_defs.proofs.Moving.{unmoved, then_moved, moved_to, moved_place, moved_close, moved_settle, moved_open}
use Rattle.switch_defs.specs.Moving.{Moved}
use Rattle.switch_defs.specs.Moving.{stays}
use Rattle.switch_defs.proofs.Soundness.{distinct_of}
use Rattle.table_defs.specs.Table.{Item, Link, SetControl, Guest, Let, Bar, is_view, view_link, view_control, view_guest, view_absorbed, views_after, conf_of, allowed_by, IsAllowed, said, all_said, Leads, Rights, AreRoomy, StayRoomy, Tells, IsTold}
use Rattle.table_defs.specs.Told.{AreConfigured, AreRestricted, Aside, Closes, HasConf, Speaks, ToldBy, item_by, opened_guests, opens}

-- ---- what a host is authorised for

abbrev conf_restricted : Option PortConf → ℕ
conf_restricted None = 0
conf_restricted (Some c) = c.restricted

restricted_conf : (n : ℕ) (ps : List Port) → restricted_of (find (is_port n) ps) ≡ conf_restricted (find (λ c. c.port == n) (confs ps))
restricted_conf n [] = refl
restricted_conf n (p ∷ ps) =
    elim (p.conf.port == n) as (λ b. restricted_of (cond b (Some p) (find (is_port n) ps)) ≡ conf_restricted (cond b (Some p.conf) (find (λ c. c.port == n) (confs ps)))) [
      | true ↦ refl
      | false ↦ restricted_conf n ps
    ]

restricted_same : (n : ℕ) (ps qs : List Port) → confs qs ≡ confs ps → restricted_of (find (is_port n) qs) ≡ restricted_of (find (is_port n) ps)
restricted_same n ps qs e = restricted_conf n qs ∙ ap (λ (cs : List PortConf). conf_restricted (find (λ c. c.port == n) cs)) e ∙ sym (restricted_conf n ps)

right_same : (s t : State) (port : ℕ) (address : List ℕ) → confs t.ports ≡ confs s.ports → session_at port address t ≡ session_at port address s → authorised t port address ≡ authorised s port address
right_same s t port address e f = λ i. right_of (restricted_same port s.ports t.ports e i) (f i)

-- ---- room

-- a host that is found among sessions is found among hosts
found_by : (f : Host → Bool) (y : Session) (ys : List Session) (b : Bool) → (find f (map (λ y. y.host) ys) ≡ None → find (λ y. f y.host) ys ≡ None) → cond b (Some y.host) (find f (map (λ y. y.host) ys)) ≡ None →
    cond b (Some y) (find (λ y. f y.host) ys) ≡ None
found_by f y ys true k g = cc
found_by f y ys false k g = k g

found_session : (f : Host → Bool) (ys : List Session) → find f (map (λ y. y.host) ys) ≡ None → find (λ y. f y.host) ys ≡ None
found_session f [] e = refl
found_session f (y ∷ ys) e = found_by f y ys (f y.host) (found_session f ys) e

no_right : (r : Right) → None ≡ Some r → ⊥
no_right r e = cc

state_roomy : (s : State) → AreFew (hosts s) → AreRoomy (authorised s)
state_roomy s few = (hosts s, few, λ port address r e n. no_right r (sym (ap (right_of (restricted_of (port_of port s))) (found_session (is_at port address) s.sessions n)) ∙ e))

roomy_same : (f g : Rights) → ((port : ℕ) (address : List ℕ) → f port address ≡ g port address) → AreRoomy g → AreRoomy f
roomy_same f g e r = (r.0, r.1, λ port address right h n. r.2 port address right (sym (e port address) ∙ h) n)

stay_same : (is : List Item) (f g : Rights) → ((port : ℕ) (address : List ℕ) → f port address ≡ g port address) → StayRoomy g is → StayRoomy f is
stay_same [] f g e r = tt
stay_same (i ∷ is) f g e r =
    let same : (port : ℕ) (address : List ℕ) → said port address i (f port address) ≡ said port address i (g port address) = λ port address. ap (said port address i) (e port address) in
    (roomy_same _ _ same r.0, stay_same is _ _ same r.1)

stay_append : (is js : List Item) (f g : Rights) → ((port : ℕ) (address : List ℕ) → all_said port address is (f port address) ≡ g port address) → StayRoomy f is → StayRoomy g js → StayRoomy f (is ++ js)
stay_append [] js f g e r q = stay_same js f g e q
stay_append (i ∷ is) js f g e r q = (r.0, stay_append is js _ g e r.1 q)

-- ---- items that tell of what changed

-- at most n items do
pub record Told (n : ℕ) (s t : State) : Type 0 where
  pub items : List Item
  pub few : length items ≤ n
  pub by : ToldBy items s t

views_append : (is js : List Item) (ps : List PortView) → views_after ps (is ++ js) ≡ views_after (views_after ps is) js
views_append [] js ps = refl
views_append (i ∷ is) js ps = views_append is js (view_absorbed ps i)

said_append : (is js : List Item) (port : ℕ) (address : List ℕ) (o : Option Right) → all_said port address (is ++ js) o ≡ all_said port address js (all_said port address is o)
said_append [] js port address o = refl
said_append (i ∷ is) js port address o = said_append is js port address (said port address i o)

leads_then : (s t u : State) (is js : List Item) → Leads s is t → Leads t js u → Leads s (is ++ js) u
leads_then s t u is js a b = record {
  ports = views_append is js (map view s.ports) ∙ ap (λ (vs : List PortView). views_after vs js) a.ports ∙ b.ports;
  rights = λ port address. said_append is js port address (authorised s port address) ∙ ap (all_said port address js) (a.rights port address) ∙ b.rights port address;
}

each_append : {A : Type 0} (P : A → Type 0) (xs ys : List A) → AllByRecursion P xs → AllByRecursion P ys → AllByRecursion P (xs ++ ys)
each_append P [] ys a b = b
each_append P (x ∷ xs) ys a b = (a.0, each_append P xs ys a.1 b)

pub by_then : {is js : List Item} {s t u : State} → ToldBy is s t → ToldBy js t u → ToldBy (is ++ js) s u
by_then {is = is} {js = js} {s = s} {t = t} {u = u} a b = record {
  leads = leads_then s t u is js a.leads b.leads;
  moved = then_moved a.moved b.moved;
  settings = b.settings ∙ a.settings;
  allowed = each_append (IsAllowed (confs s.ports)) is js a.allowed (subst (λ (cs : List PortConf). AllByRecursion (IsAllowed cs) js) a.settings b.allowed);
  room = λ h. stay_append is js (authorised s) (authorised t) a.leads.rights (a.room h) (b.room (moved_to a.moved h));
}

pub told_then : {n m : ℕ} (s t u : State) → Told n s t → Told m t u → Told (n + m) s u
told_then s t u a b = record {
  items = a.items ++ b.items;
  few = simp length-append (omega (arith, a.few, b.few));
  by = by_then a.by b.by;
}

pub told_weaker : {n m : ℕ} {s t : State} → n ≤ m → Told n s t → Told m s t
told_weaker le a = record { items = a.items; few = omega (arith, a.few, le); by = a.by }

-- what no table has
pub by_none : (s t : State) → map view s.ports ≡ map view t.ports → confs t.ports ≡ confs s.ports → s.sessions ≡ t.sessions → Moved s t → ToldBy [] s t
by_none s t e c f m = record {
  leads = record { ports = e; rights = λ port address. sym (right_same s t port address c (ap (λ (ys : List Session). find (λ y. is_at port address y.host) ys) (sym f))) };
  moved = m;
  settings = c;
  allowed = tt;
  room = λ h. tt;
}

pub told_none : (s t : State) → map view s.ports ≡ map view t.ports → confs t.ports ≡ confs s.ports → s.sessions ≡ t.sessions → Moved s t → Told 0 s t
told_none s t e c f m = record { items = []; few = omega arith; by = by_none s t e c f m }

-- ---- one host

pub aside_none : {h : Host} {s : State} → Aside h s s
aside_none = record { ports = refl; confs = refl; others = λ port address e. refl }

pub aside_then : {h : Host} {s t u : State} → Aside h s t → Aside h t u → Aside h s u
aside_then a b = record { ports = a.ports ∙ b.ports; confs = b.confs ∙ a.confs; others = λ port address e. b.others port address e ∙ a.others port address e }

unplaced : (b : Bool) (x : Standing) (y : Session) → b ≡ false → record y { standing = if b then x else y.standing } ≡ y
unplaced true x y e = cc
unplaced false x y e = refl

pub aside_place : (h : Host) (x : Standing) (s : State) → Aside h s (place h x s)
aside_place h x s = record {
  ports = refl;
  confs = refl;
  others = λ port address e. first_same (λ y. is_at port address y.host) (stands_as h x) s.sessions (λ y. refl)
      (λ y k. unplaced (is_at h.port h.address y.host) x y (key_apart port address h.port h.address y.host.port y.host.address e k));
}

views_map : (f : Port → Port) → ((p : Port) → view (f p) ≡ view p) → (ps : List Port) → map view ps ≡ map view (map f ps)
views_map f e [] = refl
views_map f e (p ∷ ps) = λ i. sym (e p) i ∷ views_map f e ps i

pub aside_close : (h : Host) (s : State) → Aside h s (close h s)
aside_close h s = record {
  ports = views_map _ (λ p. refl) s.ports;
  confs = confs_map _ (λ p. refl) s.ports;
  others = λ port address e. first_kept (λ y. is_at port address y.host) (λ y. is_at h.port h.address y.host) s.sessions
      (λ y k. key_apart port address h.port h.address y.host.port y.host.address e k);
}

aside_forget_if : (b : Bool) (h : Host) (s : State) → Aside h s (forget_if b h s)
aside_forget_if true h s = record { ports = refl; confs = refl; others = λ port address e. refl }
aside_forget_if false h s = aside_none

aside_ask_if : (b : Bool) (h : Host) (x : Standing) (s : State) → Aside h s (ask_if b h x s).state
aside_ask_if true h x s = record { ports = refl; confs = refl; others = λ port address e. refl }
aside_ask_if false h x s = aside_none

aside_close_if : (b : Bool) (h : Host) (s : State) → Aside h s (close_if b h s)
aside_close_if true h s = aside_close h s
aside_close_if false h s = aside_none

aside_follow : (why : Cause) (h : Host) (x : Standing) (r : Rest) (s : State) → Aside h s (follow why h x r s).state
aside_follow why h x r s =
    let x' = rested why x r.vars in
    let t = forget_if r.vars.aaa_abort h (place h x' s) in
    aside_then (aside_place h x' s) (aside_then (aside_forget_if r.vars.aaa_abort h (place h x' s)) (aside_then (aside_ask_if r.vars.aaa_eap_resp h x' t) (aside_close_if r.vars.gone h (ask_if r.vars.aaa_eap_resp h x' t).state)))

pub aside_settle : (why : Cause) (h : Host) (x : Standing) (s : State) → Aside h s (settle_session why h x s).state
aside_settle why h x s = aside_follow why h x (settled x.vars) s

abbrev pub item_for : Host → State → Item
item_for h s = item_by h (authorised s h.port h.address)

said_of_others : (h : Host) (o : Option Right) (port : ℕ) (address : List ℕ) (p : Option Right) → same_key h.port h.address port address ≡ false → said port address (item_by h o) p ≡ p
said_of_others h None port address p e = rw e refl
said_of_others h (Some r) port address p e = rw e refl

said_of_it : (h : Host) (o : Option Right) (port : ℕ) (address : List ℕ) (p : Option Right) → same_key h.port h.address port address ≡ true → said port address (item_by h o) p ≡ o
said_of_it h None port address p e = rw e refl
said_of_it h (Some r) port address p e = rw e refl

item_views : (h : Host) (o : Option Right) (ps : List PortView) → view_absorbed ps (item_by h o) ≡ ps
item_views h None ps = refl
item_views h (Some r) ps = refl

aside_leads : {h : Host} (s t : State) → Aside h s t → Leads s (item_for h t ∷ []) t
aside_leads {h = h} s t a = record {
  ports = item_views h (authorised t h.port h.address) (map view s.ports) ∙ a.ports;
  rights = λ port address. elim (same_key h.port h.address port address) as (λ b. same_key h.port h.address port address ≡ b → said port address (item_for h t) (authorised s port address) ≡ authorised t port address) [
    | true ↦ λ e.
        let k = key_equal h.port h.address port address e in
        said_of_it h (authorised t h.port h.address) port address (authorised s port address) e ∙ (λ i. authorised t (k.0 i) (k.1 i))
    | false ↦ λ e. said_of_others h (authorised t h.port h.address) port address (authorised s port address) e ∙ sym (right_same s t port address a.confs (a.others port address e))
  ] refl;
}

-- ---- items that the settings allow

conf_found : (n : ℕ) (ps : List Port) (q : Port) → find (is_port n) ps ≡ Some q → conf_of n (confs ps) ≡ Some q.conf
conf_found n [] q e = cc
conf_found n (p ∷ ps) q e = by (is_port n p) e (conf_found n ps q)
  where
    by : (b : Bool) → cond b (Some p) (find (is_port n) ps) ≡ Some q → (find (is_port n) ps ≡ Some q → conf_of n (confs ps) ≡ Some q.conf) → cond b (Some p.conf) (conf_of n (confs ps)) ≡ Some q.conf
    by true k rest = (let same : p ≡ q = cc in ap (λ (r : Port). Some r.conf) same)
    by false k rest = rest k

pub has_conf : (s : State) (n : ℕ) (q : Port) → port_of n s ≡ Some q → HasConf (confs s.ports) n
has_conf s n q e = (q.conf, conf_found n s.ports q e)

-- the port of a number has that number
pub conf_at : (s : State) (n : ℕ) (q : Port) → port_of n s ≡ Some q → HasConf (confs s.ports) q.conf.port
conf_at s n q e =
    let same : q.conf.port ≡ n = (unsigned_Decides q.conf.port n).0 (in_found (is_port n) s.ports q e).1 in
    subst (λ (m : ℕ). HasConf (confs s.ports) m) (sym same) (has_conf s n q e)

open_conf : (s : State) (n : ℕ) (o : Option Port) → port_of n s ≡ o → IsOpenPort o → HasConf (confs s.ports) n
open_conf s n None e p = absurd p
open_conf s n (Some q) e p = has_conf s n q e

-- so it is of each session's port
pub session_conf : {turns : ℕ} (s : State) (y : Session) → IsSound turns s → In y s.sessions → HasConf (confs s.ports) y.host.port
session_conf s y a i = open_conf s y.host.port (port_of y.host.port s) refl (of_each (λ h. IsOpenPort (port_of h.port s)) a.placed (in_map (λ (y : Session). y.host) i))

restricted_small : (o : Option PortConf) (ps : List PortConf) (n : ℕ) → conf_of n ps ≡ o → AreRestricted ps → conf_restricted o ≤ 4094
restricted_small None ps n e a = omega arith
restricted_small (Some c) ps n e a = of_each (λ c. c.restricted ≤ 4094) a (in_found (λ c. c.port == n) ps c e).0

no_vlan_of_none : (r : Right) → None ≡ Some r → is_vlan r.vlan ≡ true
no_vlan_of_none r e = cc

right_vlan_by : (a b : Bool) (number vlan w : ℕ) (r : Right) → is_vlan vlan ≡ true → w ≤ 4094 →
    (if a then Some (record { session = number; vlan = vlan }) else if b && not (w == 0) then Some (record { session = number; vlan = w }) else None) ≡ Some r → is_vlan r.vlan ≡ true
right_vlan_by true b number vlan w r v l e = (let same : vlan ≡ r.vlan = cc in subst (λ (n : ℕ). is_vlan n ≡ true) same v)
right_vlan_by false false number vlan w r v l e = cc
right_vlan_by false true number vlan w r v l e = by (w == 0) refl e
  where
    within_range : (w : ℕ) → (w == 0) ≡ false → w ≤ 4094 → is_vlan w ≡ true
    within_range w k l = grind (arith, nat_tests)

    by : (b : Bool) → (w == 0) ≡ b → (if not b then Some (record { session = number; vlan = w }) else None) ≡ Some r → is_vlan r.vlan ≡ true
    by true k f = cc
    by false k f = (let same : w ≡ r.vlan = cc in subst (λ (n : ℕ). is_vlan n ≡ true) same (within_range w k l))

right_of_vlan : (o : Option Session) (w : ℕ) (r : Right) → ((y : Session) → o ≡ Some y → HasVlan y) → w ≤ 4094 → right_of w o ≡ Some r → is_vlan r.vlan ≡ true
right_of_vlan None w r v l e = no_vlan_of_none r e
right_of_vlan (Some y) w r v l e = right_vlan_by y.standing.vars.auth_port_status y.standing.restricted y.host.number y.standing.vlan w r (v y refl) l e

-- whoever is authorised has a VLAN
pub rights_vlan : (s : State) (port : ℕ) (address : List ℕ) (r : Right) → AreVlans s.sessions → AreRestricted (confs s.ports) → authorised s port address ≡ Some r → is_vlan r.vlan ≡ true
rights_vlan s port address r v c e =
    right_of_vlan (session_at port address s) (restricted_of (port_of port s)) r (λ y k. of_each HasVlan v (in_found (λ y. is_at port address y.host) s.sessions y k).0)
    (subst (λ (w : ℕ). w ≤ 4094) (sym (restricted_conf port s.ports)) (restricted_small (conf_of port (confs s.ports)) (confs s.ports) port refl c)) e

item_allowed : (ps : List PortConf) (h : Host) (o : Option Right) → HasConf ps h.port → ((r : Right) → o ≡ Some r → is_vlan r.vlan ≡ true) → IsAllowed ps (item_by h o)
item_allowed ps h None c v = rw (c.1) refl
item_allowed ps h (Some r) c v = rw (c.1) (v r refl)

pub by_aside : {h : Host} (s t : State) → Aside h s t → Moved s t → Speaks h s t → ToldBy (item_for h t ∷ []) s t
by_aside {h = h} s t a m k =
    let l = aside_leads s t a in
    record {
      leads = l;
      moved = m;
      settings = a.confs;
      allowed = (item_allowed (confs s.ports) h (authorised t h.port h.address) k.here (λ r e. rights_vlan t h.port h.address r k.vlans (subst AreRestricted (sym a.confs) k.restricted) e), tt);
      room = λ k. (roomy_same _ (authorised t) l.rights (state_roomy t (moved_to m k).few), tt);
    }

pub told_aside : {h : Host} (s t : State) → Aside h s t → Moved s t → Speaks h s t → Told 1 s t
told_aside {h = h} s t a m k = record { items = item_for h t ∷ []; few = omega arith; by = by_aside s t a m k }

-- a host whose right is as before needs no item
pub by_as_before : {h : Host} (s t : State) → Aside h s t → Moved s t → authorised t h.port h.address ≡ authorised s h.port h.address → ToldBy [] s t
by_as_before {h = h} s t a m e = record {
  leads = record {
    ports = a.ports;
    rights = λ port address. elim (same_key h.port h.address port address) as (λ b. same_key h.port h.address port address ≡ b → authorised s port address ≡ authorised t port address) [
      | true ↦ λ k.
          let same = key_equal h.port h.address port address k in
          (λ i. authorised s (sym same.0 i) (sym same.1 i)) ∙ sym e ∙ (λ i. authorised t (same.0 i) (same.1 i))
      | false ↦ λ k. sym (right_same s t port address a.confs (a.others port address k))
    ] refl;
  };
  moved = m;
  settings = a.confs;
  allowed = tt;
  room = λ k. tt;
}

-- ---- one item of a port

by_port : (s : State) (f : Port → Port) (i : Item) → ((o : Option Right) (port : ℕ) (address : List ℕ) → said port address i o ≡ o) → view_absorbed (map view s.ports) i ≡ map view (map f s.ports) → confs (map f s.ports) ≡ confs s.ports →
    IsAllowed (confs s.ports) i → ToldBy (i ∷ []) s (record s { ports = map f s.ports })
by_port s f i e v c k = record {
  leads = record { ports = v; rights = λ port address. e (authorised s port address) port address ∙ sym (right_same s (record s { ports = map f s.ports }) port address c refl) };
  moved = record { by = stays };
  settings = c;
  allowed = (k, tt);
  room = λ k. (roomy_same _ (authorised s) (λ port address. e (authorised s port address) port address) (state_roomy s k.few), tt);
}

two_views : (f : Port → Port) (g : PortView → PortView) → ((p : Port) → g (view p) ≡ view (f p)) → (ps : List Port) → map g (map view ps) ≡ map view (map f ps)
two_views f g e [] = refl
two_views f g e (p ∷ ps) = λ i. e p i ∷ two_views f g e ps i

pub by_set_link : (n : ℕ) (up : Bool) (s : State) → HasConf (confs s.ports) n → ToldBy (Link n up ∷ []) s (set_link n up s)
by_set_link n up s k =
    by_port s (with_link n up) (Link n up) (λ o port address. refl) (two_views (with_link n up) (view_link n up) (λ p. refl) s.ports) (confs_map _ (λ p. refl) s.ports) (rw (k.1) refl)

pub told_set_link : (n : ℕ) (up : Bool) (s : State) → HasConf (confs s.ports) n → Told 1 s (set_link n up s)
told_set_link n up s k = record { items = Link n up ∷ []; few = omega arith; by = by_set_link n up s k }

pub by_set_control : (n : ℕ) (control : Control) (s : State) → HasConf (confs s.ports) n → ToldBy (SetControl n control ∷ []) s (set_control n control s)
by_set_control n control s k =
    by_port s (with_control n control) (SetControl n control) (λ o port address. refl) (two_views (with_control n control) (view_control n control) (λ p. refl) s.ports) (confs_map _ (λ p. refl) s.ports) (rw (k.1) refl)

pub told_set_control : (n : ℕ) (control : Control) (s : State) → HasConf (confs s.ports) n → Told 1 s (set_control n control s)
told_set_control n control s k = record { items = SetControl n control ∷ []; few = omega arith; by = by_set_control n control s k }

pub by_no_guests : (n : ℕ) (s : State) → HasConf (confs s.ports) n → ToldBy (Guest n false ∷ []) s (no_guests n s)
by_no_guests n s k = by_port s (unguested n) (Guest n false) (λ o port address. refl) (two_views (unguested n) (view_guest n false) (λ p. refl) s.ports) (confs_map _ (λ p. refl) s.ports) (rw (k.1) refl)

pub told_no_guests : (n : ℕ) (s : State) → HasConf (confs s.ports) n → Told 1 s (no_guests n s)
told_no_guests n s k = record { items = Guest n false ∷ []; few = omega arith; by = by_no_guests n s k }

-- a port that lets no guests in
abbrev pub IsShut : ℕ → Port → Type 0
IsShut n p = is_port n p ≡ true → p.guest_open ≡ false

shut_view : (n : ℕ) (p : Port) → IsShut n p → view (unguested n p) ≡ view p
shut_view n p k = by (is_port n p) k
  where
    by : (b : Bool) → (b ≡ true → p.guest_open ≡ false) → record (view p) { guest_open = if b then false else p.guest_open } ≡ view p
    by true e = ap (λ g. record (view p) { guest_open = g }) (sym (e refl))
    by false e = refl

shut_views : (n : ℕ) (ps : List Port) → AllByRecursion (IsShut n) ps → map view ps ≡ map view (map (unguested n) ps)
shut_views n [] a = refl
shut_views n (p ∷ ps) a = λ i. sym (shut_view n p a.0) i ∷ shut_views n ps a.1 i

-- it needs no item
pub by_shut : (n : ℕ) (s : State) → AllByRecursion (IsShut n) s.ports → ToldBy [] s (no_guests n s)
by_shut n s a = by_none s (no_guests n s) (shut_views n s.ports a) (confs_map _ (λ p. refl) s.ports) refl (record { by = stays })

-- ---- guests of all ports

-- what items make of one port
abbrev pub view_one : PortView → List Item → PortView
view_one v [] = v
view_one v (Link n up ∷ is) = view_one (view_link n up v) is
view_one v (SetControl n control ∷ is) = view_one (view_control n control v) is
view_one v (Guest n on ∷ is) = view_one (view_guest n on v) is
view_one v (Let port address r ∷ is) = view_one v is
view_one v (Bar port address ∷ is) = view_one v is

views_none : (ps : List Port) → views_after [] (opened_guests ps) ≡ []
views_none [] = refl
views_none (p ∷ ps) = elim (opens p) as (λ b. views_after [] (cond b (Guest p.conf.port true ∷ opened_guests ps) (opened_guests ps)) ≡ []) [
  | true ↦ views_none ps
  | false ↦ views_none ps
]

views_each : (v : PortView) (vs : List PortView) (ps : List Port) → views_after (v ∷ vs) (opened_guests ps) ≡ view_one v (opened_guests ps) ∷ views_after vs (opened_guests ps)
views_each v vs [] = refl
views_each v vs (p ∷ ps) = elim (opens p) as (λ b. let is : List Item = cond b (Guest p.conf.port true ∷ opened_guests ps) (opened_guests ps) in views_after (v ∷ vs) is ≡ view_one v is ∷ views_after vs is) [
  | true ↦ views_each (view_guest p.conf.port true v) (map (view_guest p.conf.port true) vs) ps
  | false ↦ views_each v vs ps
]

unguest_view : (n : ℕ) (on : Bool) (v : PortView) → is_view n v ≡ false → view_guest n on v ≡ v
unguest_view n on v e = rw e refl

guest_view : (n : ℕ) (on : Bool) (v : PortView) → is_view n v ≡ true → view_guest n on v ≡ record v { guest_open = on }
guest_view n on v e = rw e refl

not_equal : (a b : ℕ) → nat_eq a b ≡ false → (b == a) ≡ false
not_equal a b e = by (b == a) refl
  where
    by : (x : Bool) → (b == a) ≡ x → (b == a) ≡ false
    by false f = f
    by true f = of_both e ((unsigned_Decides a b).1 (sym ((unsigned_Decides b a).0 f)))

-- other ports say nothing of this one
others_say : (v : PortView) (ps : List Port) → AllByRecursion (λ n. nat_eq v.conf.port n ≡ false) (map (λ c. c.port) (confs ps)) → view_one v (opened_guests ps) ≡ v
others_say v [] a = refl
others_say v (p ∷ ps) a =
    let differ : is_view p.conf.port v ≡ false = a.0 in
    elim (opens p) as (λ b. view_one v (cond b (Guest p.conf.port true ∷ opened_guests ps) (opened_guests ps)) ≡ v) [
      | true ↦ ap (λ (w : PortView). view_one w (opened_guests ps)) (unguest_view p.conf.port true v differ) ∙ others_say v ps a.1
      | false ↦ others_say v ps a.1
    ]

port_in : {p : Port} {ps : List Port} → In p ps → In p.conf.port (map (λ c. c.port) (confs ps))
port_in here = here
port_in (there i) = there (port_in i)

-- what a second makes of a port that it opens, and of another
open_by : (a b : Bool) → a && not b ≡ true → b || a ≡ true
open_by true false e = refl
open_by true true e = cc
open_by false b e = cc

shut_by : (a b : Bool) → a && not b ≡ false → b || a ≡ b
shut_by true true e = refl
shut_by true false e = cc
shut_by false true e = refl
shut_by false false e = refl

one_says : (ps : List Port) → IsDistinct nat_eq (map (λ c. c.port) (confs ps)) → (p : Port) → In p ps → view_one (view p) (opened_guests ps) ≡ view (guest_second p)
unfolding IsDistinct
one_says [] d p i = elim i [ ]
one_says (q ∷ ps) d p here = elim (opens p) as (λ b. opens p ≡ b → view_one (view p) (cond b (Guest p.conf.port true ∷ opened_guests ps) (opened_guests ps)) ≡ view (guest_second p)) [
  | true ↦ λ e.
      ap (λ (w : PortView). view_one w (opened_guests ps)) (guest_view p.conf.port true (view p) ((unsigned_Decides p.conf.port p.conf.port).1 refl)) ∙ others_say (record (view p) { guest_open = true }) ps d.0
      ∙ ap (λ (g : Bool). record (view p) { guest_open = g }) (sym (open_by (p.guest_while == 1) p.guest_open e))
  | false ↦ λ e. others_say (view p) ps d.0 ∙ ap (λ (g : Bool). record (view p) { guest_open = g }) (sym (shut_by (p.guest_while == 1) p.guest_open e))
] refl
one_says (q ∷ ps) d p (there i) =
    let differ : is_view q.conf.port (view p) ≡ false = not_equal q.conf.port p.conf.port (of_each (λ n. nat_eq q.conf.port n ≡ false) d.0 (port_in i)) in
    elim (opens q) as (λ b. view_one (view p) (cond b (Guest q.conf.port true ∷ opened_guests ps) (opened_guests ps)) ≡ view (guest_second p)) [
      | true ↦ ap (λ (w : PortView). view_one w (opened_guests ps)) (unguest_view q.conf.port true (view p) differ) ∙ one_says ps d.1 p i
      | false ↦ one_says ps d.1 p i
    ]

all_say : (qs ps : List Port) → ((p : Port) → In p ps → view_one (view p) (opened_guests qs) ≡ view (guest_second p)) → views_after (map view ps) (opened_guests qs) ≡ map view (map guest_second ps)
all_say qs [] f = views_none qs
all_say qs (p ∷ ps) f = views_each (view p) (map view ps) qs ∙ (λ i. f p here i ∷ all_say qs ps (λ r j. f r (there j)) i)

guests_said : (ps : List Port) (port : ℕ) (address : List ℕ) (o : Option Right) → all_said port address (opened_guests ps) o ≡ o
guests_said [] port address o = refl
guests_said (p ∷ ps) port address o = elim (opens p) as (λ b. all_said port address (cond b (Guest p.conf.port true ∷ opened_guests ps) (opened_guests ps)) o ≡ o) [
  | true ↦ guests_said ps port address o
  | false ↦ guests_said ps port address o
]

guests_room : (ps : List Port) (f : Rights) → AreRoomy f → StayRoomy f (opened_guests ps)
guests_room [] f r = tt
guests_room (p ∷ ps) f r = elim (opens p) as (λ b. StayRoomy f (cond b (Guest p.conf.port true ∷ opened_guests ps) (opened_guests ps))) [
  | true ↦ (r, guests_room ps f r)
  | false ↦ guests_room ps f r
]

pub few_opened : (ps : List Port) → length (opened_guests ps) ≤ length ps
few_opened [] = omega arith
few_opened (p ∷ ps) =
    let rest : length (opened_guests ps) ≤ length ps = few_opened ps in
    elim (opens p) as (λ b. length (cond b (Guest p.conf.port true ∷ opened_guests ps) (opened_guests ps)) ≤ suc (length ps)) [
      | true ↦ omega (arith, rest)
      | false ↦ omega (arith, rest)
    ]

one_conf : (ps : List Port) → IsDistinct nat_eq (map (λ c. c.port) (confs ps)) → (p : Port) → In p ps → conf_of p.conf.port (confs ps) ≡ Some p.conf
unfolding IsDistinct
one_conf [] d p i = elim i [ ]
one_conf (q ∷ ps) d p here = rw ((unsigned_Decides p.conf.port p.conf.port).1 refl) refl
one_conf (q ∷ ps) d p (there i) =
    let differ : (q.conf.port == p.conf.port) ≡ false = of_each (λ n. nat_eq q.conf.port n ≡ false) d.0 (port_in i) in
    rw differ (one_conf ps d.1 p i)

guest_fits : (on : Bool) (guest : ℕ) → (guest ≡ 0 → on ≡ false) → not on || not (guest == 0) ≡ true
guest_fits false guest f = refl
guest_fits true guest f = by (guest == 0) refl
  where
    by : (b : Bool) → (guest == 0) ≡ b → not b ≡ true
    by false e = refl
    by true e = (let no : true ≡ false = f ((unsigned_Decides guest 0).0 e) in cc)

guests_allowed : (qs ps : List Port) → ((p : Port) → In p qs → conf_of p.conf.port (confs ps) ≡ Some p.conf) → AllByRecursion MayHaveGuests qs → AllByRecursion (IsAllowed (confs ps)) (opened_guests qs)
guests_allowed [] ps f g = tt
guests_allowed (q ∷ qs) ps f g =
    let rest = guests_allowed qs ps (λ p i. f p (there i)) g.1 in
    elim (opens q) as (λ b. opens q ≡ b → AllByRecursion (IsAllowed (confs ps)) (cond b (Guest q.conf.port true ∷ opened_guests qs) (opened_guests qs))) [
      | true ↦ λ e.
          let on : (guest_second q).guest_open ≡ true = open_by (q.guest_while == 1) q.guest_open e in
          let shut : q.conf.guest ≡ 0 → true ≡ false = λ k. sym on ∙ (mild_second.guests q g.0).shut k in
          (subst (λ (o : Option PortConf). allowed_by (Guest q.conf.port true) o ≡ true) (sym (f q here)) (guest_fits true q.conf.guest shut), rest)
      | false ↦ λ e. rest
    ] refl

pub by_guests : (s : State) → IsDistinct nat_eq (map (λ c. c.port) (confs s.ports)) → AllByRecursion MayHaveGuests s.ports → ToldBy (opened_guests s.ports) s (guests_second s)
by_guests s d g = record {
  leads = record {
    ports = all_say s.ports s.ports (one_says s.ports d);
    rights = λ port address. guests_said s.ports port address (authorised s port address) ∙ sym (right_same s (guests_second s) port address (confs_map _ (λ p. refl) s.ports) refl);
  };
  moved = record { by = stays };
  settings = confs_map _ (λ p. refl) s.ports;
  allowed = guests_allowed s.ports s.ports (one_conf s.ports d) g;
  room = λ k. guests_room s.ports (authorised s) (state_roomy s k.few);
}

pub told_guests : (s : State) → IsDistinct nat_eq (map (λ c. c.port) (confs s.ports)) → AllByRecursion MayHaveGuests s.ports → Told (length s.ports) s (guests_second s)
told_guests s d g = record { items = opened_guests s.ports; few = few_opened s.ports; by = by_guests s d g }

-- ---- events

told_same : (s t : State) → t.ports ≡ s.ports → t.sessions ≡ s.sessions → Moved s t → Told 0 s t
told_same s t e f m = told_none s t (ap (λ (ps : List Port). map view ps) (sym e)) (ap (λ (ps : List Port). confs ps) e) (sym f) m

told_zero : (s : State) → Told 0 s s
told_zero s = told_same s s refl refl unmoved

pub told_settle : (why : Cause) (h : Host) (x : Standing) (s : State) → is_vlan x.vlan ≡ true → Speaks h s s → Told 1 s (settle_session why h x s).state
told_settle why h x s v k =
    told_aside s (settle_session why h x s).state (aside_settle why h x s) (moved_settle why h x s) (record { here = k.here; restricted = k.restricted; vlans = vlans_settle why h x s v k.vlans })

pub told_close : (h : Host) (s : State) → Speaks h s s → Told 1 s (close h s)
told_close h s k = told_aside s (close h s) (aside_close h s) (moved_close h s) (record { here = k.here; restricted = k.restricted; vlans = vlans_close h s k.vlans })

pub aside_open : (h : Host) (x : Standing) (s : State) → Aside h (no_guests h.port s) (with_session h x s)
aside_open h x s = record { ports = refl; confs = refl; others = λ port address e. first_pushed (λ y. is_at port address y.host) s.sessions (record { host = h; standing = x }) e }

-- the restricted VLANs of a sound state
conf_restricted_small : (ps : List PortConf) → list_all has_valid_vlans ps ≡ true → AreRestricted ps
conf_restricted_small [] v = tt
conf_restricted_small (p ∷ ps) v =
    let k = both (has_valid_vlans p) (list_all has_valid_vlans ps) v in
    (by (within 1 4094 p.native) (nat_le p.restricted 4094) (nat_le p.guest 4094) k.0 refl, conf_restricted_small ps k.1)
  where
    up_to : (a b : ℕ) → nat_le a b ≡ true → a ≤ b
    up_to a b h = grind (arith, nat_tests)

    by : (a b c : Bool) → a && b && c ≡ true → nat_le p.restricted 4094 ≡ b → p.restricted ≤ 4094
    by true true c e k = up_to p.restricted 4094 k
    by true false c e k = cc
    by false b c e k = cc

pub restricted_sound : {turns : ℕ} (s : State) → IsSound turns s → AreRestricted (confs s.ports)
restricted_sound s a = subst AreRestricted (sym a.confs) (conf_restricted_small s.config.ports (valid_confs s.config a.valid))

pub speaks : {turns : ℕ} (s : State) (y : Session) → IsSound turns s → In y s.sessions → Speaks y.host s s
speaks s y a i = record { here = session_conf s y a i; restricted = restricted_sound s a; vlans = a.vlans }

told_frame : {turns : ℕ} (s : State) (k : FrameCase) → Fits s k → IsSound turns s → Told 2 s (do_frame s k).state
told_frame s (Dropped line) f a = told_weaker (omega arith) (told_zero s)
told_frame s (Forces q from) f a =
    told_weaker (omega arith) (told_none s (do_frame s (Forces q from)).state (views_map _ (λ p. refl) s.ports) (confs_map _ (λ p. refl) s.ports) refl (record { by = stays }))
told_frame s (Opens q from) f a =
    let h : Host = opened s q from in
    let x : Standing = fresh_standing s q from in
    let u : State = no_guests h.port s in
    let v : State = with_session h x s in
    let t : State = (settle_session Another h x v).state in
    let c : HasConf (confs s.ports) h.port = has_conf s q.conf.port q f.0.here in
    let same : confs u.ports ≡ confs s.ports = confs_map _ (λ p. refl) s.ports in
    let vlan : is_vlan x.vlan ≡ true = native_vlan s q.conf.port q a f.0.here in
    let speak : Speaks h u t = record {
      here = subst (λ (cs : List PortConf). HasConf cs h.port) (sym same) c;
      restricted = subst AreRestricted (sym same) (restricted_sound s a);
      vlans = vlans_settle Another h x v vlan (each_push HasVlan s.sessions (record { host = h; standing = x }) a.vlans vlan);
    } in
    told_then {n = 1} {m = 1} s u t (told_no_guests h.port s c)
    (told_aside u t (aside_then (aside_open h x s) (aside_settle Another h x v)) (record { by = (then_moved (moved_open s q from f.2 f.3) (moved_settle Another h x v)).by }) speak)
told_frame s (Turns y e) f a = told_weaker (omega arith) (told_settle (cause_of e) y.host (set_vars e y.standing) s (of_each HasVlan a.vlans f.0) (speaks s y a f.0))

told_answer : {turns : ℕ} (s : State) (k : Answered) → IsFit s k → SaysVlan k → IsSound turns s → Told 1 s (do_answer s k).state
told_answer s (Refused check) f v a = told_weaker (omega arith) (told_zero s)
told_answer s (Taken y said_) f v a =
    let k = speaks s y a f.0 in
    told_then {n = 0} {m = 1} s (forget y.host s) (do_answer s (Taken y said_)).state (told_same s (forget y.host s) refl refl (record { by = stays }))
    (told_settle AnAnswer y.host (stands said_ y.standing) (forget y.host s) v (record { here = k.here; restricted = k.restricted; vlans = k.vlans }))

told_disconnected : {turns : ℕ} (o : Option Session) (s : State) → ((y : Session) → o ≡ Some y → In y s.sessions) → IsSound turns s → Told 1 s (disconnected o s).state
told_disconnected None s f a = told_weaker (omega arith) (told_zero s)
told_disconnected (Some y) s f a = told_close y.host s (speaks s y a (f y refl))

told_changed : {turns : ℕ} (vlan : Option ℕ) (t : Timeout) (o : Option Session) (s : State) → MayName vlan → ((y : Session) → o ≡ Some y → In y s.sessions) → IsSound turns s → Told 1 s (changed vlan t o s).state
told_changed vlan t None s n f a = told_weaker (omega arith) (told_zero s)
told_changed vlan t (Some y) s n f a =
    let x : Standing = times_or t s (vlan_or vlan y.standing) in
    let k = speaks s y a (f y refl) in
    told_aside s (place y.host x s) (aside_place y.host x s) (moved_place y.host x s)
    (record { here = k.here; restricted = k.restricted; vlans = vlans_placed y.host x s.sessions (changed_vlan vlan t s y n (of_each HasVlan a.vlans (f y refl))) a.vlans })

numbered_in : (n : ℕ) (s : State) (y : Session) → session_numbered n s ≡ Some y → In y s.sessions
numbered_in n s y e = (in_found (λ y. y.host.number == n) s.sessions y e).0

told_act : {turns : ℕ} (k : Action) (s : State) → NamesVlan k → IsSound turns s → Told 1 s (act k s).state
told_act (Disconnect number) s n a = told_disconnected (session_numbered number s) s (numbered_in number s) a
told_act (Change number vlan t) s n a = told_changed vlan t (session_numbered number s) s n (numbered_in number s) a

told_reply : (o : Option Packet) (cause : Option ℕ) (from : Addr) (s : State) → Told 0 s (reply_to o cause from s).state
told_reply None cause from s = told_zero s
told_reply (Some p) cause from s = told_same s (reply_to (Some p) cause from s).state refl refl (record { by = stays })

told_request : {turns : ℕ} (s : State) (from : Addr) (octets : List ℕ) (j : Judged) → Acks NamesVlan j → IsSound turns s → Told 1 s (do_request s from octets j).state
told_request s from octets (Drop reason) n a = told_weaker (omega arith) (told_zero s)
told_request s from octets (Again reply) n a = told_weaker (omega arith) (told_zero s)
told_request s from octets (Nak cause) n a = told_weaker (omega arith) (told_reply (packet_of octets) (Some cause) from s)
told_request s from octets (Ack k) n a =
    told_weaker (omega arith) (told_then {n = 1} {m = 0} s (act k s).state (do_request s from octets (Ack k)).state (told_act k s n a) (told_reply (packet_of octets) None from (act k s).state))

pub told_second_by : (b : Bool) (y : Session) (s : State) → HasVlan y → Speaks y.host s s → Told 1 s (second_by b y s).state
told_second_by true y s v k = told_close y.host s k
told_second_by false y s v k =
    let a : Aged = aged (pending_of y.host.number s.waits) in
    let x : Standing = set_vars (live.Second (is_given_up a)) (record y.standing { end_while = y.standing.end_while - 1 }) in
    let u : State = age_request a y.host s in
    told_then {n = 0} {m = 1} s u (settle_session Another y.host x u).state (told_same s u refl refl (record { by = stays })) (told_settle Another y.host x u v (record { here = k.here; restricted = k.restricted; vlans = k.vlans }))

pub told_each : (ys : List Session) (s : State) → AreVlans ys → AreConfigured (confs s.ports) ys → AreRestricted (confs s.ports) → AreVlans s.sessions → Told (length ys) s (each_second ys s).state
told_each [] s v c r a = told_zero s
told_each (y ∷ ys) s v c r a =
    let u : State = (second_of y s).state in
    let first = told_second_by (y.standing.end_while == 1) y s v.0 (record { here = c.0; restricted = r; vlans = a }) in
    let rest = told_each ys u v.1 (subst (λ (cs : List PortConf). AreConfigured cs ys) (sym first.by.settings) c.1) (subst AreRestricted (sym first.by.settings) r) (vlans_second y s v.0 a) in
    told_weaker {n = 1 + length ys} (omega arith) (told_then {n = 1} {m = length ys} s u (each_second ys u).state first rest)

told_close_all : (ys : List Session) (s : State) → AreConfigured (confs s.ports) ys → AreRestricted (confs s.ports) → AreVlans s.sessions → Told (length ys) s (close_all ys s)
told_close_all [] s c r a = told_zero s
told_close_all (y ∷ ys) s c r a =
    let u : State = close y.host s in
    let first = told_close y.host s (record { here = c.0; restricted = r; vlans = a }) in
    let rest = told_close_all ys u (subst (λ (cs : List PortConf). AreConfigured cs ys) (sym first.by.settings) c.1) (subst AreRestricted (sym first.by.settings) r) (vlans_close y.host s a) in
    told_weaker {n = 1 + length ys} (omega arith) (told_then {n = 1} {m = length ys} s u (close_all ys u) first rest)

pub told_close_port : (n : ℕ) (s : State) → Closes n s → Told (length s.sessions + 1) s (close_port n s)
told_close_port n s k =
    let l : length (on_port_of n s) ≤ length s.sessions = fewer _ s.sessions in
    let u : State = close_all (on_port_of n s) s in
    let first = told_close_all (on_port_of n s) s (each_filter (λ y. HasConf (confs s.ports) y.host.port) (on_port n) s.sessions k.hosts) k.restricted k.vlans in
    told_weaker {n = length (on_port_of n s) + 1} (omega (arith, l)) (told_then {n = length (on_port_of n s)} {m = 1} s u (no_guests n u) first (told_no_guests n u (subst (λ (cs : List PortConf). HasConf cs n) (sym first.by.settings) k.here)))

all_configured : {turns : ℕ} (s : State) → IsSound turns s → AreConfigured (confs s.ports) s.sessions
all_configured s a = each_in (λ y. HasConf (confs s.ports) y.host.port) s.sessions (λ y i. session_conf s y a i)

closes : {turns : ℕ} (n : ℕ) (s : State) → IsSound turns s → HasConf (confs s.ports) n → Closes n s
closes n s a c = record { here = c; hosts = all_configured s a; restricted = restricted_sound s a; vlans = a.vlans }

told_up : (b : Bool) (q : Port) (control : Control) (s : State) → Told 0 s (up_by b q control s).state
told_up true q control s = told_none s (up_by true q control s).state (views_map _ (λ p. refl) s.ports) (confs_map _ (λ p. refl) s.ports) refl (record { by = stays })
told_up false q control s = told_none s (up_by false q control s).state (views_map _ (λ p. refl) s.ports) (confs_map _ (λ p. refl) s.ports) refl (record { by = stays })

told_link_by : {turns : ℕ} (was up : Bool) (q : Port) (s : State) → HasConf (confs s.ports) q.conf.port → IsSound turns s → Told (length s.sessions + 2) s (link_by was up q s).state
told_link_by true true q s c a = told_weaker (omega arith) (told_zero s)
told_link_by false false q s c a = told_weaker (omega arith) (told_zero s)
told_link_by false true q s c a =
    let u : State = set_link q.conf.port true s in
    told_weaker (omega arith) (told_then {n = 1} {m = 0} s u (link_by false true q s).state (told_set_link q.conf.port true s c) (told_up (is_auto q.control) q q.control u))
told_link_by true false q s c a =
    let n : ℕ = q.conf.port in
    let u : State = set_link n false s in
    let same : confs u.ports ≡ confs s.ports = confs_map _ (λ p. refl) s.ports in
    let k = closes n s a c in
    let j : Closes n u = record {
      here = subst (λ (cs : List PortConf). HasConf cs n) (sym same) k.here;
      hosts = subst (λ (cs : List PortConf). AreConfigured cs s.sessions) (sym same) k.hosts;
      restricted = subst AreRestricted (sym same) k.restricted;
      vlans = k.vlans;
    } in
    told_weaker {n = 1 + (length s.sessions + 1)} (omega arith) (told_then {n = 1} {m = length s.sessions + 1} s u (close_port n u) (told_set_link n false s c) (told_close_port n u j))

told_link : {turns : ℕ} (up : Bool) (n : ℕ) (o : Option Port) (s : State) → port_of n s ≡ o → IsSound turns s → Told (length s.sessions + 2) s (do_link up o s).state
told_link up n None s e a = told_weaker (omega arith) (told_zero s)
told_link up n (Some q) s e a = told_link_by q.link up q s (conf_at s n q e) a

told_up_if : (b : Bool) (q : Port) (control : Control) (s : State) → Told 0 s (up_if b q control s).state
told_up_if true q control s = told_up (is_auto control) q control s
told_up_if false q control s = told_zero s

told_control_by : {turns : ℕ} (b : Bool) (control : Control) (q : Port) (s : State) → HasConf (confs s.ports) q.conf.port → IsSound turns s → Told (length s.sessions + 2) s (control_by b control q s).state
told_control_by true control q s c a = told_weaker (omega arith) (told_zero s)
told_control_by false control q s c a =
    let n : ℕ = q.conf.port in
    let u : State = close_port n s in
    let v : State = set_control n control u in
    let first = told_close_port n s (closes n s a c) in
    told_weaker {n = (length s.sessions + 1) + 1} (omega arith)
    (told_then {n = length s.sessions + 1} {m = 1} s u (control_by false control q s).state first
    (told_then {n = 1} {m = 0} u v (control_by false control q s).state (told_set_control n control u (subst (λ (cs : List PortConf). HasConf cs n) (sym first.by.settings) c)) (told_up_if q.link q control v)))

told_control : {turns : ℕ} (control : Control) (n : ℕ) (o : Option Port) (s : State) → port_of n s ≡ o → IsSound turns s → Told (length s.sessions + 2) s (do_control control o s).state
told_control control n None s e a = told_weaker (omega arith) (told_zero s)
told_control control n (Some q) s e a = told_control_by (same_control q.control control) control q s (conf_at s n q e) a

told_seconds : {turns : ℕ} (s : State) → IsSound turns s → Told (length s.ports + length s.sessions) s (turn s event.Second).state
told_seconds s a =
    let u : State = tick s in
    let v : State = guests_second u in
    let same : confs v.ports ≡ confs s.ports = confs_map _ (λ p. refl) s.ports in
    told_weaker {n = 0 + (length s.ports + length s.sessions)} (omega arith) (told_then {n = 0} {m = length s.ports + length s.sessions} s u (turn s event.Second).state (told_same s u refl refl (record { by = stays }))
    (told_then {n = length s.ports} {m = length s.sessions} u v (each_second s.sessions v).state (told_guests u (distinct_of s a) a.guests)
    (told_each s.sessions v a.vlans (subst (λ (cs : List PortConf). AreConfigured cs s.sessions) (sym same) (all_configured s a)) (subst AreRestricted (sym same) (restricted_sound s a)) a.vlans)))

pub told_turn : {turns : ℕ} (s : State) (e : event.Happening) → IsSound turns s → Told (length s.sessions + length s.ports + 2) s (turn s e).state
told_turn s (event.Frame port octets) a = told_weaker (omega arith) (told_frame s (frame_case s octets (port_of port s)) (fits_frame s port octets) a)
told_turn s (event.Radius socket octets) a = told_weaker (omega arith) (told_answer s (answered_on s socket octets) (answer_fits s socket octets a.times) (answer_vlan s socket octets a) a)
told_turn s (event.Dynamic from octets) a = told_weaker (omega arith) (told_request s from octets (judged_on s from octets) (request_vlan s from octets) a)
told_turn s event.Second a = told_weaker (omega arith) (told_seconds s a)
told_turn s (event.Link port up) a = told_weaker (omega arith) (told_link up port (port_of port s) s refl a)
told_turn s (event.SetControl port control) a = told_weaker (omega arith) (told_control control port (port_of port s) s refl a)

-- so few items as there are sessions and ports, and two more, tell of a turn
pub tells_by : {turns : ℕ} {is : List Item} {s t : State} → IsSound turns s → ToldBy is s t → length is ≤ length s.sessions + length s.ports + 2 → Tells s is t
tells_by a b few = record { leads = b.leads; allowed = b.allowed; room = b.room a.hosts; few = few }

pub told : IsTold
told n s e a =
    let t = told_turn s e a in
    (t.items, tells_by a t.by t.few)

-- What the parts of a turn leave, and how it is told.
use Rattle.std.proofs.Common.{◌≡◌, ◌⊎◌, inl, inr, ◌++◌, [], ◌∷◌, ℕ, Bool, true, false, List, Option, None, Some, length, filter, refl, sym, ap, subst, ◌∙◌, not, suc, cond, arith}
use Rattle.std.specs.Prelude.{◌==◌, ◌||◌}
use Rattle.std.proofs.lemmas.Bool.Decides.{nat_tests}
use Rattle.std.specs.List.{list_any, AllByRecursion}
use Rattle.std.proofs.lemmas.List.{append-nil}
use Rattle.radius_defs.specs.declared.Timeout.{Timeout}
use Rattle.radius_defs.specs.declared.Timeout.TheVariants.{Unset, End, Reauth}
use Rattle.settle_defs.specs.Settle.{Rest, settled}
use Rattle.switch_event.specs.declared.config.PortConf.{PortConf}
use Rattle.switch_defs.specs.Switch.{Host, Port, Session, Standing, State, hosts, is_at, is_vlan, on_port, port_of, session_at}
use Rattle.switch_defs.specs.Session.{Cause, Another, ask_if, close, close_if, follow, forget, forget_if, no_guests, place, rested, settle_session}
use Rattle.switch_defs.specs.Decide.{Right, authorised}
use Rattle.switch_defs.specs.Dynamic.{changed, times_or, vlan_or}
use Rattle.switch_defs.specs.Turn.{fresh_standing, opened, on_port_of, is_full, with_session}
use Rattle.switch_defs.specs.Sound.{In, IsSound, HasVlan, confs}
use Rattle.switch_defs.proofs.Lists.{each_push, of_each}
use Rattle.switch_defs.proofs.Keeping.{confs_map}
use Rattle.switch_defs.specs.Moving.{stays}
use Rattle.switch_defs.proofs.Fitting.{changed_vlan, native_vlan, vlans_close, vlans_placed, vlans_settle}
use Rattle.switch_defs.specs.Fitting.{AreVlans, MayName}
use Rattle.switch_defs.proofs.Moving.{moved_close, moved_open, moved_place, moved_settle, then_moved}
use Rattle.switch_defs.specs.Moving.{Moved}
use Rattle.table_defs.specs.Table.{Item, Guest}
use Rattle.table_defs.proofs.Told.{aside_close, aside_none, aside_open, aside_place, aside_settle, aside_then, by_as_before, by_aside, by_no_guests, by_shut, by_then, has_conf, restricted_sound, speaks}
use Rattle.table_defs.specs.Told.{Aside, AreRestricted, HasConf, Speaks, ToldBy, item_by}
use Rattle.turn_defs.specs.Parts.{Beside, Near, Notes, TellsOn, armed_if, is_gone}

-- ---- beside the sessions

beside_by : (ask abort gone : Bool) (h : Host) (x : Standing) (s : State) → Beside gone h.port s (close_if gone h (ask_if ask h x (forget_if abort h (place h x s))).state)
beside_by true true true h x s = record { config = refl; clock = refl; ports = refl; kept = refl }
beside_by true true false h x s = record { config = refl; clock = refl; ports = refl; kept = refl }
beside_by true false true h x s = record { config = refl; clock = refl; ports = refl; kept = refl }
beside_by true false false h x s = record { config = refl; clock = refl; ports = refl; kept = refl }
beside_by false true true h x s = record { config = refl; clock = refl; ports = refl; kept = refl }
beside_by false true false h x s = record { config = refl; clock = refl; ports = refl; kept = refl }
beside_by false false true h x s = record { config = refl; clock = refl; ports = refl; kept = refl }
beside_by false false false h x s = record { config = refl; clock = refl; ports = refl; kept = refl }

beside_follow : (why : Cause) (h : Host) (x : Standing) (r : Rest) (s : State) → Beside r.vars.gone h.port s (follow why h x r s).state
beside_follow why h x r s = beside_by r.vars.aaa_eap_resp r.vars.aaa_abort r.vars.gone h (rested why x r.vars) s

pub beside_settle : (why : Cause) (h : Host) (x : Standing) (s : State) → Beside (is_gone x) h.port s (settle_session why h x s).state
beside_settle why h x s = beside_follow why h x (settled x.vars) s

pub beside_close : (h : Host) (s : State) → Beside true h.port s (close h s)
beside_close h s = record { config = refl; clock = refl; ports = refl; kept = refl }

pub beside_place : (h : Host) (x : Standing) (s : State) → Beside false h.port s (place h x s)
beside_place h x s = record { config = refl; clock = refl; ports = refl; kept = refl }

-- ---- one host

pub near_settle : {turns : ℕ} (why : Cause) (y : Session) (x : Standing) (s : State) → IsSound turns s → In y s.sessions → is_vlan x.vlan ≡ true → Near y.host s (settle_session why y.host x s).state
near_settle why y x s a i v =
    let k = speaks s y a i in
    record { aside = aside_settle why y.host x s; moved = moved_settle why y.host x s; speaks = record { here = k.here; restricted = k.restricted; vlans = vlans_settle why y.host x s v k.vlans } }

pub near_close : {turns : ℕ} (y : Session) (s : State) → IsSound turns s → In y s.sessions → Near y.host s (close y.host s)
near_close y s a i =
    let k = speaks s y a i in
    record { aside = aside_close y.host s; moved = moved_close y.host s; speaks = record { here = k.here; restricted = k.restricted; vlans = vlans_close y.host s k.vlans } }

pub near_place : {turns : ℕ} (y : Session) (x : Standing) (s : State) → IsSound turns s → In y s.sessions → is_vlan x.vlan ≡ true → Near y.host s (place y.host x s)
near_place y x s a i v =
    let k = speaks s y a i in
    record { aside = aside_place y.host x s; moved = moved_place y.host x s; speaks = record { here = k.here; restricted = k.restricted; vlans = vlans_placed y.host x s.sessions v k.vlans } }

-- an answer: its request is forgotten first
pub near_told : {turns : ℕ} (why : Cause) (y : Session) (x : Standing) (s : State) → IsSound turns s → In y s.sessions → is_vlan x.vlan ≡ true → Near y.host s (settle_session why y.host x (forget y.host s)).state
near_told why y x s a i v =
    let k = speaks s y a i in
    let u : State = forget y.host s in
    record {
      aside = aside_then {t = u} (record { ports = refl; confs = refl; others = λ port address e. refl }) (aside_settle why y.host x u);
      moved = then_moved {t = u} (record { by = stays }) (moved_settle why y.host x u);
      speaks = record { here = k.here; restricted = k.restricted; vlans = vlans_settle why y.host x u v k.vlans };
    }

-- a session that opens, once its port has no guests
pub near_open : {turns : ℕ} (s : State) (q : Port) (from : List ℕ) → IsSound turns s → port_of q.conf.port s ≡ Some q → session_at q.conf.port from s ≡ None → is_full q.conf.port s ≡ false →
    let h = opened s q from in
    let x = fresh_standing s q from in
    Near h (no_guests h.port s) (settle_session Another h x (with_session h x s)).state
near_open s q from a here new room =
    let h : Host = opened s q from in
    let x : Standing = fresh_standing s q from in
    let u : State = no_guests h.port s in
    let v : State = with_session h x s in
    let t : State = (settle_session Another h x v).state in
    let same : confs u.ports ≡ confs s.ports = confs_map _ (λ p. refl) s.ports in
    let vlan : is_vlan x.vlan ≡ true = native_vlan s q.conf.port q a here in
    record {
      aside = aside_then (aside_open h x s) (aside_settle Another h x v);
      moved = record { by = (then_moved (moved_open s q from new room) (moved_settle Another h x v)).by };
      speaks = record {
        here = subst (λ (cs : List PortConf). HasConf cs h.port) (sym same) (has_conf s q.conf.port q here);
        restricted = subst AreRestricted (sym same) (restricted_sound s a);
        vlans = vlans_settle Another h x v vlan (each_push HasVlan s.sessions (record { host = h; standing = x }) a.vlans vlan);
      };
    }

-- ---- items

tells_more : (before items after : List Item) (s t : State) → ToldBy items s t → after ≡ before ++ items → TellsOn s t before after
tells_more before items after s t b e = λ start told. subst (λ (is : List Item). ToldBy is start t) (sym e) (by_then told b)

pub tells_none : (before : List Item) (s t : State) → ToldBy [] s t → TellsOn s t before before
tells_none before s t b = tells_more before [] before s t b (sym (append-nil before))

pub tells_one : (before after : List Item) (item : Item) (s t : State) → ToldBy (item ∷ []) s t → after ≡ before ++ item ∷ [] → TellsOn s t before after
tells_one before after item s t b e = tells_more before (item ∷ []) after s t b e

-- a host's right, which is told where it has changed
pub tells_noted : (h : Host) (s t : State) (was is : Option Right) (before after : List Item) → Notes h was is before after → was ≡ authorised s h.port h.address → is ≡ authorised t h.port h.address → Near h s t → TellsOn s t before after
tells_noted h s t was is before after (inl (same, e)) a b n =
    subst (λ (js : List Item). TellsOn s t before js) (sym e) (tells_none before s t (by_as_before s t n.aside n.moved (sym b ∙ sym same ∙ a)))
tells_noted h s t was is before after (inr e) a b n =
    tells_one before after (item_by h (authorised t h.port h.address)) s t (by_aside s t n.aside n.moved n.speaks) (e ∙ ap (λ (o : Option Right). before ++ item_by h o ∷ []) b)

-- a port has sessions where they are not none
some_not_none : (l : ℕ) → (suc l == 0) ≡ false
some_not_none l = grind (arith, nat_tests)

any_first : (b : Bool) (y : Session) (fs : List Session) (any : Bool) → any ≡ not (length fs == 0) → b || any ≡ not (length (cond b (y ∷ fs) fs) == 0)
any_first true y fs any e = ap not (sym (some_not_none (length fs)))
any_first false y fs any e = e

pub any_or_none : (n : ℕ) (ys : List Session) → list_any (on_port n) ys ≡ not (length (filter (on_port n) ys) == 0)
any_or_none n [] = refl
any_or_none n (y ∷ ys) = any_first (on_port n y) y (filter (on_port n) ys) (list_any (on_port n) ys) (any_or_none n ys)

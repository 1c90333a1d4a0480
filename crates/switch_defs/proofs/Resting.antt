-- Settling one session, or closing one, leaves all sessions at rest.
use Rattle.std.proofs.Common.{◌≡◌, ℕ, refl, sym, ap, subst, ◌∙◌, List, [], ◌∷◌, map, filter, Option, None, Some, Bool, true, false, cond, not, arith}
use Rattle.std.specs.Prelude.{is_some, if◌then◌else◌, ◌==◌}
use Rattle.std.specs.List.{AllByRecursion}
use Rattle.std.specs.Cmp.{unsigned_Decides}
use Rattle.machine_vars.specs.declared.vars.Vars.{Vars}
use Rattle.machine_vars.specs.declared.control.Control.TheVariants.{Auto}
use Rattle.machine_vars.specs.declared.states.EapState.TheVariants.{AaaIdle}
use Rattle.machine_defs.specs.Settling.{next}
use Rattle.machine_defs.specs.Live.{taken, Ready, cleared}
use Rattle.settle_defs.specs.Settle.{settled}
use Rattle.settle_defs.specs.Named.{IsNamed}
use Rattle.settle_defs.proofs.SettleLaws.{stays_live, is_idle_after, keeps_its_peer, stays_named}
use Rattle.aaa_defs.specs.Waits.{Pending, Waits, pending_of, with_request, forgotten}
use Rattle.aaa_defs.proofs.Waiting.{forgotten-none, forgotten-other, asked-other}
use Rattle.switch_defs.specs.Switch.{Host, Standing, Session, State, hosts, is_at}
use Rattle.switch_defs.specs.Session.{Cause, stands_as, place, is_other, new_request, rested, forget_if, ask_if, close_if, settle_session}
use Rattle.switch_defs.specs.Sound.{In, here, there, AreHosts, IsAtRest, SomeHost, AreOwned, InOrder, Rests, Fine, MaySettle}
use Rattle.switch_defs.proofs.Lists.{of_both, each_weaker, each_filter, in_map, in_kept, in_filter, key_same, false≢true}
use Rattle.switch_defs.proofs.Hosts.{rises_one, apart_one}
use Rattle.switch_defs.proofs.Requests.{order_filter, order_placed, each_placed}

-- the host is the only one of its port and address, and the only one of its number
pub record IsOnly (h : Host) (hs : List Host) : Type 0 where
  pub at : (g : Host) → In g hs → is_at h.port h.address g ≡ true → g ≡ h
  pub numbered : (g : Host) → In g hs → g.number ≡ h.number → g ≡ h

pub only_one : {hs : List Host} {n : ℕ} {h : Host} → AreHosts hs n → In h hs → IsOnly h hs
only_one {hs = hs} {n = n} {h = h} a i = record { at = λ g j e. apart_one hs g h a.apart j i e; numbered = λ g j e. rises_one 1 hs n g h a.rises j i e }

pub only_left : {hs : List Host} {h : Host} (keep : Host → Bool) → IsOnly h hs → IsOnly h (filter keep hs)
only_left {hs = hs} keep o = record { at = λ g j e. o.at g (in_kept keep hs j).0 e; numbered = λ g j e. o.numbered g (in_kept keep hs j).0 e }

-- whose requests there are has not changed for others
pub rest_with : (w u : Waits) (y : Session) → pending_of y.host.number u ≡ pending_of y.host.number w → IsAtRest w y → IsAtRest u y
rest_with w u y e r = record {
  live = r.live;
  idle = r.idle;
  goes_on = r.goes_on;
  auto = r.auto;
  unasked = r.unasked;
  wanted = r.wanted;
  named = r.named;
  port = r.port;
  peer = r.peer;
  waiting = λ h. r.waiting (ap is_some (sym e) ∙ h);
}

-- ---- hosts, as sessions are placed and closed

pub hosts_placed : (h : Host) (x : Standing) (ys : List Session) → map (λ y. y.host) (map (stands_as h x) ys) ≡ map (λ y. y.host) ys
hosts_placed h x [] = refl
hosts_placed h x (y ∷ ys) = ap (λ hs. y.host ∷ hs) (hosts_placed h x ys)

abbrev pub is_other_host : Host → Host → Bool
is_other_host h g = not (is_at h.port h.address g)

pub hosts_closed : (h : Host) (ys : List Session) → map (λ y. y.host) (filter (is_other h) ys) ≡ filter (is_other_host h) (map (λ y. y.host) ys)
hosts_closed h [] = refl
hosts_closed h (y ∷ ys) =
    elim (is_other h y) as (λ b. map (λ y. y.host) (cond b (y ∷ filter (is_other h) ys) (filter (is_other h) ys)) ≡ cond b (y.host ∷ filter (is_other_host h) (map (λ y. y.host) ys)) (filter (is_other_host h) (map (λ y. y.host) ys))) [
      | true ↦ ap (λ hs. y.host ∷ hs) (hosts_closed h ys)
      | false ↦ hosts_closed h ys
    ]

-- ---- a session is closed

pub other_number : (h : Host) (hs : List Host) (g : Host) → IsOnly h hs → In g hs → is_at h.port h.address g ≡ false → (g.number ≡ h.number → ⊥)
other_number h hs g o i e same = false≢true (sym e ∙ subst (λ (f : Host). is_at h.port h.address f ≡ true) (sym (o.numbered g i same)) (key_same h.port h.address))

not_false : (b : Bool) → b ≡ false → not b ≡ true
not_false true e = cc
not_false false e = refl

-- the sessions but one, with its request forgotten
close_sessions : (h : Host) (w : Waits) (hs : List Host) (ys : List Session) → IsOnly h hs → ((y : Session) → In y ys → In y.host hs) →
    AllByRecursion (λ y. is_at h.port h.address y.host ≡ false → IsAtRest w y) ys → AllByRecursion (IsAtRest (forgotten h.number w)) (filter (is_other h) ys)
close_sessions h w hs [] o f a = tt
close_sessions h w hs (y ∷ ys) o f a = by (is_at h.port h.address y.host) refl (close_sessions h w hs ys o (λ z i. f z (there i)) a.1)
  where
    by : (b : Bool) → is_at h.port h.address y.host ≡ b → AllByRecursion (IsAtRest (forgotten h.number w)) (filter (is_other h) ys) →
        AllByRecursion (IsAtRest (forgotten h.number w)) (cond (not b) (y ∷ filter (is_other h) ys) (filter (is_other h) ys))
    by true e r = r
    by false e r = (rest_with w (forgotten h.number w) y (forgotten-other h.number y.host.number w (other_number h hs y.host o (f y here) e)) (a.0 e), r)

-- the requests of others are owned by others
kept_owner : (h : Host) (hs : List Host) (n : ℕ) → IsOnly h hs → (n ≡ h.number → ⊥) → SomeHost hs n → SomeHost (filter (is_other_host h) hs) n
kept_owner h hs n o other s = (s.0, in_filter (is_other_host h) (by (is_at h.port h.address s.0) refl) s.1, s.2)
  where
    by : (b : Bool) → is_at h.port h.address s.0 ≡ b → not b ≡ true
    by true e = absurd (other (sym s.2 ∙ ap (λ (g : Host). g.number) (o.at s.0 s.1 e)))
    by false e = refl

close_owned : (h : Host) (hs : List Host) (ps : List Pending) → IsOnly h hs → AreOwned hs ps → AreOwned (filter (is_other_host h) hs) (filter (λ p. not (p.session == h.number)) ps)
close_owned h hs [] o a = tt
close_owned h hs (p ∷ ps) o a = by (p.session == h.number) refl (close_owned h hs ps o a.1)
  where
    by : (b : Bool) → (p.session == h.number) ≡ b → AreOwned (filter (is_other_host h) hs) (filter (λ p. not (p.session == h.number)) ps) →
        AreOwned (filter (is_other_host h) hs) (cond (not b) (p ∷ filter (λ p. not (p.session == h.number)) ps) (filter (λ p. not (p.session == h.number)) ps))
    by true e r = r
    by false e r = (kept_owner h hs p.session o (λ same. false≢true (sym e ∙ (unsigned_Decides p.session h.number).1 same)) a.0, r)

-- all but the session of a host are at rest
pub record But (h : Host) (w : Waits) (ys : List Session) : Type 0 where
  pub others : AllByRecursion (λ y. is_at h.port h.address y.host ≡ false → IsAtRest w y) ys
  pub owned : AreOwned (map (λ y. y.host) ys) w.requests
  pub order : InOrder 0 w.requests

pub rests_but : {h : Host} {w : Waits} {ys : List Session} → Rests w ys → But h w ys
rests_but {h = h} {w = w} {ys = ys} r = record { others = each_weaker (IsAtRest w) _ (λ y k e. k) ys r.sessions; owned = r.owned; order = r.order }

pub close_rests : (h : Host) (w : Waits) (ys : List Session) → IsOnly h (map (λ y. y.host) ys) → But h w ys → Rests (forgotten h.number w) (filter (is_other h) ys)
close_rests h w ys o b = record {
  sessions = close_sessions h w (map (λ y. y.host) ys) ys o (λ y i. in_map (λ (z : Session). z.host) i) b.others;
  owned = subst (λ (hs : List Host). AreOwned hs (forgotten h.number w).requests) (sym (hosts_closed h ys)) (close_owned h (map (λ y. y.host) ys) w.requests o b.owned);
  order = order_filter _ 0 w.requests b.order;
}

-- ---- a session is settled

-- the words to the server and from it are not read by the machines
next_cleared : (v : Vars) → next (cleared v) ≡ next v
next_cleared v = refl

-- a session's requests after its settling: those of others are the same, and its own waits where the machine does
record Left (h : Host) (hs : List Host) (w : Vars) (before after : Waits) : Type 0 where
  others : (m : ℕ) → (m ≡ h.number → ⊥) → pending_of m after ≡ pending_of m before
  mine : is_some (pending_of h.number after) ≡ true → w.eap ≡ AaaIdle
  owned : AreOwned hs after.requests
  order : InOrder 0 after.requests

is_none : {X : Type 0} (o : Option X) → is_some o ≡ false → o ≡ None
is_none None e = refl
is_none (Some x) e = cc

free_of : (pending : Option Pending) (w : Vars) → Fine (is_some pending) w → w.aaa_eap_resp ≡ true → w.aaa_abort ≡ false → pending ≡ None
free_of pending w f r a = is_none pending (by (is_some pending) refl)
  where
    by : (b : Bool) → is_some pending ≡ b → is_some pending ≡ false
    by true e = of_both a (f.free r e)
    by false e = e

-- the requests, where one is forgotten, and where one is sent
abbrev left_if : Bool → ℕ → Waits → Waits
left_if true n w = forgotten n w
left_if false n w = w

abbrev asked_by : Bool → Pending → Waits → Waits
asked_by true p w = with_request p w
asked_by false p w = w

left_by : (h : Host) (hs : List Host) (w : Vars) (p : Pending) (before : Waits) (a r : Bool) → p.session ≡ h.number → In h hs → AreOwned hs before.requests → InOrder 0 before.requests →
    Fine (is_some (pending_of h.number before)) w → w.aaa_abort ≡ a → w.aaa_eap_resp ≡ r → Left h hs w before (asked_by r p (left_if a h.number before))
left_by h hs w p before true true e i owned order f ea er =
    let gone : pending_of p.session (forgotten h.number before) ≡ None = subst (λ (n : ℕ). pending_of n (forgotten h.number before) ≡ None) (sym e) (forgotten-none h.number before) in
    record {
      others = λ m d. asked-other p m (forgotten h.number before) (λ q. d (sym q ∙ e)) ∙ forgotten-other h.number m before d;
      mine = λ k. f.asks er;
      owned = each_placed (λ q. SomeHost hs q.session) p (forgotten h.number before).requests (h, i, sym e) (each_filter (λ q. SomeHost hs q.session) _ before.requests owned);
      order = order_placed p 0 (forgotten h.number before).requests (omega arith) (order_filter _ 0 before.requests order) gone;
    }
left_by h hs w p before true false e i owned order f ea er = record {
  others = λ m d. forgotten-other h.number m before d;
  mine = λ k. of_both (ap is_some (forgotten-none h.number before)) k;
  owned = each_filter (λ q. SomeHost hs q.session) _ before.requests owned;
  order = order_filter _ 0 before.requests order;
}
left_by h hs w p before false true e i owned order f ea er =
    let gone : pending_of p.session before ≡ None = subst (λ (n : ℕ). pending_of n before ≡ None) (sym e) (free_of (pending_of h.number before) w f er ea) in
    record {
      others = λ m d. asked-other p m before (λ q. d (sym q ∙ e));
      mine = λ k. f.asks er;
      owned = each_placed (λ q. SomeHost hs q.session) p before.requests (h, i, sym e) owned;
      order = order_placed p 0 before.requests (omega arith) order gone;
    }
left_by h hs w p before false false e i owned order f ea er = record {
  others = λ m d. refl;
  mine = λ k. f.stays er ea k;
  owned = owned;
  order = order;
}

-- the other sessions
pub others_placed : (h : Host) (x : Standing) (w u : Waits) (hs : List Host) (ys : List Session) → IsOnly h hs → ((y : Session) → In y ys → In y.host hs) →
    ((m : ℕ) → (m ≡ h.number → ⊥) → pending_of m u ≡ pending_of m w) → AllByRecursion (λ y. is_at h.port h.address y.host ≡ false → IsAtRest w y) ys →
    AllByRecursion (λ y. is_at h.port h.address y.host ≡ false → IsAtRest u y) (map (stands_as h x) ys)
others_placed h x w u hs [] o f e a = tt
others_placed h x w u hs (y ∷ ys) o f e a = (by (is_at h.port h.address y.host) refl, others_placed h x w u hs ys o (λ z i. f z (there i)) e a.1)
  where
    by : (b : Bool) → is_at h.port h.address y.host ≡ b → is_at h.port h.address y.host ≡ false → IsAtRest u (record y { standing = if is_at h.port h.address y.host then x else y.standing })
    by true k l = of_both l k
    by false k l = rw k (rest_with w u y (e y.host.number (other_number h hs y.host o (f y here) l)) (a.0 l))

-- all of them
pub all_placed : (h : Host) (x : Standing) (u : Waits) (hs : List Host) (ys : List Session) → IsOnly h hs → ((y : Session) → In y ys → In y.host hs) → IsAtRest u (record { host = h; standing = x }) →
    AllByRecursion (λ y. is_at h.port h.address y.host ≡ false → IsAtRest u y) (map (stands_as h x) ys) → AllByRecursion (IsAtRest u) (map (stands_as h x) ys)
all_placed h x u hs [] o f r a = tt
all_placed h x u hs (y ∷ ys) o f r a = (by (is_at h.port h.address y.host) refl a.0, all_placed h x u hs ys o (λ z i. f z (there i)) r a.1)
  where
    by : (b : Bool) → is_at h.port h.address y.host ≡ b → (is_at h.port h.address y.host ≡ false → IsAtRest u (stands_as h x y)) → IsAtRest u (stands_as h x y)
    by false k g = g k
    by true k g =
        let same : y.host ≡ h = o.at y.host (f y here) k in
        rw k (subst (λ (g : Host). IsAtRest u (record { host = g; standing = x })) (sym same) r)

-- its own
mine_rests : (why : Cause) (h : Host) (x : Standing) (u : Waits) → Ready x.vars → IsNamed x.vars → x.vars.port_control ≡ Auto → x.vars.port ≡ h.port → x.vars.peer ≡ h.address →
    (settled x.vars).vars.gone ≡ false → (is_some (pending_of h.number u) ≡ true → (settled x.vars).vars.eap ≡ AaaIdle) → IsAtRest u (record { host = h; standing = rested why x (settled x.vars).vars })
mine_rests why h x u ready named auto port peer g mine =
    let k = keeps_its_peer x.vars ready in
    record {
      live = taken (stays_live x.vars ready);
      idle = next_cleared (settled x.vars).vars ∙ is_idle_after x.vars ready;
      goes_on = g;
      auto = k.control ∙ auto;
      unasked = refl;
      wanted = refl;
      named = stays_named x.vars ready named;
      port = k.port ∙ port;
      peer = k.peer ∙ peer;
      waiting = mine;
    }

abbrev end_by : Bool → Host → Waits → Waits
end_by true h w = forgotten h.number w
end_by false h w = w

abbrev pub closed_by : Bool → Host → List Session → List Session
closed_by true h ys = filter (is_other h) ys
closed_by false h ys = ys

end_with : (why : Cause) (h : Host) (x : Standing) (u : Waits) (ys : List Session) (g : Bool) → IsOnly h (map (λ y. y.host) ys) → But h u ys → (g ≡ false → AllByRecursion (IsAtRest u) ys) → Rests (end_by g h u) (closed_by g h ys)
end_with why h x u ys true o b f = close_rests h u ys o b
end_with why h x u ys false o b f = record { sessions = f refl; owned = b.owned; order = b.order }

settle_by : (why : Cause) (h : Host) (x : Standing) (s : State) (a r g : Bool) → IsOnly h (hosts s) → MaySettle h x s → (settled x.vars).vars.aaa_abort ≡ a → (settled x.vars).vars.aaa_eap_resp ≡ r →
    (settled x.vars).vars.gone ≡ g → Rests (end_by g h (asked_by r (new_request (forget_if a h (place h (rested why x (settled x.vars).vars) s)) h (rested why x (settled x.vars).vars)) (left_if a h.number s.waits)))
    (closed_by g h (map (stands_as h (rested why x (settled x.vars).vars)) s.sessions))
settle_by why h x s a r g o m ea er eg =
    let w : Vars = (settled x.vars).vars in
    let x' : Standing = rested why x w in
    let p : Pending = new_request (forget_if a h (place h x' s)) h x' in
    let u : Waits = asked_by r p (left_if a h.number s.waits) in
    let l : Left h (hosts s) w s.waits u = left_by h (hosts s) w p s.waits a r refl m.there m.owned m.order m.fine ea er in
    let all : (y : Session) → In y s.sessions → In y.host (hosts s) = λ y i. in_map (λ (z : Session). z.host) i in
    let others = others_placed h x' s.waits u (hosts s) s.sessions o all l.others m.others in
    let owned : AreOwned (map (λ y. y.host) (map (stands_as h x') s.sessions)) u.requests = subst (λ (hs : List Host). AreOwned hs u.requests) (sym (hosts_placed h x' s.sessions)) l.owned in
    end_with why h x u (map (stands_as h x') s.sessions) g
    (subst (λ (hs : List Host). IsOnly h hs) (sym (hosts_placed h x' s.sessions)) o)
    (record { others = others; owned = owned; order = l.order })
    (λ e. all_placed h x' u (hosts s) s.sessions o all (mine_rests why h x u m.ready m.named m.auto m.port m.peer (eg ∙ e) l.mine) others)

-- what is done to a state is this
done_waits : (why : Cause) (h : Host) (x : Standing) (s : State) (a r g : Bool) → (close_if g h (ask_if r h x (forget_if a h (place h x s))).state).waits ≡ end_by g h (asked_by r (new_request (forget_if a h (place h x s)) h x) (left_if a h.number s.waits))
done_waits why h x s true true true = refl
done_waits why h x s true true false = refl
done_waits why h x s true false true = refl
done_waits why h x s true false false = refl
done_waits why h x s false true true = refl
done_waits why h x s false true false = refl
done_waits why h x s false false true = refl
done_waits why h x s false false false = refl

pub done_sessions : (why : Cause) (h : Host) (x : Standing) (s : State) (a r g : Bool) → (close_if g h (ask_if r h x (forget_if a h (place h x s))).state).sessions ≡ closed_by g h (map (stands_as h x) s.sessions)
done_sessions why h x s true true true = refl
done_sessions why h x s true true false = refl
done_sessions why h x s true false true = refl
done_sessions why h x s true false false = refl
done_sessions why h x s false true true = refl
done_sessions why h x s false true false = refl
done_sessions why h x s false false true = refl
done_sessions why h x s false false false = refl

rests_at : {w u : Waits} {ys zs : List Session} → u ≡ w → zs ≡ ys → Rests w ys → Rests u zs
rests_at {w = w} {zs = zs} e f r = subst (λ (x : Waits). Rests x zs) (sym e) (subst (λ (x : List Session). Rests w x) (sym f) r)

pub settle_rests : (why : Cause) (h : Host) (x : Standing) (s : State) → IsOnly h (hosts s) → MaySettle h x s → Rests (settle_session why h x s).state.waits (settle_session why h x s).state.sessions
settle_rests why h x s o m =
    let w : Vars = (settled x.vars).vars in
    rests_at (done_waits why h (rested why x w) s w.aaa_abort w.aaa_eap_resp w.gone) (done_sessions why h (rested why x w) s w.aaa_abort w.aaa_eap_resp w.gone)
    (settle_by why h x s w.aaa_abort w.aaa_eap_resp w.gone o m refl refl refl)

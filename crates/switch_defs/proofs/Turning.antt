-- After each event every session is at rest.
use Rattle.std.proofs.Common.{◌≡◌, ℕ, ◌-◌, ◌≤◌, ◌<◌, refl, sym, ap, subst, ◌∙◌, List, [], ◌∷◌, map, filter, Option, None, Some, Bool, true, false, cond, not, arith, ◌⊎◌, inl, inr}
use Rattle.std.specs.Prelude.{find, is_some, ◌==◌}
use Rattle.std.specs.List.{AllByRecursion}
use Rattle.std.specs.Cmp.{unsigned_Decides}
use Rattle.machine_vars.specs.declared.vars.Vars.{Vars}
use Rattle.machine_vars.specs.declared.control.Control.{Control}
use Rattle.machine_vars.specs.declared.control.Control.TheVariants.{Auto}
use Rattle.machine_vars.specs.declared.states.EapState.TheVariants.{AaaIdle}
use Rattle.machine_defs.specs.BackendTable.{is_auto}
use Rattle.machine_defs.specs.PaeTable.{same_control}
use Rattle.machine_defs.specs.Live.{Live, born, Ready, still, turns, InRange, IsProper, fresh, set}
use Rattle.machine_defs.specs.Live as live
use Rattle.machine_defs.proofs.Idle.{change_idle, change_live}
use Rattle.settle_defs.specs.Settle.{settled}
use Rattle.settle_defs.specs.Named.{IsNamed}
use Rattle.settle_defs.specs.Laws.{opened as opened_value, event, ComesBetween}
use Rattle.settle_defs.specs.Laws as settle
use Rattle.settle_defs.proofs.SettleLaws.{asks_where_it_waits, leaves_the_server}
use Rattle.radius_defs.specs.Packet.{Packet}
use Rattle.radius_defs.specs.Parsed.{packet_of}
use Rattle.radius_defs.specs.declared.Timeout.{Timeout}
use Rattle.radius_defs.specs.declared.Timeout.TheVariants.{Unset, End, Reauth}
use Rattle.aaa_defs.specs.declared.Aged.{Aged}
use Rattle.aaa_defs.specs.declared.Aged.TheVariants.{Quiet, Resend, GaveUp}
use Rattle.aaa_defs.specs.Waits.{Waits, pending_of, forgotten}
use Rattle.aaa_defs.specs.Age.{aged, with_older}
use Rattle.aaa_defs.proofs.Waiting.{forgotten-none, forgotten-other, older-other}
use Rattle.switch_defs.specs.Switch.{Port, Host, Standing, Session, State, hosts, is_at, on_port, port_of, session_numbered}
use Rattle.switch_defs.specs.Session.{Cause, AnAnswer, Another, rested, stands_as, place, is_other, forget, close, settle_session}
use Rattle.kept_defs.specs.Kept.{Entry}
use Rattle.switch_event.specs.Config.{Config}
use Rattle.wire_core.specs.declared.address.Addr.{Addr}
use Rattle.switch_event.specs.Event.{Happening, Frame, Radius, Dynamic, Second, Link, SetControl}
use Rattle.dynauth_defs.specs.declared.Action.{Action}
use Rattle.dynauth_defs.specs.declared.Action.TheVariants.{Disconnect, Change}
use Rattle.dynauth_defs.specs.Session.{Row}
use Rattle.dynauth_defs.specs.Judge.{Judged, Drop, Again, Nak, Ack, judged}
use Rattle.switch_defs.proofs.Judging.{Acks, judged_acks}
use Rattle.switch_defs.specs.Answer.{event_of, Answered, Refused, Told, stands, answered_on}
use Rattle.aaa_defs.specs.Said.{Said, again_of, period_of}
use Rattle.switch_defs.specs.Dynamic.{times_or, vlan_or, disconnected, changed, act, reply_to, row_of, judged_on}
use Rattle.switch_defs.specs.Turn.{FrameCase, Dropped, Forces, Opens, Turns, do_frame, opened, fresh_standing, with_session, set_vars, cause_of, do_answer, age_request, is_given_up, second_by, second_of, each_second, close_all, close_port, on_port_of, frame_case, do_request, tick, guests_second, up_by, up_if, link_by, do_link, control_by, do_control, set_link, set_control, turn}
use Rattle.switch_defs.specs.Sound.{In, here, there, AreHosts, AreApart, IsAtRest, SomeHost, AreOwned, Rests, Fine, MaySettle, FromHost, start, logoff, packet, Fits}
use Rattle.switch_defs.proofs.Lists.{of_both, each_weaker, each_in, of_each, each_filter, each_push, in_map, in_append, in_last, in_filter, in_kept, in_found, none_passes, none_found, key_same}
use Rattle.switch_defs.proofs.Hosts.{below_high, found_host}
use Rattle.switch_defs.proofs.Requests.{order_filter, order_older, owned_older, older_is}
use Rattle.switch_defs.proofs.Resting.{IsOnly, only_one, rest_with, other_number, But, rests_but, close_rests, all_placed, others_placed, hosts_placed, closed_by, done_sessions, settle_rests}
use Rattle.switch_defs.proofs.Answers.{IsFit, IsSome, answer_fits, period_some, timeout_some}
use Rattle.switch_defs.proofs.Frames.{fits_frame}
use Rattle.switch_defs.proofs.Moving.{moved_to, moved_open, hosts_pushed, moved_second, moved_close}

-- ---- the variables of an event

named_set : (e : live.Event) (v : Vars) → IsNamed v → IsNamed (set e v)
named_set live.Start v i = i
named_set live.Logoff v i = i
named_set (live.Greeting x) v i = i
named_set (live.Packet x) v i = i
named_set (live.Challenge x n) v i = i
named_set live.Notice v i = i
named_set (live.Accept x b n) v i = i
named_set (live.Reject x) v i = i
named_set (live.Second b) v i = i
named_set (live.Change b n) v i = i

record Same (v w : Vars) : Type 0 where
  control : w.port_control ≡ v.port_control
  port : w.port ≡ v.port
  peer : w.peer ≡ v.peer

-- only a greeting has another peer, and none comes on an Auto port
same_set : (e : live.Event) (v : Vars) → IsProper e v → v.port_control ≡ Auto → Same v (set e v)
same_set live.Start v p a = record { control = refl; port = refl; peer = refl }
same_set live.Logoff v p a = record { control = refl; port = refl; peer = refl }
same_set (live.Greeting x) v p a = let auto : is_auto v.port_control ≡ true = ap is_auto a in of_both p auto
same_set (live.Packet x) v p a = record { control = refl; port = refl; peer = refl }
same_set (live.Challenge x n) v p a = record { control = refl; port = refl; peer = refl }
same_set live.Notice v p a = record { control = refl; port = refl; peer = refl }
same_set (live.Accept x b n) v p a = record { control = refl; port = refl; peer = refl }
same_set (live.Reject x) v p a = record { control = refl; port = refl; peer = refl }
same_set (live.Second b) v p a = record { control = refl; port = refl; peer = refl }
same_set (live.Change b n) v p a = record { control = refl; port = refl; peer = refl }

-- ---- what a settling may find

fine_free : (b : Bool) (w : Vars) → b ≡ false → (w.aaa_eap_resp ≡ true → w.eap ≡ AaaIdle) → Fine b w
fine_free b w e f = record { asks = f; free = λ r p. of_both e p; stays = λ r a p. of_both e p }

asks_of : (e : live.Event) (w : Waits) (y : Session) → IsAtRest w y → IsProper e y.standing.vars → (settled (set e y.standing.vars)).vars.aaa_eap_resp ≡ true → (settled (set e y.standing.vars)).vars.eap ≡ AaaIdle
asks_of e w y r p = asks_where_it_waits (set e y.standing.vars) (event e r.live p r.idle r.unasked)

between_by : (b : Bool) (w : Vars) → (w.aaa_eap_resp ≡ true → w.eap ≡ AaaIdle) → (b ≡ true → (w.aaa_abort ≡ true) ⊎ ((w.eap ≡ AaaIdle) × (w.aaa_eap_resp ≡ false))) → Fine b w
between_by b w asks f = record {
  asks = asks;
  free = λ r p. elim (f p) [ inl a ↦ a | inr k ↦ of_both k.1 r ];
  stays = λ r a p. elim (f p) [ inl h ↦ of_both a h | inr k ↦ k.0 ];
}

fine_between : (e : live.Event) (w : Waits) (y : Session) → ComesBetween e → IsProper e y.standing.vars → IsAtRest w y → Fine (is_some (pending_of y.host.number w)) (settled (set e y.standing.vars)).vars
fine_between e w y c p r =
    between_by (is_some (pending_of y.host.number w)) (settled (set e y.standing.vars)).vars (asks_of e w y r p) (λ h. leaves_the_server e y.standing.vars c r.live r.idle (r.waiting h) r.unasked)

-- an event of a session, with requests w as it was at rest and others as it is settled
may_turn : (e : live.Event) (w : Waits) (y : Session) (s : State) (x : Standing) → x.vars ≡ set e y.standing.vars → In y.host (hosts s) → But y.host s.waits s.sessions → IsAtRest w y → IsProper e y.standing.vars →
    Fine (is_some (pending_of y.host.number s.waits)) (settled (set e y.standing.vars)).vars → MaySettle y.host x s
may_turn e w y s x same i b r p f =
    let k = same_set e y.standing.vars p r.auto in
    record {
      there = i;
      others = b.others;
      owned = b.owned;
      order = b.order;
      ready = subst Ready (sym same) (turns e r.live p);
      named = subst IsNamed (sym same) (named_set e y.standing.vars r.named);
      auto = ap (λ (v : Vars). v.port_control) same ∙ k.control ∙ r.auto;
      port = ap (λ (v : Vars). v.port) same ∙ k.port ∙ r.port;
      peer = ap (λ (v : Vars). v.peer) same ∙ k.peer ∙ r.peer;
      fine = subst (λ (v : Vars). Fine (is_some (pending_of y.host.number s.waits)) (settled v).vars) (sym same) f;
    }

host_in : {y : Session} {ys : List Session} → In y ys → In y.host (map (λ z. z.host) ys)
host_in i = in_map (λ (z : Session). z.host) i

at_rest : (s : State) {y : Session} → Rests s.waits s.sessions → In y s.sessions → IsAtRest s.waits y
at_rest s r i = of_each (IsAtRest s.waits) r.sessions i

-- ---- frames

comes_of : {e : live.Event} → FromHost e → ComesBetween e
comes_of start = settle.start
comes_of logoff = settle.logoff
comes_of (packet x) = settle.packet x

proper_of : {e : live.Event} (v : Vars) → FromHost e → IsProper e v
proper_of v start = tt
proper_of v logoff = tt
proper_of v (packet x) = tt

-- no request has a number that no session had
none_new : (hs : List Host) (n : ℕ) (w : Waits) → AreHosts hs n → AreOwned hs w.requests → pending_of n w ≡ None
none_new hs n w a owned = none_found (λ p. p.session == n) w.requests (each_weaker (λ p. SomeHost hs p.session) _ (λ p k. by p.session k (p.session == n) refl) w.requests owned)
  where
    by : (m : ℕ) → SomeHost hs m → (b : Bool) → (m == n) ≡ b → (m == n) ≡ false
    by m k false e = e
    by m k true e =
        let same : m ≡ n = (unsigned_Decides m n).0 e in
        let less : k.0.number < n = below_high 1 hs n k.0 a.rises k.1 in
        absurd (omega (arith, less, k.2, same))

pub may_open : (s : State) (q : Port) (from : List ℕ) → AreHosts (hosts s) s.next → Rests s.waits s.sessions → InRange s.config.times →
    MaySettle (opened s q from) (fresh_standing s q from) (with_session (opened s q from) (fresh_standing s q from) s)
may_open s q from a r t =
    let h : Host = opened s q from in
    let x : Standing = fresh_standing s q from in
    let none : pending_of s.next s.waits ≡ None = none_new (hosts s) s.next s.waits a r.owned in
    record {
      there = in_map (λ (z : Session). z.host) (in_last s.sessions (record { host = h; standing = x }));
      others = each_push (λ y. is_at h.port h.address y.host ≡ false → IsAtRest s.waits y) s.sessions (record { host = h; standing = x })
          (each_weaker (IsAtRest s.waits) _ (λ y k e. k) s.sessions r.sessions) (λ e. of_both e (key_same h.port h.address));
      owned = subst (λ (hs : List Host). AreOwned hs s.waits.requests) (sym (hosts_pushed h x s.sessions))
          (each_weaker (λ p. SomeHost (hosts s) p.session) _ (λ p k. (k.0, in_append (h ∷ []) k.1, k.2)) s.waits.requests r.owned);
      order = r.order;
      ready = still (born _ _ _ _ _ t);
      named = λ e. cc;
      auto = refl;
      port = refl;
      peer = refl;
      fine = fine_free (is_some (pending_of s.next s.waits)) _ (ap is_some none) (asks_where_it_waits x.vars (opened_value _ _ _ _ _ t));
    }

pub may_event : (y : Session) (e : live.Event) (s : State) → In y s.sessions → FromHost e → Rests s.waits s.sessions → MaySettle y.host (set_vars e y.standing) s
may_event y e s i f r =
    let rest = at_rest s r i in
    may_turn e s.waits y s (set_vars e y.standing) refl (host_in i) (rests_but r) rest (proper_of y.standing.vars f) (fine_between e s.waits y (comes_of f) (proper_of y.standing.vars f) rest)

pub rests_frame : (s : State) (k : FrameCase) → Fits s k → AreHosts (hosts s) s.next → Rests s.waits s.sessions → InRange s.config.times → Rests (do_frame s k).state.waits (do_frame s k).state.sessions
rests_frame s (Dropped why) f a r t = r
rests_frame s (Forces q from) f a r t = r
rests_frame s (Opens q from) f a r t =
    let m = may_open s q from a r t in
    settle_rests Another (opened s q from) (fresh_standing s q from) (with_session (opened s q from) (fresh_standing s q from) s) (only_one (moved_to (moved_open s q from f.2 f.3) a) m.there) m
rests_frame s (Turns y e) f a r t =
    settle_rests (cause_of e) y.host (set_vars e y.standing) s (only_one a (host_in f.0)) (may_event y e s f.0 f.1 r)

-- ---- answers

-- the request of one is forgotten
but_forgotten : (y : Session) (w : Waits) (ys : List Session) → IsOnly y.host (map (λ z. z.host) ys) → Rests w ys → But y.host (forgotten y.host.number w) ys
but_forgotten y w ys o r = record {
  others = each_in _ ys (λ z i e. rest_with w (forgotten y.host.number w) z (forgotten-other y.host.number z.host.number w (other_number y.host _ z.host o (in_map (λ (x : Session). x.host) i) e)) (of_each (IsAtRest w) r.sessions i));
  owned = each_filter (λ p. SomeHost (map (λ z. z.host) ys) p.session) _ w.requests r.owned;
  order = order_filter _ 0 w.requests r.order;
}

pub may_answer : (y : Session) (said : Said) (s : State) → In y s.sessions → IsProper (event_of said.word) y.standing.vars → AreHosts (hosts s) s.next → Rests s.waits s.sessions → MaySettle y.host (stands said y.standing) (forget y.host s)
may_answer y said s i p a r =
    let o = only_one a (host_in i) in
    let rest = at_rest s r i in
    may_turn (event_of said.word) s.waits y (forget y.host s) (stands said y.standing) refl (host_in i) (but_forgotten y s.waits s.sessions o r) rest p
    (fine_free (is_some (pending_of y.host.number (forgotten y.host.number s.waits))) _ (ap is_some (forgotten-none y.host.number s.waits)) (asks_of (event_of said.word) s.waits y rest p))

pub rests_answer : (s : State) (k : Answered) → IsFit s k → AreHosts (hosts s) s.next → Rests s.waits s.sessions → Rests (do_answer s k).state.waits (do_answer s k).state.sessions
rests_answer s (Refused why) f a r = r
rests_answer s (Told y said) f a r =
    settle_rests AnAnswer y.host (stands said y.standing) (forget y.host s) (only_one a (host_in f.0)) (may_answer y said s f.0 f.1 a r)

-- ---- a second

but_older : (y : Session) (w : Waits) (ys : List Session) → IsOnly y.host (map (λ z. z.host) ys) → Rests w ys → But y.host (with_older y.host.number w) ys
but_older y w ys o r = record {
  others = each_in _ ys (λ z i e. rest_with w (with_older y.host.number w) z (older-other y.host.number z.host.number w (other_number y.host _ z.host o (in_map (λ (x : Session). x.host) i) e)) (of_each (IsAtRest w) r.sessions i));
  owned = owned_older y.host.number (map (λ z. z.host) ys) w.requests r.owned;
  order = order_older y.host.number 0 w.requests r.order;
}

fine_older : (y : Session) (w : Waits) → IsAtRest w y → Fine (is_some (pending_of y.host.number (with_older y.host.number w))) (settled (set (live.Second false) y.standing.vars)).vars
fine_older y w r = subst (λ (b : Bool). Fine b (settled (set (live.Second false) y.standing.vars)).vars) (sym (older_is y.host.number w)) (fine_between (live.Second false) w y settle.second tt r)

pub may_second : (k : Aged) (y : Session) (x : Standing) (s : State) → x.vars ≡ y.standing.vars → AreHosts (hosts s) s.next → In y s.sessions → Rests s.waits s.sessions →
    MaySettle y.host (set_vars (live.Second (is_given_up k)) x) (age_request k y.host s)
may_second GaveUp y x s e a i r =
    may_turn (live.Second true) s.waits y (age_request GaveUp y.host s) (set_vars (live.Second true) x) (ap (set (live.Second true)) e) (host_in i) (but_forgotten y s.waits s.sessions (only_one a (host_in i)) r) (at_rest s r i) tt
    (fine_free (is_some (pending_of y.host.number (forgotten y.host.number s.waits))) _ (ap is_some (forgotten-none y.host.number s.waits)) (asks_of (live.Second true) s.waits y (at_rest s r i) tt))
may_second Quiet y x s e a i r =
    may_turn (live.Second false) s.waits y (age_request Quiet y.host s) (set_vars (live.Second false) x) (ap (set (live.Second false)) e) (host_in i) (but_older y s.waits s.sessions (only_one a (host_in i)) r) (at_rest s r i) tt
    (fine_older y s.waits (at_rest s r i))
may_second Resend y x s e a i r =
    may_turn (live.Second false) s.waits y (age_request Resend y.host s) (set_vars (live.Second false) x) (ap (set (live.Second false)) e) (host_in i) (but_older y s.waits s.sessions (only_one a (host_in i)) r) (at_rest s r i) tt
    (fine_older y s.waits (at_rest s r i))

pub second_rests : (b : Bool) (y : Session) (s : State) → AreHosts (hosts s) s.next → In y s.sessions → Rests s.waits s.sessions → Rests (second_by b y s).state.waits (second_by b y s).state.sessions
second_rests true y s a i r = close_rests y.host s.waits s.sessions (only_one a (host_in i)) (rests_but r)
second_rests false y s a i r =
    let k : Aged = aged (pending_of y.host.number s.waits) in
    let x : Standing = record y.standing { end_while = y.standing.end_while - 1 } in
    settle_rests Another y.host (set_vars (live.Second (is_given_up k)) x) (age_request k y.host s) (only_one a (host_in i)) (may_second k y x s refl a i r)

-- what is done to one session leaves the others there
stands_so : (h : Host) (x : Standing) (z : Session) → is_at h.port h.address z.host ≡ false → stands_as h x z ≡ z
stands_so h x z e = rw e refl

in_placed : (h : Host) (x : Standing) (ys : List Session) (z : Session) → is_at h.port h.address z.host ≡ false → In z ys → In z (map (stands_as h x) ys)
in_placed h x ys z e i = subst (λ (y : Session). In y (map (stands_as h x) ys)) (stands_so h x z e) (in_map (stands_as h x) i)

pub in_closed : (h : Host) (ys : List Session) (z : Session) → is_at h.port h.address z.host ≡ false → In z ys → In z (filter (is_other h) ys)
in_closed h ys z e i = in_filter (is_other h) (by (is_at h.port h.address z.host) e) i
  where
    by : (b : Bool) → b ≡ false → not b ≡ true
    by true f = cc
    by false f = refl

in_settled : (why : Cause) (h : Host) (x : Standing) (s : State) (z : Session) → is_at h.port h.address z.host ≡ false → In z s.sessions → In z (settle_session why h x s).state.sessions
in_settled why h x s z e i =
    let w : Vars = (settled x.vars).vars in
    subst (λ (ys : List Session). In z ys) (sym (done_sessions why h (rested why x w) s w.aaa_abort w.aaa_eap_resp w.gone)) (by w.gone (in_placed h (rested why x w) s.sessions z e i))
  where
    by : (g : Bool) → {ys : List Session} → In z ys → In z (closed_by g h ys)
    by true {ys = ys} j = in_closed h ys z e j
    by false j = j

in_second_by : (b : Bool) (y : Session) (s : State) (z : Session) → is_at y.host.port y.host.address z.host ≡ false → In z s.sessions → In z (second_by b y s).state.sessions
in_second_by true y s z e i = in_closed y.host s.sessions z e i
in_second_by false y s z e i =
    let a : Aged = aged (pending_of y.host.number s.waits) in
    in_settled Another y.host (set_vars (live.Second (is_given_up a)) (record y.standing { end_while = y.standing.end_while - 1 })) (age_request a y.host s) z e i

-- one of these, at another key than the first
apart_from : (y : Session) (ys : List Session) {z : Session} → AreApart (map (λ x. x.host) (y ∷ ys)) → In z ys → is_at y.host.port y.host.address z.host ≡ false
apart_from y ys a j = none_passes (is_at y.host.port y.host.address) a.0 (host_in j)

pub each_rests : (ys : List Session) (s : State) → AllByRecursion (λ z. In z s.sessions) ys → AreApart (map (λ z. z.host) ys) → AreHosts (hosts s) s.next → Rests s.waits s.sessions →
    Rests (each_second ys s).state.waits (each_second ys s).state.sessions
each_rests [] s i p a r = r
each_rests (y ∷ ys) s i p a r =
    let t : State = (second_of y s).state in
    each_rests ys t
    (each_in (λ z. In z t.sessions) ys (λ z j. in_second_by (y.standing.end_while == 1) y s z (apart_from y ys p j) (of_each (λ x. In x s.sessions) i.1 j))) p.1
    (moved_to (moved_second y s) a) (second_rests (y.standing.end_while == 1) y s a i.0 r)

-- ---- sessions of a port are closed

pub close_all_rests : (ys : List Session) (s : State) → AllByRecursion (λ z. In z s.sessions) ys → AreApart (map (λ z. z.host) ys) → AreHosts (hosts s) s.next → Rests s.waits s.sessions →
    Rests (close_all ys s).waits (close_all ys s).sessions
close_all_rests [] s i p a r = r
close_all_rests (y ∷ ys) s i p a r =
    let t : State = close y.host s in
    close_all_rests ys t
    (each_in (λ z. In z t.sessions) ys (λ z j. in_closed y.host s.sessions z (apart_from y ys p j) (of_each (λ x. In x s.sessions) i.1 j))) p.1
    (moved_to (moved_close y.host s) a) (close_rests y.host s.waits s.sessions (only_one a (host_in i.0)) (rests_but r))

is_false : (b : Bool) → not b ≡ true → b ≡ false
is_false true e = cc
is_false false e = refl

-- who is left was there, and is none of those
left_of_all : (ys : List Session) (s : State) (z : Session) → In z (close_all ys s).sessions → In z s.sessions × ((y : Session) → In y ys → is_at y.host.port y.host.address z.host ≡ false)
left_of_all [] s z i = (i, λ y j. elim j [ ])
left_of_all (x ∷ ys) s z i =
    let k = left_of_all ys (close x.host s) z i in
    let m = in_kept (is_other x.host) s.sessions k.0 in
    (m.0, λ y j. by y j (is_false _ m.1) k.1)
  where
    by : (y : Session) → In y (x ∷ ys) → is_at x.host.port x.host.address z.host ≡ false → ((y : Session) → In y ys → is_at y.host.port y.host.address z.host ≡ false) → is_at y.host.port y.host.address z.host ≡ false
    by y here e f = e
    by y (there j) e f = f y j

-- nobody is left on the port
pub none_on : (n : ℕ) (s : State) (z : Session) → In z (close_all (on_port_of n s) s).sessions → In z s.sessions × (on_port n z ≡ false)
none_on n s z i =
    let k = left_of_all (on_port_of n s) s z i in
    (k.0, by (on_port n z) refl k.0 k.1)
  where
    by : (b : Bool) → on_port n z ≡ b → In z s.sessions → ((y : Session) → In y (on_port_of n s) → is_at y.host.port y.host.address z.host ≡ false) → on_port n z ≡ false
    by false e j f = e
    by true e j f = of_both (f z (in_filter (on_port n) e j)) (key_same z.host.port z.host.address)

-- those of a port are apart
apart_some : (f : Session → Bool) (ys : List Session) → AreApart (map (λ z. z.host) ys) → AreApart (map (λ z. z.host) (filter f ys))
apart_some f [] a = tt
apart_some f (y ∷ ys) a =
    let rest = apart_some f ys a.1 in
    let none : find (is_at y.host.port y.host.address) (map (λ z. z.host) (filter f ys)) ≡ None =
    found_host (is_at y.host.port y.host.address) (filter f ys) (none_found (λ z. is_at y.host.port y.host.address z.host) (filter f ys) (each_in _ (filter f ys) (λ z j. apart_from y ys a (in_kept f ys j).0))) in
    elim (f y) as (λ b. AreApart (map (λ z. z.host) (cond b (y ∷ filter f ys) (filter f ys)))) [ true ↦ (none, rest) | false ↦ rest ]

pub close_port_rests : (n : ℕ) (s : State) → AreHosts (hosts s) s.next → Rests s.waits s.sessions → Rests (close_port n s).waits (close_port n s).sessions
close_port_rests n s a r =
    close_all_rests (on_port_of n s) s (each_in (λ z. In z s.sessions) (on_port_of n s) (λ z j. (in_kept (on_port n) s.sessions j).0)) (apart_some (on_port n) s.sessions a.apart) a r

-- ---- dynamic requests

change_rest : (w : Waits) (y : Session) (x : Standing) (again : Bool) (period : ℕ) → 1 ≤ period → x.vars ≡ set (live.Change again period) y.standing.vars → IsAtRest w y → IsAtRest w (record y { standing = x })
change_rest w y x again period p e r =
    let v : Vars = set (live.Change again period) y.standing.vars in
    let at : IsAtRest w (record y { standing = record x { vars = v } }) = record {
      live = change_live again period p r.live r.idle;
      idle = change_idle again period p r.live r.idle;
      goes_on = r.goes_on;
      auto = r.auto;
      unasked = r.unasked;
      wanted = r.wanted;
      named = r.named;
      port = r.port;
      peer = r.peer;
      waiting = r.waiting;
    } in
    subst (λ (u : Vars). IsAtRest w (record y { standing = record x { vars = u } })) (sym e) at

-- the same variables
same_rest : (w : Waits) (y : Session) (x : Standing) → x.vars ≡ y.standing.vars → IsAtRest w y → IsAtRest w (record y { standing = x })
same_rest w y x e r =
    let at : IsAtRest w (record y { standing = record x { vars = y.standing.vars } }) = record {
      live = r.live;
      idle = r.idle;
      goes_on = r.goes_on;
      auto = r.auto;
      unasked = r.unasked;
      wanted = r.wanted;
      named = r.named;
      port = r.port;
      peer = r.peer;
      waiting = r.waiting;
    } in
    subst (λ (u : Vars). IsAtRest w (record y { standing = record x { vars = u } })) (sym e) at

vlan_vars : (vlan : Option ℕ) (x : Standing) → (vlan_or vlan x).vars ≡ x.vars
vlan_vars None x = refl
vlan_vars (Some v) x = refl

changed_rest : (s : State) (y : Session) (vlan : Option ℕ) (t : Timeout) → IsSome t → InRange s.config.times → IsAtRest s.waits y → IsAtRest s.waits (record y { standing = times_or t s (vlan_or vlan y.standing) })
changed_rest s y vlan Unset some times r = same_rest s.waits y (vlan_or vlan y.standing) (vlan_vars vlan y.standing) r
changed_rest s y vlan (End n) some times r =
    change_rest s.waits y (times_or (End n) s (vlan_or vlan y.standing)) (again_of (End n) s.config.times) (period_of (End n) s.config.times) (period_some (End n) s.config.times some times)
    (ap (set (live.Change (again_of (End n) s.config.times) (period_of (End n) s.config.times))) (vlan_vars vlan y.standing)) r
changed_rest s y vlan (Reauth n) some times r =
    change_rest s.waits y (times_or (Reauth n) s (vlan_or vlan y.standing)) (again_of (Reauth n) s.config.times) (period_of (Reauth n) s.config.times) (period_some (Reauth n) s.config.times some times)
    (ap (set (live.Change (again_of (Reauth n) s.config.times) (period_of (Reauth n) s.config.times))) (vlan_vars vlan y.standing)) r

place_rests : (y : Session) (x : Standing) (s : State) → In y s.sessions → AreHosts (hosts s) s.next → Rests s.waits s.sessions → IsAtRest s.waits (record y { standing = x }) →
    Rests (place y.host x s).waits (place y.host x s).sessions
place_rests y x s i a r k =
    let o = only_one a (host_in i) in
    let all : (z : Session) → In z s.sessions → In z.host (hosts s) = λ z j. host_in j in
    record {
      sessions = all_placed y.host x s.waits (hosts s) s.sessions o all k (others_placed y.host x s.waits s.waits (hosts s) s.sessions o all (λ m d. refl) (each_weaker (IsAtRest s.waits) _ (λ z q e. q) s.sessions r.sessions));
      owned = subst (λ (hs : List Host). AreOwned hs s.waits.requests) (sym (hosts_placed y.host x s.sessions)) r.owned;
      order = r.order;
    }

-- what is asked for can be done
abbrev pub HasTime : Action → Type 0
HasTime (Disconnect number) = Unit {0}
HasTime (Change number vlan t) = IsSome t

abbrev pub IsDoable : Judged → Type 0
IsDoable j = Acks HasTime j

pub judged_doable : (config : Config) (kept : List (List Entry)) (now : ℕ) (rows : List Row) (from : Addr) (octets : List ℕ) → IsDoable (judged config kept now rows from octets)
judged_doable config kept now rows from octets = judged_acks HasTime rows (λ r i. tt) (λ p r i e. timeout_some p) config kept now from octets

rests_disconnected : (o : Option Session) (s : State) → ((y : Session) → o ≡ Some y → In y s.sessions) → AreHosts (hosts s) s.next → Rests s.waits s.sessions → Rests (disconnected o s).state.waits (disconnected o s).state.sessions
rests_disconnected None s f a r = r
rests_disconnected (Some y) s f a r = close_rests y.host s.waits s.sessions (only_one a (host_in (f y refl))) (rests_but r)

rests_changed : (vlan : Option ℕ) (t : Timeout) (o : Option Session) (s : State) → IsSome t → InRange s.config.times → ((y : Session) → o ≡ Some y → In y s.sessions) → AreHosts (hosts s) s.next → Rests s.waits s.sessions →
    Rests (changed vlan t o s).state.waits (changed vlan t o s).state.sessions
rests_changed vlan t None s some times f a r = r
rests_changed vlan t (Some y) s some times f a r =
    place_rests y (times_or t s (vlan_or vlan y.standing)) s (f y refl) a r (changed_rest s y vlan t some times (at_rest s r (f y refl)))

numbered_in : (n : ℕ) (s : State) (y : Session) → session_numbered n s ≡ Some y → In y s.sessions
numbered_in n s y e = (in_found (λ y. y.host.number == n) s.sessions y e).0

rests_act : (k : Action) (s : State) → IsDoable (Ack k) → InRange s.config.times → AreHosts (hosts s) s.next → Rests s.waits s.sessions → Rests (act k s).state.waits (act k s).state.sessions
rests_act (Disconnect number) s d times a r = rests_disconnected (session_numbered number s) s (numbered_in number s) a r
rests_act (Change number vlan t) s d times a r = rests_changed vlan t (session_numbered number s) s d times (numbered_in number s) a r

rests_reply : (o : Option Packet) (cause : Option ℕ) (from : Addr) (s : State) → Rests s.waits s.sessions → Rests (reply_to o cause from s).state.waits (reply_to o cause from s).state.sessions
rests_reply None cause from s r = r
rests_reply (Some p) cause from s r = r

pub rests_request : (s : State) (from : Addr) (octets : List ℕ) (j : Judged) → IsDoable j → InRange s.config.times → AreHosts (hosts s) s.next → Rests s.waits s.sessions →
    Rests (do_request s from octets j).state.waits (do_request s from octets j).state.sessions
rests_request s from octets (Drop reason) d times a r = r
rests_request s from octets (Again reply) d times a r = r
rests_request s from octets (Nak cause) d times a r = rests_reply (packet_of octets) (Some cause) from s r
rests_request s from octets (Ack k) d times a r = rests_reply (packet_of octets) None from (act k s).state (rests_act k s d times a r)

-- ---- links and controls

rests_up : (b : Bool) (q : Port) (control : Control) (s : State) → Rests s.waits s.sessions → Rests (up_by b q control s).state.waits (up_by b q control s).state.sessions
rests_up true q control s r = r
rests_up false q control s r = r

rests_link_by : (was up : Bool) (q : Port) (s : State) → AreHosts (hosts s) s.next → Rests s.waits s.sessions → Rests (link_by was up q s).state.waits (link_by was up q s).state.sessions
rests_link_by true true q s a r = r
rests_link_by false false q s a r = r
rests_link_by false true q s a r = rests_up (is_auto q.control) q q.control (set_link q.conf.port true s) r
rests_link_by true false q s a r = close_port_rests q.conf.port (set_link q.conf.port false s) a r

rests_link : (up : Bool) (o : Option Port) (s : State) → AreHosts (hosts s) s.next → Rests s.waits s.sessions → Rests (do_link up o s).state.waits (do_link up o s).state.sessions
rests_link up None s a r = r
rests_link up (Some q) s a r = rests_link_by q.link up q s a r

rests_up_if : (b : Bool) (q : Port) (control : Control) (s : State) → Rests s.waits s.sessions → Rests (up_if b q control s).state.waits (up_if b q control s).state.sessions
rests_up_if true q control s r = rests_up (is_auto control) q control s r
rests_up_if false q control s r = r

rests_control_by : (b : Bool) (control : Control) (q : Port) (s : State) → AreHosts (hosts s) s.next → Rests s.waits s.sessions → Rests (control_by b control q s).state.waits (control_by b control q s).state.sessions
rests_control_by true control q s a r = r
rests_control_by false control q s a r = rests_up_if q.link q control (set_control q.conf.port control (close_port q.conf.port s)) (close_port_rests q.conf.port s a r)

rests_control : (control : Control) (o : Option Port) (s : State) → AreHosts (hosts s) s.next → Rests s.waits s.sessions → Rests (do_control control o s).state.waits (do_control control o s).state.sessions
rests_control control None s a r = r
rests_control control (Some q) s a r = rests_control_by (same_control q.control control) control q s a r

-- ---- each turn

pub rests_turn : (s : State) (e : Happening) → InRange s.config.times → AreHosts (hosts s) s.next → Rests s.waits s.sessions → Rests (turn s e).state.waits (turn s e).state.sessions
rests_turn s (Frame port octets) t a r = rests_frame s (frame_case s octets (port_of port s)) (fits_frame s port octets) a r t
rests_turn s (Radius socket octets) t a r = rests_answer s (answered_on s socket octets) (answer_fits s socket octets t) a r
rests_turn s (Dynamic from octets) t a r = rests_request s from octets (judged_on s from octets) (judged_doable s.config s.kept s.clock (map row_of s.sessions) from octets) t a r
rests_turn s Second t a r = each_rests s.sessions (guests_second (tick s)) (each_in (λ z. In z s.sessions) s.sessions (λ z i. i)) a.apart a r
rests_turn s (Link port up) t a r = rests_link up (port_of port s) s a r
rests_turn s (SetControl port control) t a r = rests_control control (port_of port s) s a r

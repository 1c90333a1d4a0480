-- Sessions have VLANs, and ports let guests in only where there is a VLAN for them.
use Rattle.std.proofs.Common.{◌≡◌, ℕ, ◌-◌, refl, subst, List, [], ◌∷◌, map, Option, None, Some, Bool, true, false}
use Rattle.std.specs.Prelude.{if◌then◌else◌, ◌==◌, ◌&&◌, Result, Ok, Err}
use Rattle.std.specs.List.{AllByRecursion}
use Rattle.std.specs.Str.Parse.{digits_value}
use Rattle.wire_defs.specs.Number.{is_number, number_in}
use Rattle.machine_vars.specs.declared.control.Control.{Control}
use Rattle.machine_vars.specs.declared.control.Times.{Times}
use Rattle.machine_defs.specs.BackendTable.{is_auto}
use Rattle.machine_defs.specs.PaeTable.{same_control}
use Rattle.machine_defs.specs.Live as live
use Rattle.settle_defs.specs.Settle.{Rest, settled}
use Rattle.wire_defs.specs.Eap.{canned}
use Rattle.radius_defs.specs.declared.Timeout.{Timeout}
use Rattle.radius_defs.specs.declared.Timeout.TheVariants as timeout
use Rattle.radius_defs.specs.declared.Tunnel.{Tunnel}
use Rattle.radius_defs.specs.declared.Tunnel.TheVariants.{Absent, Partial, Bad, Vlan}
use Rattle.radius_defs.specs.declared.Grant.{Grant}
use Rattle.radius_defs.specs.declared.Unfit.{Unfit}
use Rattle.radius_defs.specs.Attributes.{is_tagged, without_tag, vlan_of, tunnel_from, tunnel_of, timeout_of}
use Rattle.radius_defs.specs.Grant.{grant_from, grant_of}
use Rattle.radius_defs.specs.Packet.{Packet, first_value}
use Rattle.radius_defs.specs.Parsed.{packet_of}
use Rattle.switch_event.specs.declared.drop.AaaDrop.{AaaDrop}
use Rattle.aaa_defs.specs.declared.Aged.{Aged}
use Rattle.aaa_defs.specs.Waits.{pending_of}
use Rattle.aaa_defs.specs.Age.{aged}
use Rattle.aaa_defs.specs.Answer.{Taking, answered}
use Rattle.switch_event.specs.declared.config.PortConf.{PortConf}
use Rattle.wire_core.specs.declared.address.Addr.{Addr}
use Rattle.switch_event.specs.Event.{Happening, Frame, Radius, Dynamic, Second, Link, SetControl}
use Rattle.dynauth_defs.specs.declared.Action.{Action}
use Rattle.dynauth_defs.specs.declared.Action.TheVariants.{Disconnect, Change}
use Rattle.dynauth_defs.specs.Judge.{Judged, Drop, Again, Nak, Ack, vlan_in}
use Rattle.switch_defs.specs.Switch.{Port, Host, Standing, Session, State, is_port, port_of, is_at, session_numbered, is_vlan}
use Rattle.switch_defs.specs.Session.{Cause, AnAnswer, Another, stands_as, place, is_other, close, forget, rested, forget_if, ask_if, close_if, follow, settle_session}
use Rattle.switch_defs.specs.Answer.{native_of, kept_of, stands, Answered, Refused, Told, told, told_by, answered_on}
use Rattle.aaa_defs.specs.Said.{Said, Kept, said, challenged, rejected, accepted, or_else}
use Rattle.switch_defs.specs.Dynamic.{act, disconnected, changed, times_or, vlan_or, reply_to, row_of, judged_on}
use Rattle.switch_defs.specs.Turn.{FrameCase, Dropped, Forces, Opens, Turns, frame_case, do_frame, opened, fresh_standing, with_session, set_vars, cause_of, do_answer, do_request, age_request, is_given_up, second_by, second_of, each_second, guests_second, tick, close_all, close_port, on_port_of, up_by, link_by, do_link, up_if, control_by, do_control, with_link, set_link, with_control, set_control, with_forced, turn}
use Rattle.switch_defs.specs.Sound.{In, IsSound, IsOpenPort, MayHaveGuests, HasVlan, Fits, confs}
use Rattle.switch_defs.proofs.Lists.{each_filter, each_push, of_each, in_found, in_map}
use Rattle.switch_defs.proofs.Judging.{Acks, judged_acks}
use Rattle.switch_defs.proofs.Frames.{fits_frame}
use Rattle.switch_defs.proofs.Keeping.{kept_settle, kept_open, kept_answer, kept_request, kept_each, kept_mild, mild_second, mild_armed, kept_close_port, guests_map}
use Rattle.switch_defs.proofs.Valid.{valid_vlans}
use Rattle.switch_defs.specs.Fitting.{AreVlans, MayName, NamesVlan}

-- ---- guests

abbrev AreGuests : List Port → Type 0
AreGuests ps = AllByRecursion MayHaveGuests ps

guests_frame : (s : State) (k : FrameCase) → AreGuests s.ports → AreGuests (do_frame s k).state.ports
guests_frame s (Dropped why) g = g
guests_frame s (Forces q from) g = guests_map (with_forced q.conf.port _) (λ p h. record { while = h.while; shut = h.shut }) s.ports g
guests_frame s (Opens q from) g =
    (kept_settle Another (opened s q from) (fresh_standing s q from) (with_session (opened s q from) (fresh_standing s q from) s)).guests ((kept_open (opened s q from) (fresh_standing s q from) s).guests g)
guests_frame s (Turns y e) g = (kept_settle (cause_of e) y.host (set_vars e y.standing) s).guests g

guests_up : (b : Bool) (q : Port) (c : Control) (s : State) → AreGuests s.ports → AreGuests (up_by b q c s).state.ports
guests_up true q c s g = (kept_mild s (mild_armed q.conf.port s.sessions s.config.guest_wait)).guests g
guests_up false q c s g = guests_map (with_forced q.conf.port _) (λ p h. record { while = h.while; shut = h.shut }) s.ports g

guests_up_if : (b : Bool) (q : Port) (c : Control) (s : State) → AreGuests s.ports → AreGuests (up_if b q c s).state.ports
guests_up_if true q c s g = guests_up (is_auto c) q c s g
guests_up_if false q c s g = g

guests_set_link : (n : ℕ) (up : Bool) (s : State) → AreGuests s.ports → AreGuests (set_link n up s).ports
guests_set_link n up s g = guests_map (with_link n up) (λ p h. record { while = h.while; shut = h.shut }) s.ports g

guests_set_control : (n : ℕ) (c : Control) (s : State) → AreGuests s.ports → AreGuests (set_control n c s).ports
guests_set_control n c s g = guests_map (with_control n c) (λ p h. record { while = h.while; shut = h.shut }) s.ports g

guests_link_by : (was up : Bool) (q : Port) (s : State) → AreGuests s.ports → AreGuests (link_by was up q s).state.ports
guests_link_by true true q s g = g
guests_link_by false false q s g = g
guests_link_by false true q s g = guests_up (is_auto q.control) q q.control (set_link q.conf.port true s) (guests_set_link q.conf.port true s g)
guests_link_by true false q s g = (kept_close_port q.conf.port (set_link q.conf.port false s)).guests (guests_set_link q.conf.port false s g)

guests_link : (up : Bool) (o : Option Port) (s : State) → AreGuests s.ports → AreGuests (do_link up o s).state.ports
guests_link up None s g = g
guests_link up (Some q) s g = guests_link_by q.link up q s g

guests_control_by : (b : Bool) (c : Control) (q : Port) (s : State) → AreGuests s.ports → AreGuests (control_by b c q s).state.ports
guests_control_by true c q s g = g
guests_control_by false c q s g =
    guests_up_if q.link q c (set_control q.conf.port c (close_port q.conf.port s)) (guests_set_control q.conf.port c (close_port q.conf.port s) ((kept_close_port q.conf.port s).guests g))

guests_control : (c : Control) (o : Option Port) (s : State) → AreGuests s.ports → AreGuests (do_control c o s).state.ports
guests_control c None s g = g
guests_control c (Some q) s g = guests_control_by (same_control q.control c) c q s g

pub guests_turn : (s : State) (e : Happening) → AreGuests s.ports → AreGuests (turn s e).state.ports
guests_turn s (Frame port octets) g = guests_frame s (frame_case s octets (port_of port s)) g
guests_turn s (Radius socket octets) g = (kept_answer s (answered_on s socket octets)).guests g
guests_turn s (Dynamic from octets) g = (kept_request s from octets (judged_on s from octets)).guests g
guests_turn s Second g = (kept_each s.sessions (guests_second (tick s))).guests ((kept_mild (tick s) mild_second).guests g)
guests_turn s (Link port up) g = guests_link up (port_of port s) s g
guests_turn s (SetControl port c) g = guests_control c (port_of port s) s g

-- ---- VLANs

vlan_placed : (b : Bool) (x : Standing) (y : Session) → is_vlan x.vlan ≡ true → HasVlan y → HasVlan (record y { standing = if b then x else y.standing })
vlan_placed true x y v w = v
vlan_placed false x y v w = w

pub vlans_placed : (h : Host) (x : Standing) (ys : List Session) → is_vlan x.vlan ≡ true → AreVlans ys → AreVlans (map (stands_as h x) ys)
vlans_placed h x [] v a = tt
vlans_placed h x (y ∷ ys) v a = (vlan_placed (is_at h.port h.address y.host) x y v a.0, vlans_placed h x ys v a.1)

pub vlans_close : (h : Host) (s : State) → AreVlans s.sessions → AreVlans (close h s).sessions
vlans_close h s a = each_filter HasVlan (is_other h) s.sessions a

vlans_forget_if : (b : Bool) (h : Host) (s : State) → AreVlans s.sessions → AreVlans (forget_if b h s).sessions
vlans_forget_if true h s a = a
vlans_forget_if false h s a = a

vlans_ask_if : (b : Bool) (h : Host) (x : Standing) (s : State) → AreVlans s.sessions → AreVlans (ask_if b h x s).state.sessions
vlans_ask_if true h x s a = a
vlans_ask_if false h x s a = a

vlans_close_if : (b : Bool) (h : Host) (s : State) → AreVlans s.sessions → AreVlans (close_if b h s).sessions
vlans_close_if true h s a = vlans_close h s a
vlans_close_if false h s a = a

vlans_follow : (why : Cause) (h : Host) (x : Standing) (r : Rest) (s : State) → is_vlan x.vlan ≡ true → AreVlans s.sessions → AreVlans (follow why h x r s).state.sessions
vlans_follow why h x r s v a =
    let y = rested why x r.vars in
    let t : State = place h y s in
    let u : State = forget_if r.vars.aaa_abort h t in
    vlans_close_if r.vars.gone h (ask_if r.vars.aaa_eap_resp h y u).state (vlans_ask_if r.vars.aaa_eap_resp h y u (vlans_forget_if r.vars.aaa_abort h t (vlans_placed h y s.sessions v a)))

pub vlans_settle : (why : Cause) (h : Host) (x : Standing) (s : State) → is_vlan x.vlan ≡ true → AreVlans s.sessions → AreVlans (settle_session why h x s).state.sessions
vlans_settle why h x s v a = vlans_follow why h x (settled x.vars) s v a

-- the native VLAN of a port
pub native_vlan : {turns : ℕ} (s : State) (n : ℕ) (q : Port) → IsSound turns s → port_of n s ≡ Some q → is_vlan q.conf.native ≡ true
native_vlan s n q a e =
    let i : In q.conf (confs s.ports) = in_map (λ (p : Port). p.conf) (in_found (is_port n) s.ports q e).0 in
    valid_vlans s.config a.valid q.conf (subst (λ (cs : List PortConf). In q.conf cs) a.confs i)

vlans_frame : {turns : ℕ} (s : State) (k : FrameCase) → Fits s k → IsSound turns s → AreVlans (do_frame s k).state.sessions
vlans_frame s (Dropped why) f a = a.vlans
vlans_frame s (Forces q from) f a = a.vlans
vlans_frame s (Opens q from) f a =
    let h : Host = opened s q from in
    let x : Standing = fresh_standing s q from in
    let v : is_vlan q.conf.native ≡ true = native_vlan s q.conf.port q a f.0.here in
    vlans_settle Another h x (with_session h x s) v (each_push HasVlan s.sessions (record { host = h; standing = x }) a.vlans v)
vlans_frame s (Turns y e) f a = vlans_settle (cause_of e) y.host (set_vars e y.standing) s (of_each HasVlan a.vlans f.0) a.vlans

-- ---- what an answer names

abbrev IsTunnel : Tunnel → Type 0
IsTunnel (Vlan n) = is_vlan n ≡ true
IsTunnel _ = Unit {0}

tunnel_number : (a b : Bool) (n : ℕ) → (b ≡ true → is_vlan n ≡ true) → IsTunnel (vlan_of (if a && b then Some n else None))
tunnel_number true true n f = f refl
tunnel_number true false n f = tt
tunnel_number false b n f = tt

tunnel_if : (b : Bool) (t : Tunnel) → IsTunnel t → IsTunnel (if b then t else Bad)
tunnel_if true t f = f
tunnel_if false t f = tt

tunnel_within : (text : List ℕ) → IsTunnel (vlan_of (number_in 1 4094 text))
tunnel_within text = tunnel_number (is_number text) (is_vlan (digits_value 10 text)) (digits_value 10 text) (λ e. e)

is_tunnel_from : (kind medium group : Option (List ℕ)) → IsTunnel (tunnel_from kind medium group)
is_tunnel_from None None None = tt
is_tunnel_from (Some kind) (Some medium) (Some group) = tunnel_if (is_tagged 13 kind && is_tagged 6 medium) (vlan_of (number_in 1 4094 (without_tag group))) (tunnel_within (without_tag group))
is_tunnel_from None None (Some group) = tt
is_tunnel_from None (Some medium) None = tt
is_tunnel_from None (Some medium) (Some group) = tt
is_tunnel_from (Some kind) None None = tt
is_tunnel_from (Some kind) None (Some group) = tt
is_tunnel_from (Some kind) (Some medium) None = tt

is_tunnel : (p : Packet) → IsTunnel (tunnel_of p.attributes)
is_tunnel p = is_tunnel_from (first_value 64 p.attributes) (first_value 65 p.attributes) (first_value 81 p.attributes)

abbrev GrantsVlan : Result Grant Unfit → Type 0
GrantsVlan (Ok g) = is_vlan g.vlan ≡ true
GrantsVlan (Err unfit) = Unit {0}

grants_vlan : (t : Tunnel) (time : Timeout) (native : ℕ) → IsTunnel t → is_vlan native ≡ true → GrantsVlan (grant_from t time native)
grants_vlan Absent time native f v = v
grants_vlan (Vlan n) time native f v = f
grants_vlan Partial time native f v = tt
grants_vlan Bad time native f v = tt

accepted_vlan : (g : Result Grant Unfit) (t : Times) (id : ℕ) (eap : Option (List ℕ)) (k : Kept) → GrantsVlan g → is_vlan k.vlan ≡ true → is_vlan (accepted g t id eap k).kept.vlan ≡ true
accepted_vlan (Err unfit) t id eap k g v = v
accepted_vlan (Ok grant) t id eap k g v = g

vlan_if : (b : Bool) (x y : Said) → is_vlan x.kept.vlan ≡ true → is_vlan y.kept.vlan ≡ true → is_vlan (if b then x else y).kept.vlan ≡ true
vlan_if true x y v w = v
vlan_if false x y v w = w

said_vlan : (t : Taking) (native : ℕ) (times : Times) (id : ℕ) (k : Kept) → is_vlan native ≡ true → is_vlan k.vlan ≡ true → is_vlan (said t native times id k).kept.vlan ≡ true
said_vlan t native times id k n v =
    let p : Packet = t.packet in
    vlan_if (p.code == 11) (challenged p t.eap k) _ v
    (vlan_if (p.code == 2) (accepted (grant_of p.attributes native) times id t.eap k) (rejected (or_else t.eap (canned false id)) k)
    (accepted_vlan (grant_of p.attributes native) times id t.eap k (grants_vlan (tunnel_of p.attributes) (timeout_of p.attributes) native (is_tunnel p) n) v) v)

open_native : {turns : ℕ} (s : State) (n : ℕ) (o : Option Port) → IsSound turns s → port_of n s ≡ o → IsOpenPort o → is_vlan (native_of o) ≡ true
open_native s n None a e p = absurd p
open_native s n (Some q) a e p = native_vlan s n q a e

abbrev pub SaysVlan : Answered → Type 0
SaysVlan (Refused why) = Unit {0}
SaysVlan (Told y what) = is_vlan what.kept.vlan ≡ true

told_vlan : {turns : ℕ} (s : State) (t : Taking) (o : Option Session) → session_numbered t.session s ≡ o → IsSound turns s → SaysVlan (told s t o)
told_vlan s t None e a = tt
told_vlan s t (Some y) e a =
    let i = (in_found (λ y. y.host.number == t.session) s.sessions y e).0 in
    let open_port : IsOpenPort (port_of y.host.port s) = of_each (λ h. IsOpenPort (port_of h.port s)) a.placed (in_map (λ (y : Session). y.host) i) in
    said_vlan t (native_of (port_of y.host.port s)) s.config.times y.standing.vars.current_id (kept_of y.standing) (open_native s y.host.port (port_of y.host.port s) a refl open_port) (of_each HasVlan a.vlans i)

told_by_vlan : {turns : ℕ} (s : State) (r : Result Taking AaaDrop) → IsSound turns s → SaysVlan (told_by s r)
told_by_vlan s (Err drop) a = tt
told_by_vlan s (Ok t) a = told_vlan s t (session_numbered t.session s) refl a

pub answer_vlan : {turns : ℕ} (s : State) (socket : ℕ) (octets : List ℕ) → IsSound turns s → SaysVlan (answered_on s socket octets)
answer_vlan s socket octets a = told_by_vlan s (answered s.waits socket octets s.config.secret s.config.require_ma) a

vlans_answer : (s : State) (k : Answered) → SaysVlan k → AreVlans s.sessions → AreVlans (do_answer s k).state.sessions
vlans_answer s (Refused why) v a = a
vlans_answer s (Told y said) v a = vlans_settle AnAnswer y.host (stands said y.standing) (forget y.host s) v a

-- ---- what a request names

names_in : (t : Tunnel) → IsTunnel t → MayName (vlan_in t)
names_in Absent f = tt
names_in Partial f = tt
names_in Bad f = tt
names_in (Vlan n) f = f

pub request_vlan : (s : State) (from : Addr) (octets : List ℕ) → Acks NamesVlan (judged_on s from octets)
request_vlan s from octets =
    judged_acks NamesVlan (map row_of s.sessions) (λ r i. tt) (λ p r i e. names_in (tunnel_of p.attributes) (is_tunnel p)) s.config s.kept s.clock from octets

vlan_or_vlan : (vlan : Option ℕ) (x : Standing) → MayName vlan → is_vlan x.vlan ≡ true → is_vlan (vlan_or vlan x).vlan ≡ true
vlan_or_vlan None x n v = v
vlan_or_vlan (Some vlan) x n v = n

times_or_vlan : (t : Timeout) (s : State) (x : Standing) → is_vlan x.vlan ≡ true → is_vlan (times_or t s x).vlan ≡ true
times_or_vlan timeout.Unset s x v = v
times_or_vlan (timeout.End n) s x v = v
times_or_vlan (timeout.Reauth n) s x v = v

-- what a change leaves has a VLAN
pub changed_vlan : (vlan : Option ℕ) (t : Timeout) (s : State) (y : Session) → MayName vlan → HasVlan y → is_vlan (times_or t s (vlan_or vlan y.standing)).vlan ≡ true
changed_vlan vlan t s y n v = times_or_vlan t s (vlan_or vlan y.standing) (vlan_or_vlan vlan y.standing n v)

vlans_disconnected : (o : Option Session) (s : State) → AreVlans s.sessions → AreVlans (disconnected o s).state.sessions
vlans_disconnected None s a = a
vlans_disconnected (Some y) s a = vlans_close y.host s a

vlans_changed : (vlan : Option ℕ) (t : Timeout) (o : Option Session) (s : State) → MayName vlan → ((y : Session) → o ≡ Some y → HasVlan y) → AreVlans s.sessions → AreVlans (changed vlan t o s).state.sessions
vlans_changed vlan t None s n f a = a
vlans_changed vlan t (Some y) s n f a = vlans_placed y.host (times_or t s (vlan_or vlan y.standing)) s.sessions (changed_vlan vlan t s y n (f y refl)) a

vlans_act : (k : Action) (s : State) → NamesVlan k → AreVlans s.sessions → AreVlans (act k s).state.sessions
vlans_act (Disconnect number) s n a = vlans_disconnected (session_numbered number s) s a
vlans_act (Change number vlan t) s n a =
    vlans_changed vlan t (session_numbered number s) s n (λ y e. of_each HasVlan a (in_found (λ y. y.host.number == number) s.sessions y e).0) a

vlans_reply : (o : Option Packet) (cause : Option ℕ) (from : Addr) (s : State) → AreVlans s.sessions → AreVlans (reply_to o cause from s).state.sessions
vlans_reply None cause from s a = a
vlans_reply (Some p) cause from s a = a

vlans_request : (s : State) (from : Addr) (octets : List ℕ) (j : Judged) → Acks NamesVlan j → AreVlans s.sessions → AreVlans (do_request s from octets j).state.sessions
vlans_request s from octets (Drop reason) n a = a
vlans_request s from octets (Again again) n a = a
vlans_request s from octets (Nak cause) n a = vlans_reply (packet_of octets) (Some cause) from s a
vlans_request s from octets (Ack k) n a = vlans_reply (packet_of octets) None from (act k s).state (vlans_act k s n a)

-- ---- seconds, links and controls

vlans_second_by : (b : Bool) (y : Session) (s : State) → HasVlan y → AreVlans s.sessions → AreVlans (second_by b y s).state.sessions
vlans_second_by true y s v a = vlans_close y.host s a
vlans_second_by false y s v a =
    let k : Aged = aged (pending_of y.host.number s.waits) in
    vlans_settle Another y.host (set_vars (live.Second (is_given_up k)) (record y.standing { end_while = y.standing.end_while - 1 })) (age_request k y.host s) v a

pub vlans_second : (y : Session) (s : State) → HasVlan y → AreVlans s.sessions → AreVlans (second_of y s).state.sessions
vlans_second y s v a = vlans_second_by (y.standing.end_while == 1) y s v a

vlans_each : (ys : List Session) (s : State) → AreVlans ys → AreVlans s.sessions → AreVlans (each_second ys s).state.sessions
vlans_each [] s v a = a
vlans_each (y ∷ ys) s v a = vlans_each ys (second_of y s).state v.1 (vlans_second y s v.0 a)

vlans_close_all : (ys : List Session) (s : State) → AreVlans s.sessions → AreVlans (close_all ys s).sessions
vlans_close_all [] s a = a
vlans_close_all (y ∷ ys) s a = vlans_close_all ys (close y.host s) (vlans_close y.host s a)

vlans_close_port : (n : ℕ) (s : State) → AreVlans s.sessions → AreVlans (close_port n s).sessions
vlans_close_port n s a = vlans_close_all (on_port_of n s) s a

vlans_up : (b : Bool) (q : Port) (c : Control) (s : State) → AreVlans s.sessions → AreVlans (up_by b q c s).state.sessions
vlans_up true q c s a = a
vlans_up false q c s a = a

vlans_up_if : (b : Bool) (q : Port) (c : Control) (s : State) → AreVlans s.sessions → AreVlans (up_if b q c s).state.sessions
vlans_up_if true q c s a = vlans_up (is_auto c) q c s a
vlans_up_if false q c s a = a

vlans_link_by : (was up : Bool) (q : Port) (s : State) → AreVlans s.sessions → AreVlans (link_by was up q s).state.sessions
vlans_link_by true true q s a = a
vlans_link_by false false q s a = a
vlans_link_by false true q s a = vlans_up (is_auto q.control) q q.control (set_link q.conf.port true s) a
vlans_link_by true false q s a = vlans_close_port q.conf.port (set_link q.conf.port false s) a

vlans_link : (up : Bool) (o : Option Port) (s : State) → AreVlans s.sessions → AreVlans (do_link up o s).state.sessions
vlans_link up None s a = a
vlans_link up (Some q) s a = vlans_link_by q.link up q s a

vlans_control_by : (b : Bool) (c : Control) (q : Port) (s : State) → AreVlans s.sessions → AreVlans (control_by b c q s).state.sessions
vlans_control_by true c q s a = a
vlans_control_by false c q s a = vlans_up_if q.link q c (set_control q.conf.port c (close_port q.conf.port s)) (vlans_close_port q.conf.port s a)

vlans_control : (c : Control) (o : Option Port) (s : State) → AreVlans s.sessions → AreVlans (do_control c o s).state.sessions
vlans_control c None s a = a
vlans_control c (Some q) s a = vlans_control_by (same_control q.control c) c q s a

pub vlans_turn : {turns : ℕ} (s : State) (e : Happening) → IsSound turns s → AreVlans (turn s e).state.sessions
vlans_turn s (Frame port octets) a = vlans_frame s (frame_case s octets (port_of port s)) (fits_frame s port octets) a
vlans_turn s (Radius socket octets) a = vlans_answer s (answered_on s socket octets) (answer_vlan s socket octets a) a.vlans
vlans_turn s (Dynamic from octets) a = vlans_request s from octets (judged_on s from octets) (request_vlan s from octets) a.vlans
vlans_turn s Second a = vlans_each s.sessions (guests_second (tick s)) a.vlans a.vlans
vlans_turn s (Link port up) a = vlans_link up (port_of port s) s a.vlans
vlans_turn s (SetControl port c) a = vlans_control c (port_of port s) s a.vlans

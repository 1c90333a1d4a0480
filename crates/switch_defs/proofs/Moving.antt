-- What each event does to the list of sessions.
use Rattle.std.proofs.Common.{◌≡◌, ℕ, suc, ◌+◌, ◌-◌, ◌≤◌, refl, sym, ap, subst, List, [], ◌∷◌, ◌++◌, length, map, filter, Option, None, Some, Bool, true, false, arith}
use Rattle.std.specs.Prelude.{nat_le, ◌==◌}
use Rattle.std.proofs.lemmas.Bool.Decides.{nat_tests}
use Rattle.machine_vars.specs.declared.control.Control.{Control}
use Rattle.machine_defs.specs.BackendTable.{is_auto}
use Rattle.machine_defs.specs.PaeTable.{same_control}
use Rattle.settle_defs.specs.Settle.{Rest, settled}
use Rattle.radius_defs.specs.Packet.{Packet}
use Rattle.radius_defs.specs.Parsed.{packet_of}
use Rattle.radius_defs.specs.declared.Timeout.{Timeout}
use Rattle.aaa_defs.specs.declared.Aged.{Aged}
use Rattle.aaa_defs.specs.Waits.{pending_of}
use Rattle.aaa_defs.specs.Age.{aged}
use Rattle.wire_core.specs.declared.address.Addr.{Addr}
use Rattle.switch_event.specs.Event.{Happening, Frame, Radius, Dynamic, Second, Link, SetControl}
use Rattle.dynauth_defs.specs.declared.Action.{Action}
use Rattle.dynauth_defs.specs.declared.Action.TheVariants.{Disconnect, Change}
use Rattle.dynauth_defs.specs.Judge.{Judged, Drop, Again, Nak, Ack}
use Rattle.switch_defs.specs.Switch.{Port, Host, Standing, Session, State, hosts, port_of, session_at, session_numbered, is_at, on_port, most_hosts}
use Rattle.machine_defs.specs.Live as live
use Rattle.switch_defs.specs.Session.{Cause, AnAnswer, Another, place, close, rested, forget, forget_if, ask_if, close_if, follow, settle_session}
use Rattle.switch_defs.specs.Answer.{stands, Answered, Refused, Told, answered_on}
use Rattle.switch_defs.specs.Dynamic.{act, disconnected, changed, reply_to, judged_on}
use Rattle.switch_defs.specs.Turn.{FrameCase, Dropped, Forces, Opens, Turns, frame_case, do_frame, on_port_of, is_full, opened, fresh_standing, with_session, set_vars, cause_of, is_given_up, do_answer, do_request, age_request, second_by, second_of, each_second, tick, guests_second, close_all, close_port, up_by, link_by, do_link, up_if, control_by, do_control, set_link, set_control, turn}
use Rattle.switch_defs.specs.Sound.{host_on, AreHosts, Fits}
use Rattle.switch_defs.proofs.Hosts.{and_on, found_host, as_many_on, moves_hosts}
use Rattle.switch_defs.specs.Moving.{stays, drops, opens}
use Rattle.switch_defs.specs.Moving.{Moves, Moved}
use Rattle.switch_defs.proofs.Resting.{hosts_placed, is_other_host, hosts_closed}
use Rattle.switch_defs.proofs.Frames.{fits_frame}

pub unmoved : {s : State} → Moved s s
unmoved = record { by = stays }

pub then_moved : {s t u : State} → Moved s t → Moved t u → Moved s u
then_moved p q = record { by = and_on p.by q.by }

pub moved_to : {s t : State} → Moved s t → AreHosts (hosts s) s.next → AreHosts (hosts t) t.next
moved_to m a = moves_hosts m.by a

same_hosts : (hs gs : List Host) (n : ℕ) → gs ≡ hs → Moves hs n gs n
same_hosts hs gs n e = subst (λ (x : List Host). Moves hs n x n) (sym e) stays

pub moved_place : (h : Host) (x : Standing) (s : State) → Moved s (place h x s)
moved_place h x s = record { by = same_hosts _ _ s.next (hosts_placed h x s.sessions) }

pub hosts_pushed : (h : Host) (x : Standing) (ys : List Session) → map (λ y. y.host) (ys ++ record { host = h; standing = x } ∷ []) ≡ map (λ y. y.host) ys ++ h ∷ []
hosts_pushed h x [] = refl
hosts_pushed h x (y ∷ ys) = ap (λ hs. y.host ∷ hs) (hosts_pushed h x ys)

pub moved_close : (h : Host) (s : State) → Moved s (close h s)
moved_close h s = record { by = drops (is_other_host h) (same_hosts _ _ s.next (hosts_closed h s.sessions)) }

moved_forget_if : (b : Bool) (h : Host) (s : State) → Moved s (forget_if b h s)
moved_forget_if true h s = record { by = stays }
moved_forget_if false h s = unmoved

moved_ask_if : (b : Bool) (h : Host) (x : Standing) (s : State) → Moved s (ask_if b h x s).state
moved_ask_if true h x s = record { by = stays }
moved_ask_if false h x s = unmoved

moved_close_if : (b : Bool) (h : Host) (s : State) → Moved s (close_if b h s)
moved_close_if true h s = moved_close h s
moved_close_if false h s = unmoved

pub moved_follow : (why : Cause) (h : Host) (x : Standing) (r : Rest) (s : State) → Moved s (follow why h x r s).state
moved_follow why h x r s =
    then_moved (moved_place h (rested why x r.vars) s) (then_moved (moved_forget_if r.vars.aaa_abort h _) (then_moved (moved_ask_if r.vars.aaa_eap_resp h (rested why x r.vars) _) (moved_close_if r.vars.gone h _)))

pub moved_settle : (why : Cause) (h : Host) (x : Standing) (s : State) → Moved s (settle_session why h x s).state
moved_settle why h x s = moved_follow why h x (settled x.vars) s

-- ---- each event

room_left : (n : ℕ) (s : State) → is_full n s ≡ false → suc (length (filter (host_on n) (hosts s))) ≤ most_hosts
room_left n s e =
    let l : suc (length (filter (on_port n) s.sessions)) ≤ most_hosts = below (length (filter (on_port n) s.sessions)) e in
    subst (λ (k : ℕ). suc k ≤ most_hosts) (sym (as_many_on n s.sessions)) l
  where
    below : (k : ℕ) → nat_le most_hosts k ≡ false → suc k ≤ most_hosts
    below k e = grind (arith, nat_tests)

pub moved_open : (s : State) (q : Port) (from : List ℕ) → session_at q.conf.port from s ≡ None → is_full q.conf.port s ≡ false → Moved s (with_session (opened s q from) (fresh_standing s q from) s)
moved_open s q from free room = record {
  by = opens q.conf.port from (found_host (is_at q.conf.port from) s.sessions free) (room_left q.conf.port s room)
      (same_hosts _ _ (s.next + 1) (hosts_pushed (opened s q from) (fresh_standing s q from) s.sessions));
}

moved_frame : (s : State) (k : FrameCase) → Fits s k → Moved s (do_frame s k).state
moved_frame s (Dropped why) f = unmoved
moved_frame s (Forces q from) f = record { by = stays }
moved_frame s (Opens q from) f = then_moved (moved_open s q from f.2 f.3) (moved_settle Another (opened s q from) (fresh_standing s q from) (with_session (opened s q from) (fresh_standing s q from) s))
moved_frame s (Turns y e) f = moved_settle (cause_of e) y.host (set_vars e y.standing) s

moved_answer : (s : State) (a : Answered) → Moved s (do_answer s a).state
moved_answer s (Refused why) = unmoved
moved_answer s (Told y said) = then_moved (record { by = stays }) (moved_settle AnAnswer y.host (stands said y.standing) (forget y.host s))

moved_disconnected : (o : Option Session) (s : State) → Moved s (disconnected o s).state
moved_disconnected None s = unmoved
moved_disconnected (Some y) s = moved_close y.host s

moved_changed : (vlan : Option ℕ) (timeout : Timeout) (o : Option Session) (s : State) → Moved s (changed vlan timeout o s).state
moved_changed vlan timeout None s = unmoved
moved_changed vlan timeout (Some y) s = moved_place y.host _ s

pub moved_act : (a : Action) (s : State) → Moved s (act a s).state
moved_act (Disconnect number) s = moved_disconnected (session_numbered number s) s
moved_act (Change number vlan timeout) s = moved_changed vlan timeout (session_numbered number s) s

moved_reply : (o : Option Packet) (cause : Option ℕ) (from : Addr) (s : State) → Moved s (reply_to o cause from s).state
moved_reply None cause from s = unmoved
moved_reply (Some p) cause from s = record { by = stays }

moved_request : (s : State) (from : Addr) (octets : List ℕ) (j : Judged) → Moved s (do_request s from octets j).state
moved_request s from octets (Drop reason) = unmoved
moved_request s from octets (Again again) = unmoved
moved_request s from octets (Nak cause) = moved_reply (packet_of octets) (Some cause) from s
moved_request s from octets (Ack action) = then_moved (moved_act action s) (moved_reply (packet_of octets) None from _)

pub moved_age : (a : Aged) (h : Host) (s : State) → Moved s (age_request a h s)
moved_age a h s = record { by = stays }

moved_second_by : (b : Bool) (y : Session) (s : State) → Moved s (second_by b y s).state
moved_second_by true y s = moved_close y.host s
moved_second_by false y s =
    let a : Aged = aged (pending_of y.host.number s.waits) in
    then_moved (moved_age a y.host s) (moved_settle Another y.host (set_vars (live.Second (is_given_up a)) (record y.standing { end_while = y.standing.end_while - 1 })) (age_request a y.host s))

pub moved_second : (y : Session) (s : State) → Moved s (second_of y s).state
moved_second y s = moved_second_by (y.standing.end_while == 1) y s

pub moved_each : (ys : List Session) (s : State) → Moved s (each_second ys s).state
moved_each [] s = unmoved
moved_each (y ∷ ys) s = then_moved (moved_second y s) (moved_each ys _)

pub moved_close_all : (ys : List Session) (s : State) → Moved s (close_all ys s)
moved_close_all [] s = unmoved
moved_close_all (y ∷ ys) s = then_moved (moved_close y.host s) (moved_close_all ys (close y.host s))

pub moved_close_port : (n : ℕ) (s : State) → Moved s (close_port n s)
moved_close_port n s = then_moved (moved_close_all (on_port_of n s) s) (record { by = stays })

moved_up : (b : Bool) (q : Port) (control : Control) (s : State) → Moved s (up_by b q control s).state
moved_up true q control s = record { by = stays }
moved_up false q control s = record { by = stays }

moved_link_by : (was up : Bool) (q : Port) (s : State) → Moved s (link_by was up q s).state
moved_link_by true true q s = unmoved
moved_link_by false false q s = unmoved
moved_link_by false true q s = then_moved (record { by = stays }) (moved_up (is_auto q.control) q q.control (set_link q.conf.port true s))
moved_link_by true false q s = then_moved (record { by = stays }) (moved_close_port q.conf.port (set_link q.conf.port false s))

moved_link : (up : Bool) (o : Option Port) (s : State) → Moved s (do_link up o s).state
moved_link up None s = unmoved
moved_link up (Some q) s = moved_link_by q.link up q s

moved_up_if : (b : Bool) (q : Port) (control : Control) (s : State) → Moved s (up_if b q control s).state
moved_up_if true q control s = moved_up (is_auto control) q control s
moved_up_if false q control s = unmoved

moved_control_by : (b : Bool) (control : Control) (q : Port) (s : State) → Moved s (control_by b control q s).state
moved_control_by true control q s = unmoved
moved_control_by false control q s = then_moved (moved_close_port q.conf.port s) (then_moved (record { by = stays }) (moved_up_if q.link q control (set_control q.conf.port control (close_port q.conf.port s))))

moved_control : (control : Control) (o : Option Port) (s : State) → Moved s (do_control control o s).state
moved_control control None s = unmoved
moved_control control (Some q) s = moved_control_by (same_control q.control control) control q s

pub moved_turn : (s : State) (e : Happening) → Moved s (turn s e).state
moved_turn s (Frame port octets) = moved_frame s (frame_case s octets (port_of port s)) (fits_frame s port octets)
moved_turn s (Radius socket octets) = moved_answer s (answered_on s socket octets)
moved_turn s (Dynamic from octets) = moved_request s from octets (judged_on s from octets)
moved_turn s Second = then_moved (record { by = stays }) (moved_each s.sessions (guests_second (tick s)))
moved_turn s (Link port up) = moved_link up (port_of port s) s
moved_turn s (SetControl port control) = moved_control control (port_of port s) s

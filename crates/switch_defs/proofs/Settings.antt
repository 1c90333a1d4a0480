-- No turn changes the settings, nor for how many clients replies are kept.
use Rattle.std.proofs.Common.{◌≡◌, refl, ◌∙◌, length, Option, None, Some, Bool, true, false}
use Rattle.machine_vars.specs.declared.control.Control.{Control}
use Rattle.machine_defs.specs.BackendTable.{is_auto}
use Rattle.machine_defs.specs.PaeTable.{same_control}
use Rattle.switch_event.specs.Event.{Happening, Frame, Radius, Dynamic, Second, Link, SetControl}
use Rattle.switch_defs.specs.Switch.{Port, State, port_of}
use Rattle.switch_defs.specs.Session.{Another}
use Rattle.switch_defs.specs.Answer.{answered_on}
use Rattle.switch_defs.specs.Dynamic.{judged_on}
use Rattle.switch_defs.specs.Turn.{FrameCase, Dropped, Forces, Opens, Turns, frame_case, do_frame, opened, fresh_standing, with_session, set_vars, cause_of, guests_second, tick, close_port, up_by, up_if, link_by, do_link, control_by, do_control, set_link, set_control, turn}
use Rattle.switch_defs.proofs.Keeping.{kept_settle, kept_answer, kept_request, kept_each, kept_close_port}

config_frame : (s : State) (k : FrameCase) → (do_frame s k).state.config ≡ s.config
config_frame s (Dropped why) = refl
config_frame s (Forces q from) = refl
config_frame s (Opens q from) = (kept_settle Another (opened s q from) (fresh_standing s q from) (with_session (opened s q from) (fresh_standing s q from) s)).config
config_frame s (Turns y e) = (kept_settle (cause_of e) y.host (set_vars e y.standing) s).config

config_up : (b : Bool) (q : Port) (c : Control) (s : State) → (up_by b q c s).state.config ≡ s.config
config_up true q c s = refl
config_up false q c s = refl

config_up_if : (b : Bool) (q : Port) (c : Control) (s : State) → (up_if b q c s).state.config ≡ s.config
config_up_if true q c s = config_up (is_auto c) q c s
config_up_if false q c s = refl

config_link_by : (was up : Bool) (q : Port) (s : State) → (link_by was up q s).state.config ≡ s.config
config_link_by true true q s = refl
config_link_by false false q s = refl
config_link_by false true q s = config_up (is_auto q.control) q q.control (set_link q.conf.port true s)
config_link_by true false q s = (kept_close_port q.conf.port (set_link q.conf.port false s)).config

config_link : (up : Bool) (o : Option Port) (s : State) → (do_link up o s).state.config ≡ s.config
config_link up None s = refl
config_link up (Some q) s = config_link_by q.link up q s

config_control_by : (b : Bool) (c : Control) (q : Port) (s : State) → (control_by b c q s).state.config ≡ s.config
config_control_by true c q s = refl
config_control_by false c q s = config_up_if q.link q c (set_control q.conf.port c (close_port q.conf.port s)) ∙ (kept_close_port q.conf.port s).config

config_control : (c : Control) (o : Option Port) (s : State) → (do_control c o s).state.config ≡ s.config
config_control c None s = refl
config_control c (Some q) s = config_control_by (same_control q.control c) c q s

pub config_turn : (s : State) (e : Happening) → (turn s e).state.config ≡ s.config
config_turn s (Frame port octets) = config_frame s (frame_case s octets (port_of port s))
config_turn s (Radius socket octets) = (kept_answer s (answered_on s socket octets)).config
config_turn s (Dynamic from octets) = (kept_request s from octets (judged_on s from octets)).config
config_turn s Second = (kept_each s.sessions (guests_second (tick s))).config
config_turn s (Link port up) = config_link up (port_of port s) s
config_turn s (SetControl port c) = config_control c (port_of port s) s

-- ---- replies

replies_frame : (s : State) (k : FrameCase) → length (do_frame s k).state.kept ≡ length s.kept
replies_frame s (Dropped why) = refl
replies_frame s (Forces q from) = refl
replies_frame s (Opens q from) = (kept_settle Another (opened s q from) (fresh_standing s q from) (with_session (opened s q from) (fresh_standing s q from) s)).replies
replies_frame s (Turns y e) = (kept_settle (cause_of e) y.host (set_vars e y.standing) s).replies

replies_up : (b : Bool) (q : Port) (c : Control) (s : State) → length (up_by b q c s).state.kept ≡ length s.kept
replies_up true q c s = refl
replies_up false q c s = refl

replies_up_if : (b : Bool) (q : Port) (c : Control) (s : State) → length (up_if b q c s).state.kept ≡ length s.kept
replies_up_if true q c s = replies_up (is_auto c) q c s
replies_up_if false q c s = refl

replies_link_by : (was up : Bool) (q : Port) (s : State) → length (link_by was up q s).state.kept ≡ length s.kept
replies_link_by true true q s = refl
replies_link_by false false q s = refl
replies_link_by false true q s = replies_up (is_auto q.control) q q.control (set_link q.conf.port true s)
replies_link_by true false q s = (kept_close_port q.conf.port (set_link q.conf.port false s)).replies

replies_link : (up : Bool) (o : Option Port) (s : State) → length (do_link up o s).state.kept ≡ length s.kept
replies_link up None s = refl
replies_link up (Some q) s = replies_link_by q.link up q s

replies_control_by : (b : Bool) (c : Control) (q : Port) (s : State) → length (control_by b c q s).state.kept ≡ length s.kept
replies_control_by true c q s = refl
replies_control_by false c q s = replies_up_if q.link q c (set_control q.conf.port c (close_port q.conf.port s)) ∙ (kept_close_port q.conf.port s).replies

replies_control : (c : Control) (o : Option Port) (s : State) → length (do_control c o s).state.kept ≡ length s.kept
replies_control c None s = refl
replies_control c (Some q) s = replies_control_by (same_control q.control c) c q s

pub replies_turn : (s : State) (e : Happening) → length (turn s e).state.kept ≡ length s.kept
replies_turn s (Frame port octets) = replies_frame s (frame_case s octets (port_of port s))
replies_turn s (Radius socket octets) = (kept_answer s (answered_on s socket octets)).replies
replies_turn s (Dynamic from octets) = (kept_request s from octets (judged_on s from octets)).replies
replies_turn s Second = (kept_each s.sessions (guests_second (tick s))).replies
replies_turn s (Link port up) = replies_link up (port_of port s) s
replies_turn s (SetControl port c) = replies_control c (port_of port s) s

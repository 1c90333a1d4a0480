-- What is authorised, and what is decided on a data frame.
use Rattle.std.specs.Prelude.{ℕ, ◌==◌, ◌&&◌, not, Bool, if◌then◌else◌, List, [], ◌∷◌, Option, None, Some, Result, Ok, Err}
use Rattle.machine_vars.specs.declared.control.Control.{Control}
use Rattle.machine_vars.specs.declared.control.Control.TheVariants.{Auto, ForceAuth, ForceUnauth}
use Rattle.wire_defs.specs.declared.EthDrop.{EthDrop}
use Rattle.wire_defs.specs.declared.EthDrop.TheVariants.{Runt as IsRunt, Giant as IsGiant}
use Rattle.wire_defs.specs.Ethernet.{Frame, eth_of, source, is_group, is_reserved, eapol_kind, tag_kind}
use Rattle.switch_event.specs.declared.config.PortConf.{PortConf}
use Rattle.switch_event.specs.declared.decision.Decision.{Decision}
use Rattle.switch_event.specs.declared.decision.Decision.TheVariants.{Forward, Drop}
use Rattle.switch_event.specs.declared.decision.Drop9.{Drop9}
use Rattle.switch_event.specs.declared.decision.Drop9.TheVariants.{Runt, Giant, Control as IsControl, Reserved, Tagged, GroupSource, Down, Closed, Unauthorised}
use Rattle.switch_defs.specs.Switch.{Port, Session, State, port_of, session_at}

-- a session's number, and the VLAN that its host is forwarded into
pub record Right : Type 0 where
  pub session : ℕ
  pub vlan : ℕ

-- the VLAN of hosts that the server rejected; 0 is none
abbrev pub restricted_of : Option Port → ℕ
restricted_of None = 0
restricted_of (Some p) = p.conf.restricted

-- where the host's port is Authorized (IEEE Std 802.1X-2004, 8.2.2.2) its own VLAN; where the server rejected it the restricted one
abbrev pub right_by : (restricted : ℕ) → Session → Option Right
right_by restricted y =
    if y.standing.vars.auth_port_status then Some (record { session = y.host.number; vlan = y.standing.vlan })
    else if y.standing.restricted && not (restricted == 0) then Some (record { session = y.host.number; vlan = restricted })
    else None

abbrev pub right_of : (restricted : ℕ) → Option Session → Option Right
right_of restricted None = None
right_of restricted (Some y) = right_by restricted y

-- what a source is authorised for
abbrev pub authorised : State → ℕ → List ℕ → Option Right
authorised s port address = right_of (restricted_of (port_of port s)) (session_at port address s)

-- what a decision reads of a port
pub record PortView : Type 0 where
  pub conf : PortConf
  pub link : Bool
  pub control : Control
  pub guest_open : Bool

abbrev pub view : Port → PortView
view p = record { conf = p.conf; link = p.link; control = p.control; guest_open = p.guest_open }

abbrev pub view_of : Option Port → Option PortView
view_of None = None
view_of (Some p) = Some (view p)

abbrev pub by_right : PortView → Option Right → Decision
by_right p None = if p.guest_open then Forward 0 p.conf.guest else Drop Unauthorised
by_right p (Some r) = Forward r.session r.vlan

abbrev pub by_control : Control → PortView → Option Right → Decision
by_control ForceUnauth p r = Drop Closed
by_control ForceAuth p r = Forward 0 p.conf.native
by_control Auto p r = by_right p r

abbrev pub by_port : Option PortView → Option Right → Decision
by_port None r = Drop Down
by_port (Some p) r = if p.link then by_control p.control p r else Drop Down

-- what is looked at on the frame itself, in order; true where it is dropped
abbrev pub checks : Frame → List (Bool × Drop9)
checks frame =
    (frame.kind == eapol_kind, IsControl)  -- IEEE Std 802.1X-2004, 7.2
    ∷ (is_reserved frame.to, Reserved)  -- IEEE Std 802.1D, 7.12.6
    ∷ (frame.kind == tag_kind, Tagged)  -- IEEE Std 802.1Q, 9.6
    ∷ (is_group frame.source, GroupSource)  -- IEEE Std 802.3, 3.2.3
    ∷ []

abbrev pub first_drop : List (Bool × Drop9) → Option Drop9
first_drop [] = None
first_drop (check ∷ rest) = if check.0 then Some check.1 else first_drop rest

-- the first line that applies, by the fields of a frame and by what is known of the port and of the source
abbrev pub by_checks : Option Drop9 → Option PortView → Option Right → Decision
by_checks None p r = by_port p r
by_checks (Some reason) p r = Drop reason

abbrev pub by_fields : Frame → Option PortView → Option Right → Decision
by_fields frame p r = by_checks (first_drop (checks frame)) p r

abbrev pub by_frame : Result Frame EthDrop → Option PortView → Option Right → Decision
by_frame (Err IsRunt) p r = Drop Runt
by_frame (Err IsGiant) p r = Drop Giant
by_frame (Ok frame) p r = by_fields frame p r

abbrev pub decide_by : List ℕ → Option PortView → Option Right → Decision
decide_by octets p r = by_frame (eth_of octets) p r

abbrev pub decide : State → ℕ → List ℕ → Decision
decide s port octets = decide_by octets (view_of (port_of port s)) (authorised s port (source octets))

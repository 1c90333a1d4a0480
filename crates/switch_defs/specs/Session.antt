-- What is done to one session, and to its request to the server.
use Rattle.std.specs.Prelude.{ℕ, ◌+◌, ◌==◌, ◌&&◌, ◌||◌, not, Bool, true, false, if◌then◌else◌, List, [], ◌∷◌, ◌++◌, map, filter}
use Rattle.std.specs.List.{list_any}
use Rattle.machine_vars.specs.declared.vars.Vars.{Vars}
use Rattle.machine_vars.specs.declared.states.Pae.{Pae}
use Rattle.machine_vars.specs.declared.states.Pae.TheVariants.{Held}
use Rattle.machine_defs.specs.BackendTable.{is_auto}
use Rattle.machine_defs.specs.Live.{cleared}
use Rattle.settle_defs.specs.Settle.{Rest, settled}
use Rattle.aaa_defs.specs.Request.{Ask, authenticator, request_octets}
use Rattle.aaa_defs.specs.Waits.{Pending, next_name, socket_of, identifier_of, with_request, forgotten}
use Rattle.switch_event.specs.Sent.{Sent, ToServer}
use Rattle.switch_event.specs.Frames.{frames}
use Rattle.switch_defs.specs.Switch.{Port, Host, Standing, Session, State, Did, only, own_address, is_port, is_at, on_port}

-- the same session, with another standing
abbrev pub stands_as : Host → Standing → Session → Session
stands_as h x y = record y { standing = if is_at h.port h.address y.host then x else y.standing }

abbrev pub place : Host → Standing → State → State
place h x s = record s { sessions = map (stands_as h x) s.sessions }

-- the host's request to the server is forgotten
abbrev pub forget : Host → State → State
forget h s = record s { waits = forgotten h.number s.waits }

-- ---- guests

-- guests may be waited for: an Auto port whose link is up, with a guest VLAN and without a session
abbrev pub may_arm : ℕ → List Session → Port → Bool
may_arm n sessions p = is_port n p && is_auto p.control && p.link && not (p.conf.guest == 0) && not (list_any (on_port n) sessions)

abbrev pub armed : ℕ → List Session → (wait : ℕ) → Port → Port
armed n sessions wait p = record p { guest_while = if may_arm n sessions p then wait else p.guest_while }

-- from now on nobody may answer for so long before guests are let in
abbrev pub arm : ℕ → State → State
arm n s = record s { ports = map (armed n s.sessions s.config.guest_wait) s.ports }

abbrev pub unguested : ℕ → Port → Port
unguested n p = record p { guest_while = if is_port n p then 0 else p.guest_while; guest_open = if is_port n p then false else p.guest_open }

-- a port lets no guests in, and does not wait to
abbrev pub no_guests : ℕ → State → State
no_guests n s = record s { ports = map (unguested n) s.ports }

-- ---- the end of a session

abbrev pub is_other : Host → Session → Bool
is_other h y = not (is_at h.port h.address y.host)

-- the session is closed, its request forgotten, and its port armed
abbrev pub close : Host → State → State
close h s = arm h.port (record (forget h s) { sessions = filter (is_other h) s.sessions })

-- ---- what is sent

-- what the server is asked about a host (RFC 3580, section 3)
abbrev pub question : State → Host → Standing → Ask
question s h x =
    record { port = h.port; own = own_address s h.port; peer = h.address; identity = x.vars.identity.items; state = x.state; eap = x.vars.eap_resp_data.items }

abbrev pub new_request : State → Host → Standing → Pending
new_request s h x = record {
  session = h.number;
  name = next_name s.waits;
  auth = authenticator s.config.seed s.asked;
  age = 0;
  octets = request_octets s.config (question s h x) h.number (identifier_of (next_name s.waits)) (authenticator s.config.seed s.asked);
}

abbrev pub to_server : Pending → Sent
to_server p = ToServer (socket_of p.name) p.octets

-- an Access-Request is made and sent
abbrev pub ask : Host → Standing → State → Did
ask h x s = record {
  state = record s { waits = with_request (new_request s h x) s.waits; asked = s.asked + 1 };
  sent = to_server (new_request s h x) ∷ [];
}

-- ---- settling

-- what a session is settled after
pub data Cause : Type 0 where
  AnAnswer : Cause
  ALogoff : Cause
  Another : Cause

abbrev pub is_held : Pae → Bool
is_held Held = true
is_held _ = false

-- whether the host is one that the server rejected: an answer that leaves it HELD says so, until it is Authorized or logs off
abbrev pub mark : Cause → Vars → Bool → Bool
mark AnAnswer v was = is_held v.pae || (not v.auth_port_status && was)
mark ALogoff v was = false
mark Another v was = not v.auth_port_status && was

-- the standing after a settling that left these variables; a host that is not Authorized has no end to wait for
abbrev pub rested : Cause → Standing → Vars → Standing
rested why x v =
    record x { vars = cleared v; end_while = if v.auth_port_status then x.end_while else 0; restricted = mark why v x.restricted }

abbrev pub forget_if : Bool → Host → State → State
forget_if true h s = forget h s
forget_if false h s = s

abbrev pub ask_if : Bool → Host → Standing → State → Did
ask_if true h x s = ask h x s
ask_if false h x s = only s

abbrev pub close_if : Bool → Host → State → State
close_if true h s = close h s
close_if false h s = s

-- what follows from a settling (RFC 4137, 7.1): the standing is kept; where aaaAbort holds the request is forgotten; where aaaEapResp
-- holds a new one is sent; where the host was given up its session is closed
abbrev pub follow : Cause → Host → Standing → Rest → State → Did
follow why h x r s =
    let d = ask_if r.vars.aaa_eap_resp h (rested why x r.vars) (forget_if r.vars.aaa_abort h (place h (rested why x r.vars) s)) in
    record { state = close_if r.vars.gone h d.state; sent = frames r.vars r.packets ++ d.sent }

-- a session is settled with this standing
abbrev pub settle_session : Cause → Host → Standing → State → Did
settle_session why h x s = follow why h x (settled x.vars) s

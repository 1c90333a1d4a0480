-- What a call on a session does: it settles, and what is wanted of the server's side is told.
use Rattle.std.specs.Prelude.{◌≡◌, ℕ, ◌-◌, ◌==◌, Bool, true, false, not, ◌&&◌, List, None}
use Rattle.machine_vars.specs.declared.control.Control.TheVariants.{Auto}
use Rattle.machine_vars.specs.declared.control.Times.{Times}
use Rattle.machine_vars.specs.declared.states.EapState.TheVariants.{Success2}
use Rattle.machine_vars.specs.declared.vars.Vars.{Vars}
use Rattle.machine_vars.specs.declared.wants.Wants.{Wants}
use Rattle.machine_defs.specs.Live as live
use Rattle.machine_defs.specs.Live.{fresh}
use Rattle.settle_defs.specs.Settle.{settled}
use Rattle.switch_event.specs.Frames.{frames}
use Rattle.out_tray.specs.Tray.{Things}
use Rattle.typed_session.specs.Seconds as host
use Rattle.typed_session.specs.Follows.{with_sent}
use Rattle.switch_defs.specs.Switch.{Standing}
use Rattle.switch_defs.specs.Session.{Cause, Another, rested}
use Rattle.switch_defs.specs.Turn.{set_vars}
use Rattle.host_session.specs.declared.session.Session.{Session}
use Rattle.host_session.specs.Sits.{SitsAs}

-- what is told to be left for the server's side is what these variables say (RFC 4137, 6.1.2)
pub record IsWanted (w : Wants) (v : Vars) : Type 0 where
  pub ask : w.ask ≡ v.aaa_eap_resp
  pub abort : w.abort ≡ v.aaa_abort
  pub gone : w.gone ≡ v.gone

-- a session that stood so was settled: it stands as after that, the packets of its host went out in
-- frames, and what is wanted is told
pub record Settles (why : Cause) (x : Standing) (k : Session) (w : Wants) (from to : Things) :
    Type 0 where
  pub sits : SitsAs k (rested why x (settled x.vars).vars)
  pub sent : to ≡ with_sent (frames (settled x.vars).vars (settled x.vars).packets) from
  pub wants : IsWanted w (settled x.vars).vars

-- with its variables settled
abbrev pub at_rest : Standing → Standing
at_rest x = record x { vars = (settled x.vars).vars }

-- the marks were set by what the variables say, and what was wanted counts as done
pub record IsLeft (x : Standing) (k : Session) (w : Wants) : Type 0 where
  pub sits : SitsAs k (rested Another x x.vars)
  pub wants : IsWanted w x.vars

-- nothing is wanted of the server's side, and the session goes on
abbrev pub nothing : Wants
nothing = record { ask = false; abort = false; gone = false }

-- whether nothing falls due in a second for a session whose host is let in
abbrev pub is_idle : Session → Bool
is_idle k = not (k.end_while == 1) && host.is_idle k.host

-- how a session stands once a second has gone by, in which the server is not given up
abbrev pub later : Standing → Standing
later x = set_vars (live.Second false) (record x { end_while = x.end_while - 1 })

-- it settled so, and nothing was sent or is wanted; its host was Authorized (RFC 4137, 7: SUCCESS2),
-- and is
pub record SettlesIdly (x : Standing) (k : Session) : Type 0 where
  pub settles : (tray : Things) → Settles Another (later x) k nothing tray tray
  pub state : x.vars.eap ≡ Success2
  pub before : x.vars.auth_port_status ≡ true
  pub after : (settled (later x).vars).vars.auth_port_status ≡ true

-- how the session of a host begins, on a port with this address and this native VLAN
abbrev pub beginning : (port : ℕ) → (own peer : List ℕ) → (native : ℕ) → Times → Standing
beginning port own peer native times = record {
  vars = fresh port own peer Auto times;
  vlan = native;
  state = None;
  end_while = 0;
  restricted = false;
}

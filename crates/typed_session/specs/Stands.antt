-- Which values of the variables a host stands for: those of a session that have its states, and
-- agree with it in what it holds.
use Rattle.std.specs.Prelude.{◌≡◌, ℕ, List, if◌then◌else◌, Option, Some, None}
use Rattle.machine_vars.specs.declared.vars.Vars.{Vars}
use Rattle.machine_vars.specs.declared.states.Pae.{Pae as PaeState}
use Rattle.machine_vars.specs.declared.states.Pae.TheVariants as Pae
use Rattle.machine_vars.specs.declared.states.Backend.{Backend as BackendState}
use Rattle.machine_vars.specs.declared.states.Backend.TheVariants as Backend
use Rattle.machine_vars.specs.declared.states.EapState.{EapState}
use Rattle.machine_vars.specs.declared.states.EapState.TheVariants as Eap
use Rattle.machine_vars.specs.declared.control.Times.{Times}
use Rattle.machine_vars.specs.declared.control.Control.TheVariants.{Auto}
use Rattle.machine_defs.specs.Live.{Live, fresh}
use Rattle.typed_session.specs.declared.host.Common.{Common}
use Rattle.typed_session.specs.declared.host.Asked.{Asked}
use Rattle.typed_session.specs.declared.host.Served.{Served}
use Rattle.typed_session.specs.declared.host.Lapsed.{Lapsed}
use Rattle.typed_session.specs.declared.host.Admitted.{Admitted}
use Rattle.typed_session.specs.declared.host.Refused.{Refused}
use Rattle.typed_session.specs.declared.host.Closed.{Closed}
use Rattle.typed_session.specs.declared.host.Host.{Host}
use Rattle.typed_session.specs.declared.host.Host.TheVariants as host

-- what each state holds of the variables
abbrev pub common_of : Vars → Common
common_of v = record {
  port = v.port;
  own = v.own;
  peer = v.peer;
  times = v.times;
  id = v.current_id;
  reauth = v.re_auth_enabled;
  period = v.re_auth_period;
  left = v.re_auth_when;
  ask = v.aaa_eap_resp;
  abort = v.aaa_abort;
  identity = v.identity;
}

-- what the opening value holds, on an Auto port
abbrev pub opening : (port : ℕ) → (own peer : List ℕ) → Times → Common
opening port own peer t = common_of (fresh port own peer Auto t)

abbrev pub asked_of : Vars → Asked
asked_of v = record {
  common = common_of v;
  status = v.auth_port_status;
  tries = v.re_auth_count;
  sent = v.retrans_count;
  wait = v.retrans_while;
  method = v.method_timeout;
  local = v.local;
  due = v.re_authenticate;
  request = v.last_req_data;
}

abbrev pub served_of : Vars → Served
served_of v = record {
  common = common_of v;
  status = v.auth_port_status;
  tries = v.re_auth_count;
  sent = v.retrans_count;
  wait = v.a_while;
  method = v.method_timeout;
  local = v.local;
  due = v.re_authenticate;
  heard = v.eapol_eap;
  request = v.last_req_data;
  latest = v.rx_eap;
  response = v.eap_resp_data;
}

abbrev pub lapsed_of : Vars → Lapsed
lapsed_of v = record {
  common = common_of v;
  status = v.auth_port_status;
  tries = v.re_auth_count;
  wait = v.a_while;
}

abbrev pub admitted_of : Vars → Admitted
admitted_of v = record { common = common_of v; tries = v.re_auth_count }

abbrev pub refused_of : Vars → Refused
refused_of v = record {
  common = common_of v;
  tries = v.re_auth_count;
  wait = v.quiet_while;
  starts = v.eapol_start;
  logs_off = v.eapol_logoff;
}

abbrev pub closed_of : Vars → Closed
closed_of v = record { id = v.current_id; ask = v.aaa_eap_resp; abort = v.aaa_abort }

-- the host of a value, by its states; forced ports have none, nor values that are not settled
abbrev pub by_eap : EapState → Vars → Option Host
by_eap Eap.AaaIdle v = Some (host.Server (served_of v))
by_eap Eap.TimeoutFailure2 v = Some (host.GaveUp (lapsed_of v))
by_eap _ v = None

abbrev pub by_backend : BackendState → Vars → Option Host
by_backend Backend.Request v = Some (host.Request (asked_of v))
by_backend Backend.Ignore v = Some (host.Ignore (asked_of v))
by_backend Backend.Response v = by_eap v.eap v
by_backend _ v = None

abbrev pub by_pae : PaeState → Vars → Option Host
by_pae Pae.Authenticating v = by_backend v.backend v
by_pae Pae.Authenticated v = Some (host.Authenticated (admitted_of v))
by_pae Pae.Held v = Some (host.Held (refused_of v))
by_pae _ v = None

abbrev pub host_of : Vars → Option Host
host_of v = if v.gone then Some (host.Ended (closed_of v)) else by_pae v.pae v

-- the host stands for the value
abbrev pub Stands : Host → Vars → Type 0
Stands h v = Live v × (host_of v ≡ Some h)

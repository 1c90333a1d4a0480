-- Seconds in which nothing falls due.
use Rattle.std.specs.Prelude.{◌≡◌, Bool, true, false, Option, None, Some}
use Rattle.settle_defs.specs.Settle.{settled}
use Rattle.out_tray.specs.Tray.{Things}
use Rattle.switch_defs.specs.Switch as switch
use Rattle.switch_defs.specs.Switch.{State}
use Rattle.switch_defs.specs.Turn.{second_of}
use Rattle.host_session.specs.declared.session.Session.{Session}
use Rattle.host_session.specs.Settles as one
use Rattle.host_sessions.specs.declared.sessions.Sessions.{Sessions}
use Rattle.host_sessions.specs.Does.{Does, a_second_later, is_ended_by_second}

-- whether nothing falls due for a session, where there is one
abbrev pub is_idle : Option Session → Bool
is_idle None = false
is_idle (Some k) = one.is_idle k

-- a second was done to a session, and nothing was sent; its host was Authorized, and is
pub record Idles (y : switch.Session) (s : State) (k : Sessions) : Type 0 where
  pub does : (tray : Things) → Does (second_of y s) k tray tray
  pub goes_on : is_ended_by_second y s ≡ false
  pub before : y.standing.vars.auth_port_status ≡ true
  pub after : (settled (a_second_later y s).vars).vars.auth_port_status ≡ true

-- What a call on all sessions does.
use Rattle.std.specs.Prelude.{◌≡◌, ℕ, ◌||◌, ◌==◌, ◌-◌, Bool, false, List, None}
use Rattle.machine_defs.specs.Live as live
use Rattle.settle_defs.specs.Settle.{settled}
use Rattle.aaa_defs.specs.Waits.{pending_of}
use Rattle.aaa_defs.specs.Age.{aged}
use Rattle.switch_event.specs.Config.{Config}
use Rattle.out_tray.specs.Tray.{Things}
use Rattle.typed_session.specs.Follows.{with_sent}
use Rattle.switch_defs.specs.Switch as switch
use Rattle.switch_defs.specs.Switch.{Port, Standing, State, Did, own_address, session_at}
use Rattle.switch_defs.specs.Turn.{is_full, is_given_up, set_vars, opened, fresh_standing, with_session}
use Rattle.switch_defs.specs.Laws.{MayAsk}
use Rattle.host_sessions.specs.declared.sessions.Sessions.{Sessions}
use Rattle.host_sessions.specs.Holds.{Holds}
use Rattle.host_sessions.specs.Finds.{IsAt}

-- what is kept is of what was done, and the tray has what was sent
pub record Does (d : Did) (k : Sessions) (from to : Things) : Type 0 where
  pub holds : Holds k d.state
  pub sent : to ≡ with_sent d.sent from

-- a port's number, its address and its native VLAN
pub record IsPortOf (s : State) (q : Port) (n : ℕ) (address : List ℕ) (vlan : ℕ) : Type 0 where
  pub number : q.conf.port ≡ n
  pub own : own_address s n ≡ address
  pub native : q.conf.native ≡ vlan

-- a session may open for a host of a port: it has none there, there is room, and it may be settled
pub record MayOpen (q : Port) (from : List ℕ) (s : State) : Type 0 where
  pub new : session_at q.conf.port from s ≡ None
  pub room : is_full q.conf.port s ≡ false
  pub ask : MayAsk (opened s q from) (fresh_standing s q from)
      (with_session (opened s q from) (fresh_standing s q from) s)

-- the sessions of a state with these settings, of which one is kept at a place, and may be settled with
-- this standing
pub record MayTurn (c : Config) (k : Sessions) (at : ℕ) (y : switch.Session) (x : Standing) (s : State) :
    Type 0 where
  pub holds : Holds k s
  pub config : s.config ≡ c
  pub here : IsAt at y k s
  pub ask : MayAsk y.host x s

-- whether a session that is settled with this standing is given up
abbrev pub is_gone : Standing → Bool
is_gone x = (settled x.vars).vars.gone

-- how a session stands a second later, its request aged
abbrev pub a_second_later : switch.Session → State → Standing
a_second_later y s =
    set_vars (live.Second (is_given_up (aged (pending_of y.host.number s.waits))))
    (record y.standing { end_while = y.standing.end_while - 1 })

-- whether a second ends a session: its time is over, or it is given up
abbrev pub is_ended_by_second : switch.Session → State → Bool
is_ended_by_second y s = y.standing.end_while == 1 || is_gone (a_second_later y s)

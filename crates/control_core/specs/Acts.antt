-- What a dynamic request that is acknowledged may do.
use Rattle.radius_defs.specs.InRange as timeout
use Rattle.dynauth_defs.specs.declared.Action.{Action}
use Rattle.dynauth_defs.specs.declared.Action.TheVariants.{Disconnect, Change}
use Rattle.switch_defs.specs.Switch.{State}
use Rattle.switch_defs.specs.Laws.{NamesSession}
use Rattle.switch_defs.specs.Fitting.{NamesVlan}

-- a time that it sets is not 0
abbrev pub HasTime : Action → Type 0
HasTime (Disconnect number) = Unit {0}
HasTime (Change number vlan time) = timeout.HasTime time

-- it is of a session that there is, and names a VLAN and a time that may be
pub record MayAct (a : Action) (s : State) : Type 0 where
  pub session : NamesSession s a
  pub vlan : NamesVlan a
  pub time : HasTime a

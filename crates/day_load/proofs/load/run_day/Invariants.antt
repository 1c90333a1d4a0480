use Rattle.day_load.specs.Running.{Stands}
use Rattle.day_load.proofs.Days.{hours}
use Rattle.day_load.proofs.load.run_day.Given as goal

abbrev pub invariant-loop-hour : goal.invariant-loop-hour
invariant-loop-hour g l = Stands g.A.Authenticator.stands g.A.Authenticator.made l.run l.fn.hosts (hours l._hour)

-- A value of a session may be settled.
use Rattle.machine_vars.specs.declared.vars.Vars.{Vars}
use Rattle.machine_defs.specs.Live.{Live, Ready, still}

pub may_be_settled : (v : Vars) → Live v → Ready v
may_be_settled v l = still l

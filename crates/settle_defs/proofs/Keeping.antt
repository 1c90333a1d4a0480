-- No row changes whose the variables are.
use Rattle.std.proofs.Common.{ap}
use Rattle.machine_vars.specs.declared.vars.Vars.{Vars}
use Rattle.machine_defs.specs.Settling.{Settles}
use Rattle.machine_defs.proofs.Growth.{Own}
use Rattle.machine_defs.proofs.Keeping.{keeps_own}
use Rattle.settle_defs.specs.Laws.{KeepsPeer}

pub keeps_peer : {v w : Vars} {rows : _} {sent : _} → Settles v rows sent w → KeepsPeer v w
keeps_peer s =
    let o = keeps_own s in
    record {
      port = ap (λ (x : Own). x.port) o;
      own = ap (λ (x : Own). x.own) o;
      peer = ap (λ (x : Own). x.peer) o;
      times = ap (λ (x : Own). x.times) o;
      control = ap (λ (x : Own). x.control) o;
    }

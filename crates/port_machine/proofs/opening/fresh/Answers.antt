use Rattle.std.proofs.Common.{subst, sym}
use Rattle.machine_vars.specs.declared.vars.Vars.{Vars}
use Rattle.machine_defs.specs.Live.{Live, Ready, born, still}
use Rattle.port_machine.proofs.opening.fresh.Goals as goal

pub returns-clause-live : goal.returns-clause-live
returns-clause-live c = λ r.
    let P : Vars → Type 0 = λ x. Live x in
    subst P (sym c.opening.ensures) (born c.args.port c.args.own.0 c.args.peer.0 c.args.control c.args.t.now r)

pub returns-clause-ready : goal.returns-clause-ready
returns-clause-ready c = λ r.
    let P : Vars → Type 0 = λ x. Ready x in
    subst P (sym c.opening.ensures) (still (born c.args.port c.args.own.0 c.args.peer.0 c.args.control c.args.t.now r))

use Rattle.std.proofs.Common.{◌≡◌, None, subst, sym}
use Rattle.machine_vars.specs.declared.vars.Vars.{Vars}
use Rattle.machine_defs.specs.Settling.{next}
use Rattle.machine_defs.specs.Live.{Live}
use Rattle.machine_defs.specs.Settled.{Settled}
use Rattle.machine_defs.proofs.Idle.{change_idle, change_live, change_settled}
use Rattle.port_machine.proofs.event.change.Goals as goal

pub returns-clause-live : goal.returns-clause-live
returns-clause-live c =
    let P : Vars → Type 0 = λ x. Live x in
    subst P (sym c.set_times.ensures) (change_live c.args.again c.args.period c.requires.period c.requires.live c.requires.settled)

pub returns-clause-idle : goal.returns-clause-idle
returns-clause-idle c =
    let P : Vars → Type 0 = λ x. next x ≡ None in
    subst P (sym c.set_times.ensures) (change_idle c.args.again c.args.period c.requires.period c.requires.live c.requires.settled)

pub returns-clause-settled : goal.returns-clause-settled
returns-clause-settled c =
    let P : Vars → Type 0 = λ x. Settled x in
    subst P (sym c.set_times.ensures) (change_settled c.args.again c.args.period c.requires.period c.requires.live c.requires.settled)

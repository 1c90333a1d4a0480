use Rattle.std.proofs.Common.{Bool, sym, subst}
use Rattle.switch_defs.specs.Session.{close_if}
use Rattle.host_sessions.specs.Holds.{Holds}
use Rattle.host_sessions.proofs.sessions.Sessions.close_if.Goals as goal

pub returns-then-gone-clause-holds : goal.returns-then-gone-clause-holds
returns-then-gone-clause-holds c = λ y s holds i.
    let P : Bool → Type 0 = λ b. Holds c.close.new.self (close_if b y.host s) in
    subst P (sym c.if-gone.true) (c.close.ensures.holds y s holds i)

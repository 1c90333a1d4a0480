use Rattle.std.proofs.Common.{None}
use Rattle.switch_event.specs.Event.{Second}
use Rattle.outside_link.proofs.LinkLemmas.{Same-refl}
use Rattle.serve_defs.specs.Served.{event}
use Rattle.serve_loop.proofs.Outer.{moves_still, moves_second}
use Rattle.serve_loop.proofs.Steps.{step_ok, step_err, step_none, same_last}
use Rattle.serve_loop.proofs.server.Server.tick.Goals as goal

pub returns-then-now-self-clause-ok : goal.returns-then-now-self-clause-ok
returns-then-now-self-clause-ok g c =
    step_none g.A.Authenticator.stands g.A.Authenticator.made c.args.self.now.config _ _ _ _ _ _ c.args.self.now (moves_still c.args.self.now.config _ c.now.result _ _ _ c.now.ensures.told c.if-now-self.true) (Same-refl _)

pub returns-clause-ok : goal.returns-clause-ok
returns-clause-ok g c =
    step_ok g.A.Authenticator.stands g.A.Authenticator.made c.enter.result c.args.self.now.config _ _ _ (record { entry = event Second; from = None }) _ _ _ _ c.args.self.now c.enter.new.self
    (λ origin first came at. c.enter.ensures.ok origin first came (same_last g.A.Authenticator.stands g.A.Authenticator.made _ _ _ _ c.args.self.now came _ at))
    (moves_second c.args.self.now.config _ _ c.now.result _ _ _ _ c.now.ensures.told c.if-now-self.false c.enter.ensures.last c.enter.ensures.waits)

pub returns-clause-err : goal.returns-clause-err
returns-clause-err g c =
    step_err g.A.Authenticator.stands g.A.Authenticator.made c.enter.result c.args.room c.args.self.now.config _ _ _ (record { entry = event Second; from = None }) _ _ _ _ c.args.self.now
    (λ origin first came at. c.enter.ensures.err origin first came (same_last g.A.Authenticator.stands g.A.Authenticator.made _ _ _ _ c.args.self.now came _ at))
    (moves_second c.args.self.now.config _ _ c.now.result _ _ _ _ c.now.ensures.told c.if-now-self.false c.enter.ensures.last c.enter.ensures.waits)

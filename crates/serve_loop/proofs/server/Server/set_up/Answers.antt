use Rattle.std.proofs.Common.{None, true}
use Rattle.switch_event.specs.Event.{Link}
use Rattle.serve_defs.specs.Served.{event}
use Rattle.serve_loop.proofs.Outer.{moves_up}
use Rattle.serve_loop.proofs.Steps.{step_ok, step_err}
use Rattle.serve_loop.proofs.server.Server.set_up.Goals as goal

pub returns-clause-ok : goal.returns-clause-ok
returns-clause-ok g c = λ m.
    step_ok g.A.Authenticator.stands g.A.Authenticator.made c.enter.result c.args.self.now.config _ _ _ (record { entry = event (Link c.args.port true); from = None }) _ _ _ _ c.args.self.now c.enter.new.self c.enter.ensures.ok
    (moves_up c.args.self.now.config _ _ c.args.port m _ _ c.enter.ensures.last c.enter.ensures.waits)

pub returns-clause-err : goal.returns-clause-err
returns-clause-err g c = λ m.
    step_err g.A.Authenticator.stands g.A.Authenticator.made c.enter.result c.args.room c.args.self.now.config _ _ _ (record { entry = event (Link c.args.port true); from = None }) _ _ _ _ c.args.self.now c.enter.ensures.err
    (moves_up c.args.self.now.config _ _ c.args.port m _ _ c.enter.ensures.last c.enter.ensures.waits)

use Rattle.std.proofs.Common.{refl, arith}
use Rattle.outside_link.proofs.LinkLemmas.{Same-trans}
use Rattle.serve_loop.proofs.Outer.{moves_none, stays_failed, moves_datagram, closes_datagram}
use Rattle.serve_loop.proofs.Steps.{step_none, stops_failed, taken_ok, taken_err}
use Rattle.serve_loop.proofs.server.Server.ask.Goals as goal

pub returns-in-Err-clause-err : goal.returns-in-Err-clause-err
returns-in-Err-clause-err g c = λ m.
    stops_failed g.A.Authenticator.stands g.A.Authenticator.made c.args.room c.args.self.now.config _ _ _ _ _ _ c.args.self.now (stays_failed _ c.args.channel m _ _ _ _ c.in-Err.ensures.waits) c.in-Err.ensures.sent refl

pub returns-in-Ok-None-clause-ok : goal.returns-in-Ok-None-clause-ok
returns-in-Ok-None-clause-ok g c = λ m.
    let none = rw c.in-Ok-None.field-0-is at c.in-Ok-None.ensures.waits in
    step_none g.A.Authenticator.stands g.A.Authenticator.made c.args.self.now.config _ _ _ _ _ _ c.args.self.now (moves_none c.args.self.now.config _ c.args.channel m _ _ _ none) c.in-Ok-None.ensures.sent

pub returns-in-Ok-Some-clause-ok : goal.returns-in-Ok-Some-clause-ok
returns-in-Ok-Some-clause-ok g c = λ m.
    let some = rw c.in-Ok-Some.field-0-is at c.in-Ok-Some.ensures.waits in
    taken_ok g.A.Authenticator.stands g.A.Authenticator.made c.take.result c.args.self.now.config _ _ _ _ _ _ _ _ _ _ c.args.self.now c.take.new.self c.in-Ok-Some.ensures.sent c.take.ensures.ok
    (moves_datagram c.args.self.now.config _ _ c.args.channel m _ _ _ c.recv.new.buf _ c.in-Ok-Some.from c.in-Ok-Some.count some (omega (arith, c.requires.buf, c.recv.auto.buf)) refl c.take.ensures.last c.take.ensures.waits)

pub returns-in-Ok-Some-clause-err : goal.returns-in-Ok-Some-clause-err
returns-in-Ok-Some-clause-err g c = λ m.
    let some = rw c.in-Ok-Some.field-0-is at c.in-Ok-Some.ensures.waits in
    taken_err g.A.Authenticator.stands g.A.Authenticator.made c.take.result c.args.room c.args.self.now.config _ _ c.args.channel _ _ _ _ _ _ c.args.self.now c.in-Ok-Some.ensures.sent c.take.ensures.err
    (moves_datagram c.args.self.now.config _ _ c.args.channel m _ _ _ c.recv.new.buf _ c.in-Ok-Some.from c.in-Ok-Some.count some (omega (arith, c.requires.buf, c.recv.auto.buf)) refl c.take.ensures.last c.take.ensures.waits)
    (closes_datagram c.args.self.now.config _ _ c.args.channel m _ _ _ c.recv.new.buf _ c.in-Ok-Some.from c.in-Ok-Some.count some (omega (arith, c.requires.buf, c.recv.auto.buf)) refl c.take.ensures.last c.take.ensures.waits)

pub returns-in-Ok-Some-clause-bound : goal.returns-in-Ok-Some-clause-bound
returns-in-Ok-Some-clause-bound g c = Same-trans _ _ _ c.in-Ok-Some.ensures.bound c.take.ensures.bound

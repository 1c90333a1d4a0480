use Rattle.std.proofs.Common.{sym, arith, ◌∙◌, subst, ◌++◌, OnOk}
use Rattle.serve_loop.specs.Run.{IsAt}
use Rattle.serve_loop.proofs.Entering.{logged_of}
use Rattle.serve_loop.proofs.Steps.{entered_ok}
use Rattle.serve_loop.proofs.server.Server.take.Goals as goal

pub returns-then-ends_run-clause-err : goal.returns-then-ends_run-clause-err
returns-then-ends_run-clause-err g c = λ origin first came at.
    let s = c.requires.sound in
    (sym c.ends_run.ensures ∙ c.if-ends_run.true, omega (arith, s.few, s.standing.serial, at.standing.serial), logged_of g.A.Authenticator.stands g.A.Authenticator.made origin _ first _ c.args.self.now came at)

pub returns-in-Some-clause-ok : goal.returns-in-Some-clause-ok
returns-in-Some-clause-ok g c = λ origin first came at.
    entered_ok g.A.Authenticator.stands g.A.Authenticator.made c.enter.result _ _ (sym c.ends_run.ensures ∙ c.if-ends_run.false)
    (subst (λ l. OnOk c.enter.result (IsAt g.A.Authenticator.stands g.A.Authenticator.made origin (g.K.Sink.taken c.enter.new.out) first (g.L.Link.sent c.enter.new.link) c.enter.new.self (came ++ l))) c.in-Some.ensures.came
    (c.enter.ensures.ok origin first came at))

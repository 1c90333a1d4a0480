use Rattle.std.proofs.Common.{◌∙◌, refl, [], ◌∷◌, drop, arith}
use Rattle.outside_link.proofs.LinkLemmas.{Same-trans}
use Rattle.serve_defs.specs.Served.{turn_steps}
use Rattle.serve_defs.specs.Served.Step.{Time}
use Rattle.serve_loop.specs.Run.{Stops}
use Rattle.serve_loop.proofs.Entering.{fails}
use Rattle.serve_loop.proofs.Steps.{stops_first, turn_goes, turn_stops}
use Rattle.serve_loop.proofs.server.Server.turn.Goals as goal

pub returns-in_err-tick-clause-err : goal.returns-in_err-tick-clause-err
returns-in_err-tick-clause-err g c =
    fails c.from_residual.result c.in_err-tick.field-0.0 (λ e. Stops g.A.Authenticator.stands g.A.Authenticator.made c.args.room c.args.self.now.config _ turn_steps _ _ _ _ _ c.args.self.now e) c.from_residual.ensures.0 c.from_residual.ensures.1
    (stops_first g.A.Authenticator.stands g.A.Authenticator.made c.args.room c.args.self.now.config _ _ (Time ∷ []) (drop 1 turn_steps) turn_steps _ _ _ _ c.args.self.now c.in_err-tick.field-0.0 refl c.in_err-tick.ensures.err)

pub returns-in_err-ask-clause-err : goal.returns-in_err-ask-clause-err
returns-in_err-ask-clause-err g c =
    fails c.from_residual-in_err-ask.result c.in_err-ask.field-0.0 (λ e. Stops g.A.Authenticator.stands g.A.Authenticator.made c.args.room c.args.self.now.config _ turn_steps _ _ _ _ _ c.args.self.now e) c.from_residual-in_err-ask.ensures.0 c.from_residual-in_err-ask.ensures.1
    (turn_stops g.A.Authenticator.stands g.A.Authenticator.made c.args.room c.args.self.now.config c.channels.self.config c.channels.channel _ _ _ _ _ _ _ _ _ c.args.self.now c.channels.self c.in_err-ask.field-0.0 c.channels-test.true c.channels.invariant.config c.channels.invariant.steps
    (c.in_err-ask.ensures.err _))

pub returns-in_err-ask-clause-bound : goal.returns-in_err-ask-clause-bound
returns-in_err-ask-clause-bound g c = Same-trans _ _ _ c.channels.invariant.bound c.in_err-ask.ensures.bound

pub channels-preserved : goal.channels-preserved
channels-preserved g c = record {
  steps = turn_goes g.A.Authenticator.stands g.A.Authenticator.made c.args.self.now.config c.channels.self.config c.channels.channel _ _ _ _ _ _ _ _ _ c.args.self.now c.channels.self c.ask.new.self c.channels-test.true c.channels.invariant.config c.channels.invariant.steps
      (c.in_ok-ask.ensures.ok _);
  sound = c.in_ok-ask.ensures.sound;
  number = omega (arith, c.channels.invariant.number, c.in_ok-ask.ensures.number);
  config = c.in_ok-ask.ensures.config ∙ c.channels.invariant.config;
  buf = omega (arith, c.channels.invariant.buf, c.ask.auto.buf);
  bound = Same-trans _ _ _ c.channels.invariant.bound c.in_ok-ask.ensures.bound;
  out_later = omega (arith, c.channels.invariant.out_later, c.in_ok-ask.ensures.cause.out_later);
  link_later = omega (arith, c.channels.invariant.link_later, c.in_ok-ask.ensures.cause.link_later);
}

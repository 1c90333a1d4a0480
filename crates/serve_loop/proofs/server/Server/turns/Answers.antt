use Rattle.std.proofs.Common.{◌∙◌, ◌+◌, ◌-◌, ◌≡◌, arith}
use Rattle.outside_link.proofs.LinkLemmas.{Same-trans}
use Rattle.serve_defs.specs.Served.{turn_steps, turns_steps}
use Rattle.serve_loop.specs.Run.{Stops}
use Rattle.serve_loop.proofs.Entering.{fails}
use Rattle.serve_loop.proofs.Steps.{goes_on, stops_on, turns_next, turns_split}
use Rattle.serve_loop.proofs.server.Server.turns.Goals as goal

pub returns-in_err-turn-clause-err : goal.returns-in_err-turn-clause-err
returns-in_err-turn-clause-err g c =
    let left = c.args.turns - (c.turns.turn + 1) in
    let all : c.args.turns ≡ c.turns.turn + 1 + left = omega (arith, c.turns-test.true) in
    fails c.from_residual.result c.in_err-turn.field-0.0 (λ e. Stops g.A.Authenticator.stands g.A.Authenticator.made c.args.room c.args.self.now.config _ (turns_steps c.args.turns) _ _ _ _ _ c.args.self.now e) c.from_residual.ensures.0 c.from_residual.ensures.1
    (stops_on g.A.Authenticator.stands g.A.Authenticator.made c.args.room c.args.self.now.config c.turns.self.config (turns_steps c.turns.turn) turn_steps (turns_steps left) (turns_steps c.args.turns) _ _ _ _ _ _ _ _ _ c.args.self.now c.turns.self c.in_err-turn.field-0.0
    (turns_split c.turns.turn c.args.turns left all) c.turns.invariant.config c.turns.invariant.steps c.in_err-turn.ensures.err)

pub returns-in_err-turn-clause-bound : goal.returns-in_err-turn-clause-bound
returns-in_err-turn-clause-bound g c = Same-trans _ _ _ c.turns.invariant.bound c.in_err-turn.ensures.bound

pub turns-preserved : goal.turns-preserved
turns-preserved g c = record {
  steps = goes_on g.A.Authenticator.stands g.A.Authenticator.made c.args.self.now.config c.turns.self.config (turns_steps c.turns.turn) turn_steps (turns_steps (c.turns.turn + 1)) _ _ _ _ _ _ _ _ _ c.args.self.now c.turns.self c.turn.new.self (turns_next c.turns.turn)
      c.turns.invariant.config c.turns.invariant.steps c.in_ok-turn.ensures.ok;
  sound = c.in_ok-turn.ensures.sound;
  number = omega (arith, c.turns.invariant.number, c.in_ok-turn.ensures.number);
  config = c.in_ok-turn.ensures.config ∙ c.turns.invariant.config;
  bound = Same-trans _ _ _ c.turns.invariant.bound c.in_ok-turn.ensures.bound;
  out_later = omega (arith, c.turns.invariant.out_later, c.in_ok-turn.ensures.cause.out_later);
  link_later = omega (arith, c.turns.invariant.link_later, c.in_ok-turn.ensures.cause.link_later);
}

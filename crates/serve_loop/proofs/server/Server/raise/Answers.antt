use Rattle.std.proofs.Common.{◌∙◌, ◌+◌, ◌≡◌, map, take, drop, arith, refl, ap, length}
use Rattle.std.proofs.lemmas.List.{take_all}
use Rattle.outside_link.proofs.LinkLemmas.{Same-refl, Same-trans}
use Rattle.serve_defs.specs.Served.Step.{Up}
use Rattle.trace_defs.proofs.PortFacts.{are_ports-few}
use Rattle.serve_loop.specs.Run.{Stops}
use Rattle.serve_loop.proofs.Entering.{fails}
use Rattle.serve_loop.proofs.Steps.{steps_none, goes_on, stops_on, steps_same, ups_next_at, ups_split_at}
use Rattle.serve_loop.proofs.server.Server.raise.Goals as goal

pub ports-init : goal.ports-init
ports-init g c = record {
  steps = λ m. steps_none g.A.Authenticator.stands g.A.Authenticator.made c.args.self.now.config _ _ _ c.args.self.now;
  sound = c.requires.sound;
  number = omega (arith, c.requires.number);
  ends = c.len-n-end.ensures.value ∙ ap (λ s. length s.config.ports) c.self.view_is;
  config = refl;
  bound = Same-refl _;
  out_later = omega arith;
  link_later = omega arith;
}

pub returns-in_err-set_up-clause-err : goal.returns-in_err-set_up-clause-err
returns-in_err-set_up-clause-err g c = λ m.
    let ports = c.args.self.now.config.ports in
    let is : c.deref.result.now ≡ ports = c.deref.ensures.0 ∙ ap (λ s. s.config.ports) c.self-in-ports.view_is ∙ ap (λ k. k.ports) c.ports.invariant.config in
    fails c.from_residual.result c.in_err-set_up.field-0.0
    (λ e. Stops g.A.Authenticator.stands g.A.Authenticator.made c.args.room c.args.self.now.config _ (map (λ p. Up p.port) ports) _ _ _ _ _ c.args.self.now e)
    c.from_residual.ensures.0 c.from_residual.ensures.1
    (stops_on g.A.Authenticator.stands g.A.Authenticator.made c.args.room c.args.self.now.config c.ports.self.config (map (λ p. Up p.port) (take c.ports.n ports)) _ (map (λ p. Up p.port) (drop (c.ports.n + 1) ports)) (map (λ p. Up p.port) ports)
    _ _ _ _ _ _ _ _ _ c.args.self.now c.ports.self c.in_err-set_up.field-0.0 (ups_split_at ports c.deref.result.now c.ports.n _ is (omega (arith, c.ports-test.true, c.ports.invariant.ends))) c.ports.invariant.config (c.ports.invariant.steps m) (c.in_err-set_up.ensures.err m))

pub returns-in_err-set_up-clause-bound : goal.returns-in_err-set_up-clause-bound
returns-in_err-set_up-clause-bound g c = Same-trans _ _ _ c.ports.invariant.bound c.in_err-set_up.ensures.bound

pub ports-preserved : goal.ports-preserved
ports-preserved g c =
    let ports = c.args.self.now.config.ports in
    let is : c.deref.result.now ≡ ports = c.deref.ensures.0 ∙ ap (λ s. s.config.ports) c.self-in-ports.view_is ∙ ap (λ k. k.ports) c.ports.invariant.config in record {
      steps = λ m. goes_on g.A.Authenticator.stands g.A.Authenticator.made c.args.self.now.config c.ports.self.config (map (λ p. Up p.port) (take c.ports.n ports)) _ (map (λ p. Up p.port) (take (c.ports.n + 1) ports)) _ _ _ _ _ _ _ _ _ c.args.self.now c.ports.self
          c.set_up.new.self (ups_next_at ports c.deref.result.now c.ports.n _ is (omega (arith, c.ports-test.true, c.ports.invariant.ends))) c.ports.invariant.config (c.ports.invariant.steps m) (c.in_ok-set_up.ensures.ok m);
      sound = c.in_ok-set_up.ensures.sound;
      number = omega (arith, c.ports.invariant.number, c.in_ok-set_up.ensures.number);
      ends = c.ports.invariant.ends;
      config = c.in_ok-set_up.ensures.config ∙ c.ports.invariant.config;
      bound = Same-trans _ _ _ c.ports.invariant.bound c.in_ok-set_up.ensures.bound;
      out_later = omega (arith, c.ports.invariant.out_later, c.in_ok-set_up.ensures.cause.out_later);
      link_later = omega (arith, c.ports.invariant.link_later, c.in_ok-set_up.ensures.cause.link_later);
    }

pub returns-clause-ok : goal.returns-clause-ok
returns-clause-ok g c = λ m.
    let ports = c.args.self.now.config.ports in
    let all : take c.ports.n ports ≡ ports = take_all c.ports.n ports (omega (arith, c.ports.invariant.ends, c.ports-test.false)) in
    steps_same g.A.Authenticator.stands g.A.Authenticator.made c.args.self.now.config _ _ (map (λ p. Up p.port) (take c.ports.n ports)) (map (λ p. Up p.port) ports) _ _ _ _ c.args.self.now c.ports.self (ap (map (λ p. Up p.port)) all) (c.ports.invariant.steps m)

pub returns-clause-number : goal.returns-clause-number
returns-clause-number g c =
    let few = are_ports-few c.args.self.now.config.ports c.requires.sound.ports in
    omega (arith, c.ports.invariant.number, c.ports.invariant.ends, c.ports.auto.n-end, few)

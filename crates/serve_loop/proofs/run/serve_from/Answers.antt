use Rattle.std.proofs.Common.{◌∙◌, ◌++◌, ◌≡◌, sym, ap, map}
use Rattle.outside_link.proofs.LinkLemmas.{Same-trans}
use Rattle.serve_defs.specs.Served.{turns_steps, all_steps}
use Rattle.serve_defs.specs.Served.Step.{Up}
use Rattle.serve_loop.proofs.Steps.{stops_first, stops_over, goes_on}
use Rattle.serve_loop.proofs.Halting.{run_stops, run_done}
use Rattle.serve_loop.proofs.run.serve_from.Goals as goal

pub raise-requires-clause-number : goal.raise-requires-clause-number
raise-requires-clause-number g c = (c.in-Ok.ensures.opened c.args.room).number

pub returns-in-Err-raise-clause-ends : goal.returns-in-Err-raise-clause-ends
returns-in-Err-raise-clause-ends g c =
    let server = c.in-Ok.server in
    let opened = c.in-Ok.ensures.opened c.args.room in
    let ups = map (λ p. Up p.port) server.config.ports in
    let turns = turns_steps c.args.turns in
    let split : all_steps c.args.config.ports c.args.turns ≡ ups ++ turns = ap (λ k. map (λ p. Up p.port) k.ports ++ turns) (sym opened.settings) in
    run_stops g.A.Authenticator.stands g.A.Authenticator.made c.args.room c.args.turns c.args.config server.config server.last _ _ _ _ _ _ _ _ _ _ server c.in-Err-raise.ending opened.settings opened.last (c.in-Ok.ensures.ok _)
    (stops_first g.A.Authenticator.stands g.A.Authenticator.made c.args.room server.config _ _ ups turns (all_steps c.args.config.ports c.args.turns) _ _ _ _ server c.in-Err-raise.ending split (c.in-Err-raise.ensures.err _))

pub returns-in-Ok-turns-clause-ends : goal.returns-in-Ok-turns-clause-ends
returns-in-Ok-turns-clause-ends g c =
    let server = c.in-Ok.server in
    let opened = c.in-Ok.ensures.opened c.args.room in
    let raised = c.raise.new.self in
    let same = c.in_default.ensures.config in
    let ups = map (λ p. Up p.port) server.config.ports in
    let turns = turns_steps c.args.turns in
    let split : all_steps c.args.config.ports c.args.turns ≡ ups ++ turns = ap (λ k. map (λ p. Up p.port) k.ports ++ turns) (sym opened.settings) in
    run_done g.A.Authenticator.stands g.A.Authenticator.made c.args.room c.args.turns c.args.config server.config server.last _ _ _ _ _ _ _ _ _ _ server c.turns.new.self opened.settings opened.last (c.in-Ok-turns.ensures.config ∙ same ∙ opened.settings)
    c.in-Ok-turns.ensures.sound (c.in-Ok.ensures.ok _)
    (goes_on g.A.Authenticator.stands g.A.Authenticator.made server.config raised.config ups turns (all_steps c.args.config.ports c.args.turns) _ _ _ _ _ _ _ _ _ server raised c.turns.new.self split same (c.in_default.ensures.ok _) c.in-Ok-turns.ensures.ok)

pub returns-clause-ends : goal.returns-clause-ends
returns-clause-ends g c =
    let server = c.in-Ok.server in
    let opened = c.in-Ok.ensures.opened c.args.room in
    let raised = c.raise.new.self in
    let same = c.in_default.ensures.config in
    let ups = map (λ p. Up p.port) server.config.ports in
    let turns = turns_steps c.args.turns in
    let split : all_steps c.args.config.ports c.args.turns ≡ ups ++ turns = ap (λ k. map (λ p. Up p.port) k.ports ++ turns) (sym opened.settings) in
    run_stops g.A.Authenticator.stands g.A.Authenticator.made c.args.room c.args.turns c.args.config server.config server.last _ _ _ _ _ _ _ _ _ _ server c.in-Err-turns.ending opened.settings opened.last (c.in-Ok.ensures.ok _)
    (stops_over g.A.Authenticator.stands g.A.Authenticator.made c.args.room server.config raised.config ups turns (all_steps c.args.config.ports c.args.turns) _ _ _ _ _ _ _ _ _ server raised c.in-Err-turns.ending split same (c.in_default.ensures.ok _) c.in-Err-turns.ensures.err)

pub returns-in-Ok-turns-clause-bound : goal.returns-in-Ok-turns-clause-bound
returns-in-Ok-turns-clause-bound g c = Same-trans _ _ _ c.in_default.ensures.bound c.in-Ok-turns.ensures.bound

pub returns-clause-bound : goal.returns-clause-bound
returns-clause-bound g c = Same-trans _ _ _ c.in_default.ensures.bound c.in-Err-turns.ensures.bound

-- Settling as a function, and that who speaks to whom stays.
use Rattle.std.proofs.Common.{◌≡◌, ◌∙◌, ap, subst, sym, false}
use Rattle.machine_defs.specs.BackendTable.{is_auto}
use Rattle.machine_defs.specs.Live.{Ready, to_all}
use Rattle.settle_defs.specs.Settle.{settled}
use Rattle.switch_defs.specs.Switch.{Port}
use Rattle.switch_ports.specs.Ports.{settled_to, with_said}
use Rattle.switch_ports.proofs.Settling.{chain_control, chain_said, chain_vars}
use Rattle.switch_ports.proofs.port.PortState.settle.Goals as goal

pub to_all-requires-clause-forced : goal.to_all-requires-clause-forced
to_all-requires-clause-forced c =
    let ready : Ready c.self.inside.forced = subst (λ (p : Port). Ready p.forced) (sym c.self.view_is) c.requires.ready in
    let forced : is_auto c.self.inside.forced.port_control ≡ false = subst (λ (p : Port). is_auto p.forced.port_control ≡ false) (sym c.self.view_is) c.requires.forced in
    chain_control c.self.inside.forced c.settle-rows.new.v c.settle-rows.result c.args.tray.now c.settle-rows.new.tray ready forced c.settle-rows.ensures.bound c.settle-rows.ensures.chain

pub returns-clause-port : goal.returns-clause-port
returns-clause-port c =
    let vars : c.to_all.new.v ≡ to_all (settled c.self.inside.forced).vars =
    c.to_all.ensures.value ∙ ap to_all (chain_vars c.self.inside.forced c.settle-rows.new.v c.settle-rows.result c.args.tray.now c.settle-rows.new.tray c.settle-rows.ensures.bound c.settle-rows.ensures.chain) in
    (λ i. record {
      conf = c.self.inside.conf;
      link = c.self.inside.link;
      control = c.self.inside.control;
      forced = vars i;
      guest_while = c.self.inside.guest_while;
      guest_open = c.self.inside.guest_open;
    })
    ∙ ap (λ (p : Port). settled_to p.forced p) c.self.view_is

pub returns-clause-sent : goal.returns-clause-sent
returns-clause-sent c =
    let ready : Ready c.self.inside.forced = subst (λ (p : Port). Ready p.forced) (sym c.self.view_is) c.requires.ready in
    chain_said c.self.inside.forced c.settle-rows.new.v c.settle-rows.result c.args.tray.now c.settle-rows.new.tray ready c.settle-rows.ensures.bound c.settle-rows.ensures.chain
    ∙ ap (λ (p : Port). with_said p.forced c.args.tray.now) c.self.view_is

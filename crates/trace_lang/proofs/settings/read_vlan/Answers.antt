use Rattle.std.proofs.Common.{◌≡◌, length, ap, ◌∙◌}
use Rattle.std.proofs.lemmas.List.{length-map}
use Rattle.switch_event.specs.Config.{are_ports}
use Rattle.trace_defs.specs.Line.{give_vlan, change_vlan}
use Rattle.trace_defs.proofs.PortFacts.{give-are_ports}
use Rattle.trace_lang.proofs.VlanLemmas.{refilled}
use Rattle.trace_lang.proofs.settings.read_vlan.Goals as goal

pub returns-clause-ports : goal.returns-clause-ports
returns-clause-ports c =
    let port = c.in_ok-port-2.port in
    let vlan = c.in_ok-vlan.vlan in
    let items = c.c.inside.ports.items in
    let new : c.give_vlan.new.ports ≡ give_vlan c.args.other port vlan items = c.give_vlan.ensures ∙ ap (give_vlan c.args.other port vlan) c.deref_mut.ensures.value in
    let long : length c.give_vlan.new.ports ≡ length items = ap length new ∙ length-map items (change_vlan c.args.other port vlan) in
    ap are_ports (refilled items c.give_vlan.new.ports long ∙ new) ∙ give-are_ports c.args.other port vlan items ∙ ap (λ v. are_ports v.ports) c.c.view_is ∙ c.requires.ports

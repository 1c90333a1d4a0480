use Rattle.std.proofs.Common.{◌++◌, sym, ap, ◌∙◌}
use Rattle.std.specs.List.{flat_map}
use Rattle.trace_defs.specs.declared.keyword.OtherVlan.TheVariants.{Restricted, Guest}
use Rattle.trace_defs.specs.Text.{text_line, client_words, port_words, port_vlan_lines, first_lines}
use Rattle.trace_print.specs.Pieces.{times_text, last_text}
use Rattle.trace_print.proofs.Texts.{kept_err, on_ok, begins_more, seven_parts, config_text-parts}
use Rattle.trace_print.proofs.settings.put_config.Goals as goal

pub returns-in_err-put_clients-clause-begins : goal.returns-in_err-put_clients-clause-begins
returns-in_err-put_clients-clause-begins c = kept_err c.from_residual-in_err-put_clients.result (begins_more c.args.out.now.items _ c.put_first.new.out.items c.put_clients.new.out.items c.in_ok-put_first.ensures.printed c.in_err-put_clients.ensures.begins)

pub returns-in_err-put_ports-clause-begins : goal.returns-in_err-put_ports-clause-begins
returns-in_err-put_ports-clause-begins c =
    kept_err c.from_residual-in_err-put_ports.result (
    begins_more c.args.out.now.items _ c.put_first.new.out.items c.put_ports.new.out.items c.in_ok-put_first.ensures.printed (
    begins_more c.put_first.new.out.items _ c.put_clients.new.out.items c.put_ports.new.out.items c.in_ok-put_clients.ensures.printed c.in_err-put_ports.ensures.begins))

pub returns-in_err-put_vlans-clause-begins : goal.returns-in_err-put_vlans-clause-begins
returns-in_err-put_vlans-clause-begins c =
    kept_err c.from_residual-in_err-put_vlans.result (
    begins_more c.args.out.now.items _ c.put_first.new.out.items c.put_vlans.new.out.items c.in_ok-put_first.ensures.printed (
    begins_more c.put_first.new.out.items _ c.put_clients.new.out.items c.put_vlans.new.out.items c.in_ok-put_clients.ensures.printed (
    begins_more c.put_clients.new.out.items _ c.put_ports.new.out.items c.put_vlans.new.out.items c.in_ok-put_ports.ensures.printed c.in_err-put_vlans.ensures.begins)))

pub returns-in_err-put_vlans-2-clause-begins : goal.returns-in_err-put_vlans-2-clause-begins
returns-in_err-put_vlans-2-clause-begins c =
    kept_err c.from_residual-in_err-put_vlans-2.result (
    begins_more c.args.out.now.items _ c.put_first.new.out.items c.put_vlans-2.new.out.items c.in_ok-put_first.ensures.printed (
    begins_more c.put_first.new.out.items _ c.put_clients.new.out.items c.put_vlans-2.new.out.items c.in_ok-put_clients.ensures.printed (
    begins_more c.put_clients.new.out.items _ c.put_ports.new.out.items c.put_vlans-2.new.out.items c.in_ok-put_ports.ensures.printed (
    begins_more c.put_ports.new.out.items _ c.put_vlans.new.out.items c.put_vlans-2.new.out.items c.in_ok-put_vlans.ensures.printed c.in_err-put_vlans-2.ensures.begins))))

pub returns-clause-printed : goal.returns-clause-printed
returns-clause-printed c = on_ok c.put_last.result (λ last.
    let config = c.args.c.now in
    let same = c.c.view_is in
    let clients = c.in_ok-put_clients.ensures.printed ∙ ap (λ l. c.put_first.new.out.items ++ flat_map (λ client. text_line (client_words client)) l) (c.deref.ensures.0 ∙ ap (λ v. v.clients) same) in
    let ports = c.in_ok-put_ports.ensures.printed ∙ ap (λ l. c.put_clients.new.out.items ++ flat_map (λ conf. text_line (port_words conf)) l) (c.deref-2.ensures.0 ∙ ap (λ v. v.ports) same) in
    let restricted = c.in_ok-put_vlans.ensures.printed ∙ ap (λ l. c.put_ports.new.out.items ++ flat_map (λ conf. flat_map text_line (port_vlan_lines Restricted conf)) l) (c.deref-3.ensures.0 ∙ ap (λ v. v.ports) same) in
    let guests = c.in_ok-put_vlans-2.ensures.printed ∙ ap (λ l. c.put_vlans.new.out.items ++ flat_map (λ conf. flat_map text_line (port_vlan_lines Guest conf)) l) (c.deref-4.ensures.0 ∙ ap (λ v. v.ports) same) in
    seven_parts c.args.out.now.items c.put_first.new.out.items c.put_clients.new.out.items c.put_ports.new.out.items c.put_vlans.new.out.items c.put_vlans-2.new.out.items
    c.put_times.new.out.items c.put_last.new.out.items (flat_map text_line (first_lines config)) _ _ _ _ (times_text config.times) (last_text config)
    c.in_ok-put_first.ensures.printed clients ports restricted guests c.in_ok-put_times.ensures.printed last
    ∙ ap (λ l. c.args.out.now.items ++ l) (sym (config_text-parts config))) c.put_last.ensures.printed

use Rattle.std.proofs.Common.{◌≡◌, ◌<◌, ◌++◌, ◌∷◌, [], false, length, lit<, sym, ap, ◌∙◌, subst}
use Rattle.switch_event.specs.declared.config.PortConf.{PortConf}
use Rattle.switch_event.specs.Config.{is_among, are_ports}
use Rattle.trace_defs.proofs.PortFacts.{are_ports-more, are_ports-room}
use Rattle.trace_defs.proofs.SettingFacts.{in_range}
use Rattle.trace_lang.proofs.settings.read_port.Goals as goal

pub push-requires : goal.push-requires
push-requires c =
    let port = c.in_ok-port-2.port in
    let conf : PortConf = record { port = port; native = c.in_ok-native.native; control = c.in_ok-control.control; restricted = 0; guest = 0 } in
    let same : c.c.inside.ports.items ≡ c.args.c.now.ports = ap (λ v. v.ports) c.c.view_is in
    let none : is_among port c.args.c.now.ports ≡ false = sym c.if-has_port.ensures in
    let number = in_range 1 60 c.in_ok-port.port.now port (sym c.port_of.ensures.value ∙ c.in_ok-port-2.ensures.ok_part) in
    (lit< tt, subst (λ ports. length ports < 60) (sym same) (are_ports-room c.args.c.now.ports conf (are_ports-more c.args.c.now.ports conf c.requires.ports number none)))

pub returns-clause-ports : goal.returns-clause-ports
returns-clause-ports c =
    let port = c.in_ok-port-2.port in
    let conf : PortConf = record { port = port; native = c.in_ok-native.native; control = c.in_ok-control.control; restricted = 0; guest = 0 } in
    let same : c.c.inside.ports.items ≡ c.args.c.now.ports = ap (λ v. v.ports) c.c.view_is in
    let none : is_among port c.args.c.now.ports ≡ false = sym c.if-has_port.ensures in
    let number = in_range 1 60 c.in_ok-port.port.now port (sym c.port_of.ensures.value ∙ c.in_ok-port-2.ensures.ok_part) in
    ap are_ports (c.push.ensures.items ∙ ap (λ ports. ports ++ conf ∷ []) same) ∙ are_ports-more c.args.c.now.ports conf c.requires.ports number none

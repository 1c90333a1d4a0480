use Rattle.std.proofs.Common.{◌+◌, ◌<◌, ◌++◌, ◌∷◌, [], List, length, sym, ap, ◌∙◌, arith}
use Rattle.std.proofs.lemmas.List.FromFn.{map-range_with_len_more, length-map-range_with_len}
use Rattle.switch_event.specs.declared.config.PortConf.{PortConf}
use Rattle.day_defs.specs.Office.{port_conf}
use Rattle.day_maker.proofs.office.ports.Goals as goal

pub push-requires : goal.push-requires
push-requires c =
    let fits : length c.loop-n.ports.items < 60 = omega (arith, ap length c.loop-n.invariant, length-map-range_with_len port_conf 1 c.loop-n.n) in
    (omega arith, fits)

pub loop-n-preserved : goal.loop-n-preserved
loop-n-preserved c =
    let n = c.loop-n.n in
    c.push.ensures.items
    ∙ ap (λ (ports : List PortConf). ports ++ port_conf (n + 1) ∷ []) c.loop-n.invariant
    ∙ sym (map-range_with_len_more port_conf 1 n (n + 1) (omega arith))

use Rattle.std.proofs.Common.{◌+◌, ◌++◌, [], ◌∷◌, ap, ◌∙◌, sym, arith, length, get_or, length-append}
use Rattle.wire_defs.specs.Station.{octet_text}
use Rattle.wire_core.proofs.StationLemmas.{station_text-more, after_first}
use Rattle.wire_core.proofs.text.station.Goals as goal

pub loop-octet-preserved : goal.loop-octet-preserved
loop-octet-preserved c =
    let address = c.args.m.0 in
    let i = c.loop-octet.octet-index in
    let pushed = c.push_octet-in-loop-octet.ensures ∙ ap (λ octet. c.push.new.self.items ++ octet_text octet) (after_first address i) in
    let front = c.push.ensures.items ∙ ap (λ text. text ++ 45 ∷ []) c.loop-octet.invariant.so_far in record {
      so_far = pushed ∙ ap (λ text. text ++ octet_text (get_or address (1 + i) 0)) front ∙ sym (station_text-more address i (omega arith));
      long = omega (arith, ap length pushed, length-append c.push.new.self.items (octet_text (get_or address (1 + i) 0)));
    }

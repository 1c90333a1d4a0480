-- The places are those of the settings, which are valid.
use Rattle.std.proofs.Common.{◌≡◌, List, ap, subst, sym, true, ◌∙◌}
use Rattle.switch_event.specs.declared.config.PortConf.{PortConf}
use Rattle.switch_event.specs.Config.{Config, is_valid, are_ports}
use Rattle.switch_defs.specs.Sound.{confs}
use Rattle.switch_defs.proofs.Lists.{both}
use Rattle.switch_ports.specs.Index.{place_of}
use Rattle.switch_ports.proofs.Rows.{confs_opened}
use Rattle.switch_ports.proofs.ports.Ports.open.Goals as goal

valid_numbers : (c : Config) → is_valid c ≡ true → are_ports c.ports ≡ true
valid_numbers c v = (both _ _ (both _ _ (both _ _ (both _ _ (both _ _ v).0).0).0).0).0

pub invariant_of-result : goal.invariant_of-result
invariant_of-result c =
    let same : confs c.in_ok-rows.rows.items ≡ c.args.c.now.ports = ap confs c.in_ok-rows.ensures ∙ confs_opened c.args.c.now c.args.c.now.ports in
    let given : c.as_slice.result.now ≡ c.args.c.now.ports = c.as_slice.ensures.value ∙ ap (λ (v : Config). v.ports) c.c.view_is in
    record {
      size = c.places_of.ensures.size;
      place = λ n l. c.places_of.ensures.places n l ∙ ap (place_of n) (given ∙ sym same);
      ports = subst (λ (cs : List PortConf). are_ports cs ≡ true) (sym same) (valid_numbers c.args.c.now c.requires);
    }

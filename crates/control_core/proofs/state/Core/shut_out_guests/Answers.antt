-- An item where guests were let in.
use Rattle.std.proofs.Common.{◌≡◌, ◌∙◌, [], ◌∷◌, false, ap, map, sym}
use Rattle.std.proofs.lemmas.List.{map-append}
use Rattle.switch_defs.specs.Session.{no_guests}
use Rattle.table_defs.specs.Table.{Guest}
use Rattle.table_defs.proofs.Told.{by_no_guests, by_shut}
use Rattle.table_defs.specs.declared.change.Item.TheVariants as now
use Rattle.table_defs.specs.Change.{item_of}
use Rattle.switch_ports.specs.Ports.{lets_guests}
use Rattle.turn_defs.proofs.Parts.{tells_none, tells_one}
use Rattle.control_core.proofs.Lemmas.{all_shut}
use Rattle.control_core.proofs.state.Core.shut_out_guests.Goals as goal

pub returns-then-no_guests-clause-told : goal.returns-then-no_guests-clause-told
returns-then-no_guests-clause-told c = λ s h k.
    tells_one (map item_of c.args.items.now.items) _ (Guest c.args.port false) s (no_guests c.args.port s) (by_no_guests c.args.port s k)
    (ap (map item_of) c.push.ensures.items ∙ map-append item_of c.args.items.now.items (now.Guest c.args.port false ∷ []))

pub returns-else-no_guests-clause-told : goal.returns-else-no_guests-clause-told
returns-else-no_guests-clause-told c = λ s h k.
    let shut : lets_guests c.args.port s.ports ≡ false = ap (lets_guests c.args.port) (sym h.ports) ∙ sym c.no_guests.ensures.were ∙ c.if-no_guests.false in
    tells_none (map item_of c.args.items.now.items) s (no_guests c.args.port s) (by_shut c.args.port s (all_shut c.args.port s.ports shut))

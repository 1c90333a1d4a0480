-- One port more has its second.
use Rattle.std.proofs.Common.{◌≡◌, ◌<◌, ℕ, List, ap, sym, map, length, get_or, true, arith, ◌∙◌}
use Rattle.table_defs.specs.Change.{item_of}
use Rattle.switch_defs.specs.Switch.{Port}
use Rattle.switch_defs.specs.Turn.{guest_second}
use Rattle.arrayvec.specs.ArrayVec.{ArrayVec}
use Rattle.switch_event.specs.declared.config.PortConf.{PortConf}
use Rattle.table_defs.specs.declared.change.Item.{Item as ItemNow}
use Rattle.table_defs.specs.declared.change.Item.TheVariants.{Guest}
use Rattle.table_defs.specs.Table as table
use Rattle.table_defs.specs.Table.{Item}
use Rattle.table_defs.specs.Told.{opens}
use Rattle.switch_ports.proofs.Rows.{before_it, one_more, told_open, told_shut}
use Rattle.switch_ports.proofs.ports.rows_second.Goals.{then-second, else-second}
use Rattle.switch_ports.proofs.ports.rows_second.Goals as goal

pub loop-row-preserved : goal.loop-row-preserved
loop-row-preserved c =
    let i : ℕ = c.loop-row.row-index in
    let l : i < length c.args.rows.now = omega arith in
    let x : Port = c.row-item.result in
    let here : x ≡ get_or c.args.rows.now i x = before_it guest_second c.args.rows.now c.loop-row.rows i x l c.loop-row.invariant.rows c.row-item.is in
    let rows = one_more guest_second c.args.rows.now c.loop-row.rows i x c.second.new.self l c.loop-row.invariant.rows c.row-item.is (c.second.ensures.port ∙ ap guest_second (sym c.row-item.is)) in
    let opened : c.second.result ≡ opens x = c.second.ensures.opens ∙ ap opens (sym c.row-item.is) in
    let done : c.second.new.self ≡ guest_second x = c.second.ensures.port ∙ ap guest_second (sym c.row-item.is) in
    let told : List Item = map item_of c.args.items.now.items in
    elim c.if-second.branch [
      | then-second w ↦ record {
        rows = w.rows-is ∙ rows;
        items = told_open told c.args.rows.now i x c.loop-row.items.items c.if-second.items.items (Guest w.conf.result.port true) l here (sym opened ∙ w.if-second.true)
            (ap (λ (n : ℕ). table.Guest n true) (ap (λ (k : PortConf). k.port) w.conf.ensures ∙ ap (λ (p : Port). p.conf.port) done)) c.loop-row.invariant.items (ap (λ (is : ArrayVec ItemNow). is.items) w.items-is ∙ w.push.ensures.items);
        few = omega (arith, ap (λ (is : ArrayVec ItemNow). length is.items) w.items-is, w.push.ensures.len, c.loop-row.invariant.few);
      }
      | else-second w ↦ record {
        rows = w.rows-is ∙ rows;
        items = ap (λ (is : ArrayVec ItemNow). map item_of is.items) w.items-is ∙ told_shut told c.args.rows.now i x c.loop-row.items.items l here (sym opened ∙ w.if-second.false) c.loop-row.invariant.items;
        few = omega (arith, ap (λ (is : ArrayVec ItemNow). length is.items) w.items-is, c.loop-row.invariant.few);
      }
    ]

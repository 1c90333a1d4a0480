use Rattle.std.proofs.Common.{◌++◌, ap, refl, ◌∙◌, arith}
use Rattle.out_tray.specs.Tray.{Things}
use Rattle.machine_defs.proofs.Bound.{ready_live, ready_ends, ends_formed, settles_idle}
use Rattle.machine_defs.proofs.Reading.{settled_form}
use Rattle.switch_event.specs.Frames.{frames}
use Rattle.port_machine.proofs.Loop.{under_start, under_more, under_end, under_room, under_few, same_things}
use Rattle.port_machine.proofs.settling.settle.Goals as goal

pub rows-init : goal.rows-init
rows-init c = record { under = under_start c.args.v.now c.args.tray.now.items c.requires.ready; sessions = refl; room = omega arith }

pub send-requires : goal.send-requires
send-requires c =
    let less = under_room c.args.v.now c.rows.v c.next_row.new.v c.rows.rows c.in-Some.row _ _ c.rows.invariant.under c.in-Some.ensures in
    omega (arith, less, c.rows.invariant.room, c.requires.room)

pub rows-smaller : goal.rows-smaller
rows-smaller c = omega (arith, under_room c.args.v.now c.rows.v c.next_row.new.v c.rows.rows c.in-Some.row _ _ c.rows.invariant.under c.in-Some.ensures)

pub rows-preserved : goal.rows-preserved
rows-preserved c = record {
  under = under_more c.args.v.now c.rows.v c.next_row.new.v c.rows.rows c.in-Some.row _ _ c.send.new.tray.items c.rows.invariant.under c.in-Some.ensures (ap (λ (t : Things). t.items) c.send.ensures.sent);
  sessions = ap (λ (t : Things). t.sessions) c.send.ensures.sent ∙ c.rows.invariant.sessions;
  room = omega (arith, c.rows.invariant.room, c.send.ensures.room);
}

pub returns-clause-chain : goal.returns-clause-chain
returns-clause-chain c =
    let end = under_end c.args.v.now c.rows.v c.next_row.new.v c.rows.rows _ _ c.rows.invariant.under c.in_default.ensures in
    (end.0, end.1, end.2, end.3, same_things c.rows.tray c.args.tray.now (c.args.tray.now.items ++ frames c.args.v.now end.1) c.rows.invariant.sessions end.4)

pub returns-clause-live : goal.returns-clause-live
returns-clause-live c =
    let end = under_end c.args.v.now c.rows.v c.next_row.new.v c.rows.rows _ _ c.rows.invariant.under c.in_default.ensures in
    ready_live c.requires.ready end.2

pub returns-clause-settled : goal.returns-clause-settled
returns-clause-settled c =
    let end = under_end c.args.v.now c.rows.v c.next_row.new.v c.rows.rows _ _ c.rows.invariant.under c.in_default.ensures in
    settles_idle end.2

pub returns-clause-combination : goal.returns-clause-combination
returns-clause-combination c =
    let end = under_end c.args.v.now c.rows.v c.next_row.new.v c.rows.rows _ _ c.rows.invariant.under c.in_default.ensures in
    settled_form (ends_formed end.2 48 (ready_ends c.requires.ready)).0

pub returns-clause-bound : goal.returns-clause-bound
returns-clause-bound c = under_few c.args.v.now c.rows.v c.rows.rows _ _ c.rows.invariant.under

pub returns-clause-room : goal.returns-clause-room
returns-clause-room c = omega (arith, under_few c.args.v.now c.rows.v c.rows.rows _ _ c.rows.invariant.under, c.rows.invariant.room)

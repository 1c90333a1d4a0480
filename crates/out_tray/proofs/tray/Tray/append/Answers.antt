use Rattle.std.proofs.Common.{arith, length}
use Rattle.out_tray.proofs.Append.{length_of, room_for, sound_more, view_more, room_more}
use Rattle.out_tray.proofs.tray.Tray.append.Goals as goal

pub copy_behind-requires : goal.copy_behind-requires
copy_behind-requires c =
    let fits = room_for c.self.inside.sessions c.self.inside.room (length c.args.octets.now) c.self.inside.entries.items c.self.inside.octets.items c.args.self.now
    c.self.view_is c.self.invariant.counted c.self.invariant.rises c.requires in
    omega (arith, fits, c.self.invariant.has, c.self.inside.octets.ok.0)

pub push_reserved-requires : goal.push_reserved-requires
push_reserved-requires c =
    let fits = room_for c.self.inside.sessions c.self.inside.room (length c.args.octets.now) c.self.inside.entries.items c.self.inside.octets.items c.args.self.now
    c.self.view_is c.self.invariant.counted c.self.invariant.rises c.requires in
    omega (arith, fits, c.self.invariant.holds, c.self.inside.entries.ok.0)

pub invariant_of-self : goal.invariant_of-self
invariant_of-self c =
    let fits = room_for c.self.inside.sessions c.self.inside.room (length c.args.octets.now) c.self.inside.entries.items c.self.inside.octets.items c.args.self.now
    c.self.view_is c.self.invariant.counted c.self.invariant.rises c.requires in
    let more = c.copy_behind.ensures.items in
    sound_more c.self.inside.sessions c.self.inside.room _ _ _ _ c.self.inside.entries.items c.push_reserved.new.self.items c.self.inside.octets.items c.args.octets.now
    c.copy_behind.new.room.items (record { way = c.args.way; end = c.len-end.result }) c.self.invariant c.push_reserved.ensures.items more
    (omega (arith, c.len-end.ensures, c.copy_behind.new.room.ok.0, length_of c.copy_behind.new.room.items c.self.inside.octets.items c.args.octets.now more))
    fits c.push_reserved.ensures.capacity c.copy_behind.ensures.capacity

pub returns-clause-items : goal.returns-clause-items
returns-clause-items c =
    let fits = room_for c.self.inside.sessions c.self.inside.room (length c.args.octets.now) c.self.inside.entries.items c.self.inside.octets.items c.args.self.now
    c.self.view_is c.self.invariant.counted c.self.invariant.rises c.requires in
    let more = c.copy_behind.ensures.items in
    view_more c.self.inside.sessions c.self.inside.entries.items c.push_reserved.new.self.items c.self.inside.octets.items c.args.octets.now
    c.copy_behind.new.room.items (record { way = c.args.way; end = c.len-end.result }) c.args.self.now c.self.view_is c.self.invariant.rises
    c.push_reserved.ensures.items more
    (omega (arith, c.len-end.ensures, c.copy_behind.new.room.ok.0, length_of c.copy_behind.new.room.items c.self.inside.octets.items c.args.octets.now more))

pub returns-clause-room : goal.returns-clause-room
returns-clause-room c =
    let fits = room_for c.self.inside.sessions c.self.inside.room (length c.args.octets.now) c.self.inside.entries.items c.self.inside.octets.items c.args.self.now
    c.self.view_is c.self.invariant.counted c.self.invariant.rises c.requires in
    let more = c.copy_behind.ensures.items in
    room_more c.self.inside.sessions c.self.inside.entries.items c.push_reserved.new.self.items c.self.inside.octets.items c.args.octets.now
    c.copy_behind.new.room.items (record { way = c.args.way; end = c.len-end.result }) c.args.self.now c.self.inside.room c.self.view_is c.self.invariant.counted c.self.invariant.rises
    c.push_reserved.ensures.items more
    (omega (arith, c.len-end.ensures, c.copy_behind.new.room.ok.0, length_of c.copy_behind.new.room.items c.self.inside.octets.items c.args.octets.now more)) fits

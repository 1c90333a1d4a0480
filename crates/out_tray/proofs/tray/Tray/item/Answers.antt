use Rattle.out_tray.proofs.Append.{item_at, bounds_at, count_from, read_at}
use Rattle.out_tray.proofs.tray.Tray.item.Goals as goal

pub returns-in_default : goal.returns-in_default
returns-in_default c =
    let none = c.in_default.ensures.lookup in
    rw (← c.self.view_is, count_from 0 c.self.inside.entries.items c.self.inside.octets.items, ← c.deref.ensures.value) none.3

pub part-requires-clause-rises : goal.part-requires-clause-rises
part-requires-clause-rises c =
    let some = c.in-Some.ensures.lookup in
    let read = read_at c.self.inside.entries.items c.deref.result.now c.args.n c.in-Some.entry.now c.deref.ensures.value some.3.0 some.1 in
    rw (c.start_of-start.ensures, c.deref-2.ensures.value) (bounds_at 0 c.self.inside.entries.items _ c.args.n c.in-Some.entry.now c.self.invariant.rises read).0

pub part-requires-clause-within : goal.part-requires-clause-within
part-requires-clause-within c =
    let some = c.in-Some.ensures.lookup in
    let read = read_at c.self.inside.entries.items c.deref.result.now c.args.n c.in-Some.entry.now c.deref.ensures.value some.3.0 some.1 in
    rw (c.deref-3.ensures.value) (bounds_at 0 c.self.inside.entries.items _ c.args.n c.in-Some.entry.now c.self.invariant.rises read).1

pub returns : goal.returns
returns c =
    let some = c.in-Some.ensures.lookup in
    let read = read_at c.self.inside.entries.items c.deref.result.now c.args.n c.in-Some.entry.now c.deref.ensures.value some.3.0 some.1 in
    rw (← c.self.view_is, c.sent.ensures, c.part.ensures, c.deref-3.ensures.value, c.start_of-start.ensures, c.deref-2.ensures.value)
    (item_at 0 c.self.inside.entries.items c.self.inside.octets.items c.args.n c.in-Some.entry.now read)

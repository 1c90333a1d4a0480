use Rattle.std.proofs.Common.{refl}
use Rattle.kept_defs.specs.Kept.{Entry}
use Rattle.dup_cache.proofs.Lists.{kept_more}
use Rattle.dup_cache.proofs.kept.Kept.keep.Goals as goal

pub returns : goal.returns
returns c =
    let entry : Entry = record { moment = c.args.now; sport = c.args.sport; request = c.args.request.now; reply = c.args.reply.now } in
    rw (← c.self.view_is)
    (kept_more c.self.inside.slots.items c.push_back-none.new.self.items c.self.inside.len c.min-self-inside.result entry c.self.invariant.0 c.self.invariant.2 c.min-self-inside.ensures
    (rw (c.push_back-none.ensures.items, c.pop_front.ensures.items, c.fill.ensures, c.self.invariant.1) refl))

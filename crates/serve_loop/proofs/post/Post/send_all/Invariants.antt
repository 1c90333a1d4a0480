use Rattle.std.proofs.Common.{◌≡◌, ◌≤◌, List, take}
use Rattle.switch_event.specs.Config.{Config}
use Rattle.outside_link.specs.Link.{Same, Grows}
use Rattle.serve_defs.specs.Posted.{Home, all_posted}
use Rattle.serve_loop.specs.Homes.{AreHomes}
use Rattle.serve_loop.proofs.post.Post.send_all.Given as goal

abbrev pub invariant-loop-n : goal.invariant-loop-n
invariant-loop-n g l = record {
  front : (c : Config) (homes : List Home) → c.server ≡ l.self.server → AreHomes l.self.homes.now.table homes
      → Grows (g.L.Link.sent l.fn.link) (g.L.Link.sent l.link) (all_posted c homes (take l.n l.tray.items));
  waits : Same (g.L.Link.waits l.fn.link) (g.L.Link.waits l.link);
  bound : Same (g.L.Link.bound l.fn.link) (g.L.Link.bound l.link);
  later : g.L.Link.faults l.fn.link ≤ g.L.Link.faults l.link;
}

use Rattle.std.proofs.Common.{◌≤◌, take}
use Rattle.outside_link.specs.Link.{Same}
use Rattle.serve_loop.specs.Ends.{IsBoundTo}
use Rattle.serve_loop.proofs.top.bind_all.Given as goal

abbrev pub invariant-channels : goal.invariant-channels
invariant-channels g l = record {
  sent : Same (g.L.Link.sent l.fn.link) (g.L.Link.sent l.link);
  waits : Same (g.L.Link.waits l.fn.link) (g.L.Link.waits l.link);
  bound : IsBoundTo (g.L.Link.bound l.fn.link) (g.L.Link.bound l.link) (take l.channel l.ports);
  later : g.L.Link.faults l.fn.link ≤ g.L.Link.faults l.link;
}

use Rattle.std.proofs.Common.{◌≡◌, ◌≤◌, ◌+◌, length, take}
use Rattle.outside_link.specs.Link.{Same}
use Rattle.serve_defs.specs.Served.{turn_steps}
use Rattle.serve_loop.specs.Run.{IsSound, Steps, outer_of}
use Rattle.serve_loop.proofs.server.Server.turn.Given as goal

abbrev pub invariant-channels : goal.invariant-channels
invariant-channels g l = record {
  steps : Steps g.A.Authenticator.stands g.A.Authenticator.made l.fn.self.config (outer_of l.fn.self.last (g.C.Clock.moments l.fn.clock) (g.L.Link.waits l.fn.link)) (take (l.channel + 1) turn_steps)
      (outer_of l.self.last (g.C.Clock.moments l.clock) (g.L.Link.waits l.link)) (g.K.Sink.taken l.fn.out) (g.K.Sink.taken l.out) (g.L.Link.sent l.fn.link) (g.L.Link.sent l.link) l.fn.self l.self;
  sound : IsSound g.A.Authenticator.stands g.A.Authenticator.made l.room l.self;
  number : l.self.core.number ≤ l.fn.self.core.number + 1 + l.channel;
  config : l.self.config ≡ l.fn.self.config;
  buf : length l.buf ≡ 5001;
  bound : Same (g.L.Link.bound l.fn.link) (g.L.Link.bound l.link);
  out_later : g.K.Sink.faults l.fn.out ≤ g.K.Sink.faults l.out;
  link_later : g.L.Link.faults l.fn.link ≤ g.L.Link.faults l.link;
}

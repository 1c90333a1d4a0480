use Rattle.std.proofs.Common.{◌≡◌, ◌≤◌, ◌+◌, ◌*◌}
use Rattle.outside_link.specs.Link.{Same}
use Rattle.serve_defs.specs.Served.{turns_steps}
use Rattle.serve_loop.specs.Run.{IsSound, Steps, outer_of}
use Rattle.serve_loop.proofs.server.Server.turns.Given as goal

abbrev pub invariant-turns : goal.invariant-turns
invariant-turns g l = record {
  steps : Steps g.A.Authenticator.stands g.A.Authenticator.made l.fn.self.config (outer_of l.fn.self.last (g.C.Clock.moments l.fn.clock) (g.L.Link.waits l.fn.link)) (turns_steps l.turn)
      (outer_of l.self.last (g.C.Clock.moments l.clock) (g.L.Link.waits l.link)) (g.K.Sink.taken l.fn.out) (g.K.Sink.taken l.out) (g.L.Link.sent l.fn.link) (g.L.Link.sent l.link) l.fn.self l.self;
  sound : IsSound g.A.Authenticator.stands g.A.Authenticator.made l.room l.self;
  number : l.self.core.number ≤ 61 + 7 * l.turn;
  config : l.self.config ≡ l.fn.self.config;
  bound : Same (g.L.Link.bound l.fn.link) (g.L.Link.bound l.link);
  out_later : g.K.Sink.faults l.fn.out ≤ g.K.Sink.faults l.out;
  link_later : g.L.Link.faults l.fn.link ≤ g.L.Link.faults l.link;
}

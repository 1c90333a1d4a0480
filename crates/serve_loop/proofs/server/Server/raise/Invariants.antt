use Rattle.std.proofs.Common.{◌≡◌, ◌≤◌, ◌+◌, List, ℕ, Option, length, take, map}
use Rattle.outside_link.specs.Link.{Same}
use Rattle.serve_defs.specs.Served.Step.{Up}
use Rattle.serve_loop.specs.Run.{IsSound, Steps, outer_of}
use Rattle.serve_loop.proofs.server.Server.raise.Given as goal

abbrev pub invariant-ports : goal.invariant-ports
invariant-ports g l = record {
  steps : (m : Option (List ℕ))
      → Steps g.A.Authenticator.stands g.A.Authenticator.made l.fn.self.config (outer_of l.fn.self.last m (g.L.Link.waits l.fn.link)) (map (λ p. Up p.port) (take l.n l.fn.self.config.ports))
      (outer_of l.self.last m (g.L.Link.waits l.link)) (g.K.Sink.taken l.fn.out) (g.K.Sink.taken l.out) (g.L.Link.sent l.fn.link) (g.L.Link.sent l.link) l.fn.self l.self;
  sound : IsSound g.A.Authenticator.stands g.A.Authenticator.made l.room l.self;
  number : l.self.core.number ≤ 1 + l.n;
  ends : l.n-end ≡ length l.fn.self.config.ports;
  config : l.self.config ≡ l.fn.self.config;
  bound : Same (g.L.Link.bound l.fn.link) (g.L.Link.bound l.link);
  out_later : g.K.Sink.faults l.fn.out ≤ g.K.Sink.faults l.out;
  link_later : g.L.Link.faults l.fn.link ≤ g.L.Link.faults l.link;
}

use Rattle.std.proofs.Common.{Some, slice_set, ap, ap₂, ◌∙◌}
use Rattle.std.proofs.lemmas.List.{map-set}
use Rattle.outside_link.specs.Sockets.{port_of}
use Rattle.outside_link.proofs.udp_link.UdpLinkLink.bind.Goals as goal

pub returns-in-Ok-clause-bound : goal.returns-in-Ok-clause-bound
returns-in-Ok-clause-bound g c =
    map-set port_of c.self.inside.sockets c.from-at.result (Some (c.args.port, c.in-Ok.socket)) ∙ ap₂ (λ b at. slice_set b at (Some c.args.port)) (ap (λ v. v.bound) c.self.view_is) c.from-at.ensures

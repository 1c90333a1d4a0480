use Rattle.std.proofs.Common.{ap, refl, arith}
use Rattle.history_defs.specs.Output.{first_place}
use Rattle.serve_defs.proofs.LogBack.{settings_valid, settings_ports}
use Rattle.serve_loop.proofs.run.open.Goals as goal

pub open-requires : goal.open-requires
open-requires g c = settings_valid _ c.requires

pub returns-in-Ok-clause-opened : goal.returns-in-Ok-clause-opened
returns-in-Ok-clause-opened g c = λ room. record {
  settings = refl;
  last = ap (λ k. k.clock) c.config.view_is;
  number = c.in_ok-core.ensures.number;
  sound = record { at = first_place c.args.config; standing = c.in_ok-core.ensures; settings = refl; few = omega arith; ports = settings_ports c.args.config c.requires };
}

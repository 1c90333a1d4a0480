-- What is opened stands for the opening, which is sound.
use Rattle.std.proofs.Common.{ap}
use Rattle.switch_event.specs.Config.{Config}
use Rattle.switch_defs.proofs.Soundness.{opening_is_sound}
use Rattle.control_core.proofs.state.CoreAuthenticator.open.Goals as goal

pub returns-clause-stands : goal.returns-clause-stands
returns-clause-stands c = record {
  holds = record {
    config = c.copied_config.ensures;
    clock = ap (λ (settings : Config). settings.clock) c.c.view_is;
    ports = c.in_ok-ports.ensures;
    sessions = c.in_ok-sessions.ensures c.args.c.now;
    kept = c.in_ok-kept.ensures;
  };
  sound = opening_is_sound c.args.c.now c.requires;
}

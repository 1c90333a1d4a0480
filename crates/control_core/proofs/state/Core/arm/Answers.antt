-- The port is armed as its sessions are.
use Rattle.std.proofs.Common.{◌≡◌, ℕ, not, sym, ap, map, ◌∙◌}
use Rattle.std.specs.Prelude.{◌==◌}
use Rattle.std.specs.List.{list_any}
use Rattle.switch_event.specs.Config.{Config}
use Rattle.switch_defs.specs.Switch.{on_port}
use Rattle.switch_defs.specs.Session.{armed}
use Rattle.turn_defs.proofs.Parts.{any_or_none}
use Rattle.control_core.proofs.state.Core.arm.Goals as goal

pub returns-clause-holds : goal.returns-clause-holds
returns-clause-holds c = λ t l.
    let occupied : list_any (on_port c.args.port) t.sessions ≡ not (c.count-occupied.result == 0) = any_or_none c.args.port t.sessions ∙ ap (λ (n : ℕ). not (n == 0)) (sym (c.count-occupied.ensures.count t l.sessions)) in
    record {
      config = l.config;
      clock = l.clock;
      ports = c.arm.ensures t.sessions occupied ∙ ap (λ (w : ℕ). map (armed c.args.port t.sessions w) c.args.self.now.ports) (c.guest_wait-wait.ensures ∙ ap (λ (k : Config). k.guest_wait) l.config) ∙ sym l.ports;
      sessions = l.sessions;
      kept = l.kept;
    }

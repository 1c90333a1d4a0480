use Rattle.std.proofs.Common.{◌≡◌, ℕ, ◌∙◌, Some, ap, subst, sym}
use Rattle.std.specs.Prelude.{find}
use Rattle.host_frames.specs.Heard.{event_of}
use Rattle.switch_defs.specs.Switch.{is_port, port_of}
use Rattle.control_core.proofs.Hearing.{forced_case, may_greet, turns_as, turns_greeted}
use Rattle.control_core.proofs.state.Core.hear_forced.Goals as goal

pub greet-requires-clause-forced : goal.greet-requires-clause-forced
greet-requires-clause-forced c =
    let s = c.requires.may.0 in
    let q = c.requires.may.1 in
    let up = c.requires.may.2 in
    let port = c.requires.may.3 in
    let forced = c.requires.may.4 in
    let m = c.requires.may.5 in
    (q, ap (find (is_port c.args.port)) m.stands.holds.ports ∙ subst (λ (n : ℕ). port_of n s ≡ Some q) port up.here, may_greet s q m.stands.sound up forced)

pub returns-clause-turns : goal.returns-clause-turns
returns-clause-turns c = λ s q items up port forced m.
    let h = m.stands.holds in
    let from = c.args.heard.now.from.0 in
    let e = event_of c.args.heard.now.said in
    let found : find (is_port c.args.port) c.args.self.now.ports ≡ Some q = ap (find (is_port c.args.port)) h.ports ∙ subst (λ (n : ℕ). port_of n s ≡ Some q) port up.here in
    turns_as (forced_case s q from e forced (sym c.is_start.ensures ∙ c.if-not-is_start.false))
    (turns_greeted s q c.args.port from c.args.self.now c.greet.new.self c.args.tray.now c.greet.new.tray items h port (c.greet.ensures.ports q found) (c.greet.ensures.sent q found))

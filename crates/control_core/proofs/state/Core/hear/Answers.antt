use Rattle.std.proofs.Common.{◌≡◌, ℕ, ◌∙◌, Option, Some, None, ap, subst, sym}
use Rattle.machine_defs.specs.BackendTable.{is_auto}
use Rattle.machine_vars.specs.declared.control.Control.TheVariants.{Auto}
use Rattle.host_frames.specs.Heard.{event_of}
use Rattle.switch_defs.specs.Switch.{Session, session_at}
use Rattle.host_sessions.specs.Finds.{FindsAt}
use Rattle.host_sessions.proofs.Holding.{none_found, some_found}
use Rattle.control_core.specs.Does.{IsKnown}
use Rattle.control_core.proofs.Hearing.{as_host, auto_here, auto_is, case_known, is_up, may_as, same_number, turns_as}
use Rattle.control_core.proofs.state.Core.hear.Goals as goal

pub returns-then-not-is_auto-clause-turns : goal.returns-then-not-is_auto-clause-turns
returns-then-not-is_auto-clause-turns c = λ s q k m.
    c.hear_forced.ensures.turns s q _ (is_up k) (same_number k) (ap is_auto k.controlled ∙ sym c.is_auto.ensures ∙ c.if-not-is_auto.true) m.turn

pub hear_known-requires-clause-may : goal.hear_known-requires-clause-may
hear_known-requires-clause-may c =
    let s = c.requires.may.0 in
    let q = c.requires.may.1 in
    let k = c.requires.may.2 in
    let m = c.requires.may.3 in
    let from = c.args.heard.now.from.0 in
    let auto : c.args.control ≡ Auto = auto_is c.args.control (sym c.is_auto.ensures ∙ c.if-not-is_auto.false) in
    let o : Option Session = session_at c.args.conf.port from s in
    let r = some_found c.in-Some.at o c.args.self.now.sessions s (subst (λ (at : Option ℕ). FindsAt at o c.args.self.now.sessions s) c.in-Some.is (c.find.ensures s m.turn.stands.holds.sessions)) in
    (s, r.0, record { here = r.2; host = as_host s c.args.conf.port from r.0 r.1 }, may_as (case_known s from (event_of c.args.heard.now.said) (Some r.0) k auto r.1) m)

pub returns-in-Some-clause-turns : goal.returns-in-Some-clause-turns
returns-in-Some-clause-turns c = λ s q k m.
    let from = c.args.heard.now.from.0 in
    let auto : c.args.control ≡ Auto = auto_is c.args.control (sym c.is_auto.ensures ∙ c.if-not-is_auto.false) in
    let o : Option Session = session_at c.args.conf.port from s in
    let r = some_found c.in-Some.at o c.args.self.now.sessions s (subst (λ (at : Option ℕ). FindsAt at o c.args.self.now.sessions s) c.in-Some.is (c.find.ensures s m.turn.stands.holds.sessions)) in
    let known : IsKnown c.in-Some.at r.0 c.args.conf.port from c.args.self.now s = record { here = r.2; host = as_host s c.args.conf.port from r.0 r.1 } in
    let case = case_known s from (event_of c.args.heard.now.said) (Some r.0) k auto r.1 in
    turns_as case (c.hear_known.ensures.turns s r.0 known (may_as case m))

pub returns-in-None-clause-turns : goal.returns-in-None-clause-turns
returns-in-None-clause-turns c = λ s q k m.
    let from = c.args.heard.now.from.0 in
    let auto : c.args.control ≡ Auto = auto_is c.args.control (sym c.is_auto.ensures ∙ c.if-not-is_auto.false) in
    let o : Option Session = session_at c.args.conf.port from s in
    let none : o ≡ None = none_found o c.args.self.now.sessions s (subst (λ (at : Option ℕ). FindsAt at o c.args.self.now.sessions s) c.in-None.is (c.find.ensures s m.turn.stands.holds.sessions)) in
    let case = case_known s from (event_of c.args.heard.now.said) None k auto none in
    turns_as case (c.hear_first.ensures.turns s q (auto_here k auto) none (may_as case m))

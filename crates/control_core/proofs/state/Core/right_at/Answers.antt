-- The n-th session is the one of its port and address.
use Rattle.std.proofs.Common.{◌∙◌, ℕ, Option, Some, ap, subst, sym}
use Rattle.switch_defs.specs.Switch.{Session, port_of}
use Rattle.switch_defs.specs.Decide.{restricted_of, right_by}
use Rattle.host_sessions.specs.Finds.{FindsAt, IsAt}
use Rattle.control_core.proofs.Lemmas.{right_in_place}
use Rattle.control_core.proofs.state.Core.right_at.Goals as goal

pub returns-in-Some : goal.returns-in-Some
returns-in-Some c = λ s y h a n p.
    let at : IsAt c.in-Some.at y c.args.self.now.sessions s = subst (λ (o : Option Session). FindsAt (Some c.in-Some.at) o c.args.self.now.sessions s) n.at (c.in-Some.ensures s h.sessions) in
    c.right.ensures.right y s at ∙ ap (λ (r : ℕ). right_by r y) (c.restricted.ensures s h ∙ ap (λ (m : ℕ). restricted_of (port_of m s)) (sym p)) ∙ right_in_place s y a n.there

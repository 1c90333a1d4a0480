use Rattle.std.proofs.Common.{◌≡◌, Bool, true, false, ◌||◌, ◌∙◌, refl, sym, subst}
use Rattle.std.specs.Prelude.{◌==◌}
use Rattle.switch_defs.specs.Turn.{second_by}
use Rattle.host_sessions.specs.Does.{Does, a_second_later, is_gone}
use Rattle.host_sessions.proofs.Passing.{is_at_rest}
use Rattle.host_sessions.proofs.sessions.Sessions.second.Goals as goal

pub returns-then-is_over-clause-does : goal.returns-then-is_over-clause-does
returns-then-is_over-clause-does c = λ y s holds config i between.
    let over : (y.standing.end_while == 1) ≡ true = sym (c.is_over.ensures y s i) ∙ c.if-is_over.true in
    let P : Bool → Type 0 = λ b. Does (second_by b y s) c.disconnect.new.self c.args.tray.now c.disconnect.new.tray in
    subst P (sym over) (c.disconnect.ensures.does y s holds i (is_at_rest c.args.self.now s c.args.at y between i).goes_on)

pub returns-then-is_over-clause-gone : goal.returns-then-is_over-clause-gone
returns-then-is_over-clause-gone c = λ y s holds config i between.
    let over : (y.standing.end_while == 1) ≡ true = sym (c.is_over.ensures y s i) ∙ c.if-is_over.true in
    let P : Bool → Type 0 = λ b. true ≡ (b || is_gone (a_second_later y s)) in
    subst P (sym over) refl

pub returns-else-is_over-clause-does : goal.returns-else-is_over-clause-does
returns-else-is_over-clause-does c = λ y s holds config i between.
    let over : (y.standing.end_while == 1) ≡ false = sym (c.is_over.ensures y s i) ∙ c.if-is_over.false in
    let P : Bool → Type 0 = λ b. Does (second_by b y s) c.pass.new.self c.args.tray.now c.pass.new.tray in
    subst P (sym over) (c.pass.ensures.does y s holds config i between)

use Rattle.std.proofs.Common.{◌∙◌, ap, not, subst, sym}
use Rattle.control_core.specs.declared.state.Core.{Core}
use Rattle.control_core.specs.Stands.{Holds}
use Rattle.control_core.proofs.state.Core.second_of.Goals as goal

pub pass-requires-clause-may : goal.pass-requires-clause-may
pass-requires-clause-may c =
    let s = c.requires.may.1 in
    let h : Holds c.args.self.now s = c.requires.may.2 in
    (c.requires.may.0, s, subst (λ (k : Core). Holds k s) (sym (c.idle.ensures.stays c.if-not-idle.true s h)) h, c.requires.may.3, c.requires.may.4)

pub returns-then-not-idle-clause-does : goal.returns-then-not-idle-clause-does
returns-then-not-idle-clause-does c = λ y s h next may.
    c.pass.ensures.does y s (subst (λ (k : Core). Holds k s) (sym (c.idle.ensures.stays c.if-not-idle.true s h)) h) next may

pub returns-then-not-idle-clause-closed : goal.returns-then-not-idle-clause-closed
returns-then-not-idle-clause-closed c = λ y s h next may.
    c.pass.ensures.closed y s (subst (λ (k : Core). Holds k s) (sym (c.idle.ensures.stays c.if-not-idle.true s h)) h) next may

pub returns-else-not-idle-clause-does : goal.returns-else-not-idle-clause-does
returns-else-not-idle-clause-does c = λ y s h next may.
    (c.idle.ensures.idles c.if-not-idle.false y s h next may).does c.args.tray.now c.args.items.now.items

pub returns-else-not-idle-clause-closed : goal.returns-else-not-idle-clause-closed
returns-else-not-idle-clause-closed c = λ y s h next may.
    ap not c.if-not-idle.false ∙ sym (c.idle.ensures.idles c.if-not-idle.false y s h next may).goes_on

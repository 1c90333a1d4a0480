use Rattle.std.proofs.Common.{◌++◌, ap, ◌∙◌}
use Rattle.trace_defs.specs.Text.{switch_text}
use Rattle.trace_print.proofs.Texts.{on_ok, last_same}
use Rattle.trace_print.proofs.settings.put_last.Goals as goal

pub returns-clause-printed : goal.returns-clause-printed
returns-clause-printed c =
    let same = c.c.view_is in
    on_ok c.put.result (λ h. h ∙ ap (λ l. c.args.out.now.items ++ l) (last_same c.args.c.now _ _ _ _ _ (c.from.ensures ∙ ap (λ v. v.guest_wait) same) (ap (λ v. v.window) same) (c.switch_text.ensures ∙ ap (λ v. switch_text v.require_ma) same) (ap (λ v. v.clock) same) (ap (λ v. v.seed) same))) c.put.ensures.printed

use Rattle.std.proofs.Common.{◌++◌, ap, ◌∙◌}
use Rattle.trace_defs.specs.Text.{switch_text}
use Rattle.trace_print.proofs.Texts.{on_ok, times_same}
use Rattle.trace_print.proofs.settings.put_times.Goals as goal

pub returns-clause-printed : goal.returns-clause-printed
returns-clause-printed c =
    let same = c.c.view_is in
    on_ok c.put.result (λ h. h ∙ ap (λ l. c.args.out.now.items ++ l) (times_same c.args.c.now.times _ _ _ _ _ (c.from.ensures ∙ ap (λ v. v.times.quiet) same) (c.from-2.ensures ∙ ap (λ v. v.times.server) same) (c.from-3.ensures ∙ ap (λ v. v.times.reauth_max) same) (c.from-4.ensures ∙ ap (λ v. v.times.reauth_period) same) (c.switch_text.ensures ∙ ap (λ v. switch_text v.times.reauth) same))) c.put.ensures.printed

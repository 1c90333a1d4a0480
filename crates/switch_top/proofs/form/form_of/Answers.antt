use Rattle.std.proofs.Common.{arith}
use Rattle.switch_top.proofs.FormLemmas.{none_else}
use Rattle.switch_top.proofs.form.form_of.Goals as goal

pub returns-in_default-2-clause-form : goal.returns-in_default-2-clause-form
returns-in_default-2-clause-form c =
    let low = c.in_default.len_at_least in
    let high = c.in_default.len_below in
    none_else _ c.args.words.now (λ e. omega (arith, low, high, e)) (λ e. omega (arith, low, high, e)) (λ e. omega (arith, low, high, e)) (λ e. omega (arith, low, high, e))

pub returns-in_default-3-clause-form : goal.returns-in_default-3-clause-form
returns-in_default-3-clause-form c =
    let low = c.in_default.len_at_least in
    none_else _ c.args.words.now (λ e. omega (arith, low, e)) (λ e. omega (arith, low, e)) (λ e. omega (arith, low, e)) (λ e. omega (arith, low, e))

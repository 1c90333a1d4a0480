use Rattle.std.proofs.Common.{◌≡◌, sym, ap, ◌∙◌, arith, ◌∷◌, ◌++◌, []}
use Rattle.std.proofs.lemmas.Fmt.{decimal_digit}
use Rattle.trace_defs.specs.Text.{lane_mark}
use Rattle.trace_print.proofs.records.lane_mark.Goals as goal

two : 64 ∷ 50 ∷ 32 ∷ [] ≡ lane_mark 2
two = ap (λ n. 64 ∷ n ++ 32 ∷ []) (sym (decimal_digit 2 (omega arith)))

three : 64 ∷ 51 ∷ 32 ∷ [] ≡ lane_mark 3
three = ap (λ n. 64 ∷ n ++ 32 ∷ []) (sym (decimal_digit 3 (omega arith)))

pub returns-in-2 : goal.returns-in-2
returns-in-2 c = two ∙ ap lane_mark (sym c.in-2.is)

pub returns-in_default : goal.returns-in_default
returns-in_default c =
    let is : 3 ≡ c.args.lane = omega arith in
    three ∙ ap lane_mark is

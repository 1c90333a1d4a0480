use Rattle.std.proofs.Common.{◌≡◌, ◌+◌, ◌-◌, ◌*◌, sym, ap, ◌∙◌, arith, get_or, drop}
use Rattle.std.specs.Str.Parse.{digits_value_after}
use Rattle.wire_core.proofs.DigitLemmas.{HasDigit-from, digits_value_after-ge, rest_whole}
use Rattle.std.specs.List.{list_all}
use Rattle.std.specs.Char.{is_ascii_digit}
use Rattle.wire_core.proofs.number.value_up_to.Goals as goal

pub overflow_sub-digit : goal.overflow_sub-digit
overflow_sub-digit c = (HasDigit-from 0 c.loop-rest.rest.now c.in-len1-up.len_at_least c.loop-rest.invariant.digits).low

pub returns-then-next-from : goal.returns-then-next-from
returns-then-next-from c =
    let digit = HasDigit-from c.loop-rest.value c.loop-rest.rest.now c.in-len1-up.len_at_least c.loop-rest.invariant.digits in
    let grows = digits_value_after-ge (c.loop-rest.value * 10 + (get_or c.loop-rest.rest.now 0 0 - 48)) (drop 1 c.loop-rest.rest.now) in
    λ h. omega (arith, digit.value, grows, c.loop-rest.invariant.same)

pub loop-rest-preserved : goal.loop-rest-preserved
loop-rest-preserved c =
    let rest = c.loop-rest.rest.now in
    let digit = HasDigit-from c.loop-rest.value rest c.in-len1-up.len_at_least c.loop-rest.invariant.digits in
    let next : c.from.result * 10 + c.from-in-len1-up.result ≡ c.loop-rest.value * 10 + (get_or rest 0 0 - 48) = omega arith in record {
      within = omega arith;
      digits = ap (list_all is_ascii_digit) (rest_whole rest) ∙ digit.rest;
      same = ap (digits_value_after 10 (c.from.result * 10 + c.from-in-len1-up.result)) (rest_whole rest)
          ∙ ap (λ n. digits_value_after 10 n (drop 1 rest)) next ∙ sym digit.value ∙ c.loop-rest.invariant.same;
    }

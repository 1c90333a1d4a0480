use Rattle.std.proofs.lemmas.List.{length-take-le}
use Rattle.std.proofs.Common.{◌≡◌, ap, ◌/◌, ◌∙◌, arith, inl, inr, length}
use Rattle.trace_lang.proofs.HexLemmas.{hex_in-out, secret-Ok, secret-Err}
use Rattle.trace_lang.proofs.values.secret_of.Goals as goal
use Rattle.trace_lang.proofs.values.secret_of.Goals.{then-count-eq0-via-then-count-eq0, then-count-eq0-via-else-count-eq0+then-count-gt64}

pub returns-then-count-eq0 : goal.returns-then-count-eq0
returns-then-count-eq0 c =
    elim c.then-count-eq0.branch [
      | then-count-eq0-via-then-count-eq0 w ↦ hex_in-out 1 64 c.args.text.now (omega arith) (inl (omega (arith, w.if-count-eq0)))
      | then-count-eq0-via-else-count-eq0+then-count-gt64 w ↦ hex_in-out 1 64 c.args.text.now (omega arith) (inr (omega (arith, w.if-count-gt64)))
    ]

pub returns-in-Ok : goal.returns-in-Ok
returns-in-Ok c =
    let full : length c.from-secret.result.items ≡ 64 = ap length c.from-secret.ensures.0 in
    let long : length c.truncate.new.self.items ≡ length c.args.text.now / 2 = ap length c.truncate.ensures.items ∙ length-take-le (length c.args.text.now / 2) c.from-secret.result.items (omega (arith, full, c.if-count-gt64.false)) in
    secret-Ok c.args.text.now c.truncate.new.self.items c.as_mut_slice.result.now c.decode_to_slice.new.out c.decode_to_slice.result c.in-Ok.field-0 c.as_mut_slice.ensures.value
    c.decode_to_slice.ensures.value c.in-Ok.is (omega (arith, c.if-count-eq0.false)) (omega (arith, c.if-count-gt64.false))

pub returns-in-Err : goal.returns-in-Err
returns-in-Err c =
    let full : length c.from-secret.result.items ≡ 64 = ap length c.from-secret.ensures.0 in
    let long : length c.truncate.new.self.items ≡ length c.args.text.now / 2 = ap length c.truncate.ensures.items ∙ length-take-le (length c.args.text.now / 2) c.from-secret.result.items (omega (arith, full, c.if-count-gt64.false)) in
    secret-Err c.args.text.now (length c.as_mut_slice.result.now) c.decode_to_slice.result c.in-Err.field-0 c.decode_to_slice.new.out c.decode_to_slice.ensures.value c.in-Err.is
    (ap length c.as_mut_slice.ensures.value ∙ long)

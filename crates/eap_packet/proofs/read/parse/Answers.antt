use Rattle.std.proofs.Common.{◌∙◌, sym, subst, refl, arith, Result, ◌*◌, ◌+◌}
use Rattle.std.proofs.lemmas.List.{take_rest}
use Rattle.wire_defs.specs.declared.EapDrop.{EapDrop}
use Rattle.wire_defs.specs.Eap.{Eap, EapOf}
use Rattle.wire_defs.proofs.EapLemmas.{EapOf-eap_of, eap_of_only}
use Rattle.eap_packet.proofs.EapLemmas.{typed_read, bare_read}
use Rattle.eap_packet.proofs.read.parse.Goals as goal

pub returns-then-code-le2-clause-value : goal.returns-then-code-le2-clause-value
returns-then-code-le2-clause-value c =
    let size = c.from.result * 256 + c.from-2.result in
    sym (typed_read c.args.b.now _ _ _ _ _ size (omega arith) refl refl refl (omega arith) (omega arith) (omega arith) (sym c.if-is_bad_length.ensures) refl (take_rest _ 5))

pub returns-then-code-le2-clause-grammar : goal.returns-then-code-le2-clause-grammar
returns-then-code-le2-clause-grammar c =
    let P : Result Eap EapDrop → Type 0 = EapOf c.args.b.now in
    subst P (sym (returns-then-code-le2-clause-value c)) (EapOf-eap_of c.args.b.now (λ k. let fits = c.type_inv.b k in omega arith))

pub returns-then-code-le2-clause-only : goal.returns-then-code-le2-clause-only
returns-then-code-le2-clause-only c = λ r h. eap_of_only c.args.b.now r h ∙ sym (returns-then-code-le2-clause-value c)

pub returns-else-code-le2-clause-value : goal.returns-else-code-le2-clause-value
returns-else-code-le2-clause-value c =
    let size = c.from.result * 256 + c.from-2.result in
    sym (bare_read c.args.b.now _ _ _ _ size (omega arith) refl refl (omega arith) (omega arith) (omega arith) (sym c.if-is_bad_length.ensures) refl refl)

pub returns-else-code-le2-clause-grammar : goal.returns-else-code-le2-clause-grammar
returns-else-code-le2-clause-grammar c =
    let P : Result Eap EapDrop → Type 0 = EapOf c.args.b.now in
    subst P (sym (returns-else-code-le2-clause-value c)) (EapOf-eap_of c.args.b.now (λ k. let fits = c.type_inv.b k in omega arith))

pub returns-else-code-le2-clause-only : goal.returns-else-code-le2-clause-only
returns-else-code-le2-clause-only c = λ r h. eap_of_only c.args.b.now r h ∙ sym (returns-else-code-le2-clause-value c)

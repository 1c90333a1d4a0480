use Rattle.std.proofs.Common.{◌∙◌, sym, subst, ap, arith, Result, ◌*◌, ◌+◌}
use Rattle.wire_defs.specs.Eapol.{Eapol, EapolOf}
use Rattle.wire_defs.specs.declared.EapolDrop.{EapolDrop}
use Rattle.wire_defs.proofs.EapolLemmas.{EapolOf-eapol_of, eapol_of_only}
use Rattle.eapol_frame.proofs.EapolLemmas.{packet_read, start_read, logoff_read}
use Rattle.eapol_frame.proofs.read.parse.Goals as goal
use Rattle.eapol_frame.proofs.read.parse.Goals.{in-0+else-after-size, in-1, in-2}

pub returns-clause-value : goal.returns-clause-value
returns-clause-value c =
    let octets = c.args.b.now in
    let there = c.in-len4-up.len_at_least in
    elim c.match-number.branch [
      | in-0+else-after-size w ↦ sym (packet_read octets _ _ (w.from.result * 256 + w.from-in-0.result) there w.in-0.is (omega arith) w.if-after-size.false (ap (λ p. p.0) w.kind-is) (ap (λ p. p.1.now) w.kind-is))
      | in-1 w ↦ sym (start_read octets _ _ there w.in-1.is (ap (λ p. p.0) w.kind-is) (ap (λ p. p.1.now) w.kind-is))
      | in-2 w ↦ sym (logoff_read octets _ _ there w.in-2.is (ap (λ p. p.0) w.kind-is) (ap (λ p. p.1.now) w.kind-is))
    ]

pub returns-clause-grammar : goal.returns-clause-grammar
returns-clause-grammar c =
    let P : Result Eapol EapolDrop → Type 0 = EapolOf c.args.b.now in
    subst P (sym (returns-clause-value c)) (EapolOf-eapol_of c.args.b.now (λ k. let fits = c.type_inv.b k in omega arith))

pub returns-clause-only : goal.returns-clause-only
returns-clause-only c = λ r h. eapol_of_only c.args.b.now r h ∙ sym (returns-clause-value c)

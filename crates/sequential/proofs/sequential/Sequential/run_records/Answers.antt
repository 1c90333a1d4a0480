use Rattle.std.proofs.Common.{take, drop, ap, subst, ◌∙◌, sym, ◌∷◌, [], ◌++◌, ◌+◌, append_assoc, ◌≡◌}
use Rattle.std.proofs.lemmas.List.{take_more, take_all, take-append-drop}
use Rattle.sequential.specs.Records.{PrintsAll}
use Rattle.sequential.proofs.RecordLemmas.{PrintsAll-none, PrintsAll-more, PrintsAll-whole, may_one, on_err}
use Rattle.sequential.proofs.sequential.Sequential.run_records.Goals as goal

pub loop-entry-init : goal.loop-entry-init
loop-entry-init g c = PrintsAll-none g.A.Authenticator.stands g.A.Authenticator.made c.args.self.now c.args.text.now.items

pub run_record-requires : goal.run_record-requires
run_record-requires g c =
    let all = c.args.records.now in
    let i = c.loop-entry.entry-index in
    let r = c.entry-item.result in
    let more : take (i + 1) all ≡ take i all ++ r ∷ [] = take_more all i r c.loop-entry-test.true ∙ ap (λ x. take i all ++ x ∷ []) (sym c.entry-item.is) in
    let split : all ≡ take i all ++ r ∷ drop (i + 1) all =
    sym (take-append-drop (i + 1) all) ∙ ap (λ l. l ++ drop (i + 1) all) more ∙ append_assoc (take i all) (r ∷ []) (drop (i + 1) all) in
    record {
      place = may_one g.A.Authenticator.stands g.A.Authenticator.made c.args.self.now c.loop-entry.self (take i all) all r (drop (i + 1) all) _ _ c.requires.place.0 c.requires.place.1 c.requires.place.2 c.loop-entry.invariant split;
    }

pub loop-entry-preserved : goal.loop-entry-preserved
loop-entry-preserved g c =
    PrintsAll-more g.A.Authenticator.stands g.A.Authenticator.made c.args.self.now c.loop-entry.self c.run_record.new.self _ _ c.entry-item.result _ _ _ c.loop-entry.invariant c.in_ok-run_record.ensures.block
    (take_more c.args.records.now c.loop-entry.entry-index c.entry-item.result c.loop-entry-test.true ∙ ap (λ r. take c.loop-entry.entry-index c.args.records.now ++ r ∷ []) (sym c.entry-item.is))

pub returns-clause-blocks : goal.returns-clause-blocks
returns-clause-blocks g c =
    PrintsAll-whole g.A.Authenticator.stands g.A.Authenticator.made c.args.self.now c.loop-entry.self _ _ _ _ c.loop-entry.invariant (take_all c.loop-entry.entry-index c.args.records.now c.loop-entry-test.false)

pub returns-in_err-run_record-clause-short : goal.returns-in_err-run_record-clause-short
returns-in_err-run_record-clause-short g c =
    let all = c.args.records.now in
    let i = c.loop-entry.entry-index in
    on_err c.from_residual.result (
      i,
      c.loop-entry-test.true,
      c.loop-entry.self,
      subst (PrintsAll g.A.Authenticator.stands g.A.Authenticator.made c.args.self.now c.loop-entry.self (take i all) c.args.text.now.items) (sym c.in_err-run_record.ensures.kept) c.loop-entry.invariant,
    )

use Rattle.std.proofs.Common.{◌≡◌, ◌++◌, ℕ, List, length, take, drop, refl, sym, ap, subst, ◌∙◌}
use Rattle.std.proofs.Math.Seq.{take-append_seam}
use Rattle.std.proofs.lemmas.List.{map-append}
use Rattle.trace_defs.specs.Entered.{entered, entered_all}
use Rattle.event_record.specs.Record.{event_of}
use Rattle.day_maker.specs.declared.notes.Note.{Note}
use Rattle.day_maker.specs.Hearing.{Hears}
use Rattle.day_maker.proofs.Making.{turned-heard}
use Rattle.day_maker.proofs.maker.DayMaker.control.Goals as goal

pub returns-clause-adds : goal.returns-clause-adds
returns-clause-adds g c =
    let notes : List Note = c.turn.new.self.notes.items in
    let heard : List Note = c.hear_all.new.notes in
    let same : length heard ≡ length notes = c.hear_all.auto.notes ∙ ap length c.deref_mut.ensures.value in
    let long : c.turn.new.self.notes.len ≡ length heard = c.turn.new.self.notes.ok.0 ∙ sym same in
    let back : take c.turn.new.self.notes.len (heard ++ drop (length heard) notes) ≡ heard =
    ap (λ (n : ℕ). take n (heard ++ drop (length heard) notes)) long ∙ take-append_seam heard (drop (length heard) notes) in (
      c.turn.ensures.hosts,
      λ d s. (
        turned-heard g.A.Authenticator.stands g.A.Authenticator.made c.args.self.now c.turn.new.self _ d (event_of c.args.what) s (c.turn.ensures.turned d s) refl refl refl
            (ap length back ∙ same) (λ sent hears. subst (λ (xs : List Note). Hears xs (sent ++ c.turn.new.self.tray.items)) (sym back) (c.hear_all.ensures sent (subst (λ (xs : List Note). Hears xs sent) (sym c.deref_mut.ensures.value) hears))),
        ap entered_all c.in_ok-push.ensures.items ∙ map-append entered c.args.records.now.items _,
      ),
    )

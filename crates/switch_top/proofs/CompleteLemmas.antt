-- A run over a trace that runs is done, where nothing outside failed and there was memory.
use Rattle.std.proofs.Common.{◌≡◌, ◌⊎◌, inl, inr, ℕ, List, Option, None, Some, refl, sym, ◌∙◌, subst}
use Rattle.trace_defs.specs.Trace.{fate}
use Rattle.switch_event.specs.Config.{empty}
use Rattle.race_run.specs.declared.ending.Ending.{Ending}
use Rattle.race_run.specs.declared.ending.Ending.TheVariants.{Done, NoMemory, Refused, ReadFault, WriteFault, Full, TooLong}
use Rattle.race_run.specs.Ending.{OfText, status_of}
use Rattle.race_run.specs.Runs.{Phased}
use Rattle.switch_top.specs.Top.{Counts, IsByText, TellsTrace, Writes}
use Rattle.switch_top.proofs.TopLemmas.{each_text}

-- the status that the text of such a trace has
fated : (limit room : ℕ) (left : Option (List ℕ)) (status : ℕ) → TellsTrace limit room left → OfText left (λ text. fate limit room empty text ≡ status) → status ≡ 0
fated limit room None status runs h = absurd runs
fated limit room (Some text) status runs h = sym h ∙ runs

done_at : (ending : Ending) → (IsByText (status_of ending) → status_of ending ≡ 0) → (ending ≡ ReadFault → ⊥) → (ending ≡ WriteFault → ⊥) → (status_of ending ≡ 0) ⊎ (status_of ending ≡ 1)
done_at Done by_text unread unwritten = inl refl
done_at NoMemory by_text unread unwritten = inr refl
done_at (Refused line why) by_text unread unwritten = inl (by_text (inr (inl refl)))
done_at Full by_text unread unwritten = inl (by_text (inr (inr (inl refl))))
done_at TooLong by_text unread unwritten = inl (by_text (inr (inr (inr refl))))
done_at ReadFault by_text unread unwritten = absurd (unread refl)
done_at WriteFault by_text unread unwritten = absurd (unwritten refl)

module _ (limit room : ℕ) (before left origin after : Option (List ℕ)) (ending : Ending) (status : ℕ) where
  done : status ≡ status_of ending → (IsByText status → OfText before (λ text. fate limit room empty text ≡ status)) → TellsTrace limit room before
      → (ending ≡ ReadFault → ⊥) → (ending ≡ WriteFault → ⊥) → (status ≡ 0) ⊎ (status ≡ 1)
  done e by_text runs unread unwritten =
      subst (λ s. (s ≡ 0) ⊎ (s ≡ 1)) (sym e)
      (done_at ending (λ s. sym e ∙ fated limit room before status runs (by_text (subst IsByText (sym e) s))) unread unwritten)

  -- of a run
  pub run_done : (gave ran : Phased) → Writes gave ran limit room empty before left origin after status → status ≡ status_of ending → TellsTrace limit room before
      → (ending ≡ ReadFault → ⊥) → (ending ≡ WriteFault → ⊥) → (status ≡ 0) ⊎ (status ≡ 1)
  run_done gave ran writes e = done e (λ s. each_text before (λ text h. h.fated) (writes.by_text s))

  -- of a count
  pub count_done : Counts limit room empty before left origin after status → status ≡ status_of ending → TellsTrace limit room before
      → (ending ≡ ReadFault → ⊥) → (ending ≡ WriteFault → ⊥) → (status ≡ 0) ⊎ (status ≡ 1)
  count_done counts e = done e (λ s. each_text before (λ text h. h.fated) (counts.by_text s))

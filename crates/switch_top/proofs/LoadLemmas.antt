-- What the end of a day says, by its status.
use Rattle.std.proofs.Common.{◌≡◌, ◌⊎◌, inl, inr, ℕ, List, Option, Some, refl, sym, subst, arith}
use Rattle.race_run.specs.declared.ending.Ending.{Ending}
use Rattle.race_run.specs.declared.ending.Ending.TheVariants.{Done, NoMemory, Refused, ReadFault, WriteFault, Full, TooLong}
use Rattle.race_run.specs.Ending.{status_of}
use Rattle.day_load.specs.Ending.{LoadEnds}
use Rattle.switch_top.specs.declared.form.Form.{Form}
use Rattle.switch_top.specs.declared.form.Form.TheVariants.{Load}
use Rattle.switch_top.specs.Top.{Loads}
use Rattle.switch_top.proofs.FormLemmas.{loaded_so}

module _ (hosts : ℕ) (origin after : Option (List ℕ)) where
  loads_at : (ending : Ending) → LoadEnds hosts origin after ending → Loads hosts origin after (status_of ending)
  loads_at Done r = record { no_other = inl refl; whole = λ e. r; nothing = λ e. absurd (omega (arith, e)); write_fault = λ e. absurd (omega (arith, e)) }
  loads_at NoMemory r = record { no_other = inr (inl refl); whole = λ e. absurd (omega (arith, e)); nothing = λ e. r; write_fault = λ e. absurd (omega (arith, e)) }
  loads_at WriteFault r = record { no_other = inr (inr refl); whole = λ e. absurd (omega (arith, e)); nothing = λ e. absurd (omega (arith, e)); write_fault = λ e. r }
  loads_at (Refused line why) r = absurd r
  loads_at ReadFault r = absurd r
  loads_at Full r = absurd r
  loads_at TooLong r = absurd r

  done_at : (ending : Ending) → LoadEnds hosts origin after ending → (ending ≡ WriteFault → ⊥) → (status_of ending ≡ 0) ⊎ (status_of ending ≡ 1)
  done_at Done r unfailed = inl refl
  done_at NoMemory r unfailed = inr refl
  done_at WriteFault r unfailed = absurd (unfailed refl)
  done_at (Refused line why) r unfailed = absurd r
  done_at ReadFault r unfailed = absurd r
  done_at Full r unfailed = absurd r
  done_at TooLong r unfailed = absurd r

  -- without a write fault it is run, unless there was no memory
  pub load_done : (ending : Ending) (status : ℕ) → LoadEnds hosts origin after ending → status ≡ status_of ending → (ending ≡ WriteFault → ⊥) → (status ≡ 0) ⊎ (status ≡ 1)
  load_done ending status r e unfailed = subst (λ s. (s ≡ 0) ⊎ (s ≡ 1)) (sym e) (done_at ending r unfailed)

-- what was written of a day of as many hosts as were asked for
pub loads_so : (form : Option Form) (n hosts : ℕ) (origin after : Option (List ℕ)) (ending : Ending) (status : ℕ) → form ≡ Some (Load n) → form ≡ Some (Load hosts)
    → LoadEnds hosts origin after ending → status ≡ status_of ending → Loads n origin after status
loads_so form n hosts origin after ending status asked is r e =
    loaded_so (λ h. Loads h origin after status) form n hosts asked is (subst (Loads hosts origin after) (sym e) (loads_at hosts origin after ending r))

-- What the end of a run on several threads says of a text that the source tells.
use Rattle.std.proofs.Common.{◌≡◌, ℕ, List, Option, Some, refl, sym, ◌∙◌, subst, arith}
use Rattle.switch_event.specs.Config.{Config}
use Rattle.race_run.specs.declared.ending.Ending.{Ending}
use Rattle.race_run.specs.declared.ending.Ending.TheVariants.{Done, NoMemory, Refused, ReadFault, WriteFault, Full, TooLong}
use Rattle.race_run.specs.Ending.{OfText, RunEnds, refusal_of, status_of, ending_text}
use Rattle.outside_text.specs.Streams.{Says}
use Rattle.race_phases.specs.Raced.{RaceEnds, begun_by, legal_by}
use Rattle.switch_top.specs.declared.form.Form.{Form}
use Rattle.switch_top.specs.declared.form.Form.TheVariants.{Race}
use Rattle.switch_top.proofs.FormLemmas.{raced_so}
use Rattle.switch_top.specs.Top.{RaceShort, Writes}
use Rattle.switch_top.proofs.TopLemmas.{run_writes, run_refused}

module _ (lanes workers limit room : ℕ) (config : Config) (before left origin after : Option (List ℕ)) where
  -- it is a run that ends, but where there was no memory
  abbrev pub Races : Ending → Type 0
  Races ending = RunEnds (begun_by lanes workers) (legal_by lanes workers) limit room config before left origin after ending

  by_end : (ending : Ending) → RaceEnds lanes workers limit room config before left origin after ending → (ending ≡ NoMemory → ⊥) → Races ending
  by_end NoMemory r some = absurd (some refl)
  by_end Done r some = r
  by_end (Refused line why) r some = r
  by_end ReadFault r some = r
  by_end WriteFault r some = r
  by_end Full r some = r
  by_end TooLong r some = r

  none_written : Writes (begun_by lanes workers) (legal_by lanes workers) limit room config before left origin after 1
  none_written = record { by_text = λ s. absurd (grind arith); read_fault = λ e. absurd (omega (arith, e)); write_fault = λ e. absurd (omega (arith, e)) }

  writes_at : (ending : Ending) → RaceEnds lanes workers limit room config before left origin after ending
      → Writes (begun_by lanes workers) (legal_by lanes workers) limit room config before left origin after (status_of ending)
  writes_at NoMemory r = none_written
  writes_at Done r = run_writes (begun_by lanes workers) (legal_by lanes workers) limit room config before left origin after Done 0 r refl
  writes_at (Refused line why) r = run_writes (begun_by lanes workers) (legal_by lanes workers) limit room config before left origin after (Refused line why) 3 r refl
  writes_at ReadFault r = run_writes (begun_by lanes workers) (legal_by lanes workers) limit room config before left origin after ReadFault 4 r refl
  writes_at WriteFault r = run_writes (begun_by lanes workers) (legal_by lanes workers) limit room config before left origin after WriteFault 5 r refl
  writes_at Full r = run_writes (begun_by lanes workers) (legal_by lanes workers) limit room config before left origin after Full 6 r refl
  writes_at TooLong r = run_writes (begun_by lanes workers) (legal_by lanes workers) limit room config before left origin after TooLong 8 r refl

  -- what it wrote, by its status
  pub race_writes : (ending : Ending) (status : ℕ) → RaceEnds lanes workers limit room config before left origin after ending → status ≡ status_of ending
      → Writes (begun_by lanes workers) (legal_by lanes workers) limit room config before left origin after status
  race_writes ending status r e = subst (Writes (begun_by lanes workers) (legal_by lanes workers) limit room config before left origin after) (sym e) (writes_at ending r)

  short_at : (ending : Ending) → RaceEnds lanes workers limit room config before left origin after ending → status_of ending ≡ 1
      → RaceShort (begun_by lanes workers) limit room config before left origin after
  short_at NoMemory r one = record { ending = r.0; ends = r.1 }
  short_at Done r one = absurd (omega arith)
  short_at (Refused line why) r one = absurd (omega arith)
  short_at ReadFault r one = absurd (omega arith)
  short_at WriteFault r one = absurd (omega arith)
  short_at Full r one = absurd (omega arith)
  short_at TooLong r one = absurd (omega arith)

  race_shorter : (ending : Ending) (status : ℕ) → RaceEnds lanes workers limit room config before left origin after ending → status ≡ status_of ending → status ≡ 1
      → RaceShort (begun_by lanes workers) limit room config before left origin after
  race_shorter ending status r e one = short_at ending r (sym e ∙ one)

  not_short : (ending : Ending) → status_of ending ≡ 3 → ending ≡ NoMemory → ⊥
  not_short NoMemory three none = omega (arith, three)
  not_short Done three none = omega (arith, three)
  not_short (Refused line why) three none = refused none
    where
      refused : Refused line why ≡ NoMemory → ⊥
      refused e = cc
  not_short ReadFault three none = omega (arith, three)
  not_short WriteFault three none = omega (arith, three)
  not_short Full three none = omega (arith, three)
  not_short TooLong three none = omega (arith, three)

  pub race_refused : (old new : Option (List ℕ)) (count now : ℕ) (ending : Ending) (status : ℕ)
      → RaceEnds lanes workers limit room config before left origin after ending → Says old new count now (ending_text ending) → status ≡ status_of ending → status ≡ 3
      → OfText before (λ text. Says old new count now (refusal_of limit room config text))
  race_refused old new count now ending status r said is three =
      run_refused (begun_by lanes workers) (legal_by lanes workers) limit room config before left origin after old new count now ending status
      (by_end ending r (not_short ending (sym is ∙ three))) said is three

-- the same of the workers and lanes that were asked for

pub race_writes_so : (form : Option Form) (w l lanes workers limit room : ℕ) (config : Config) (before left origin after : Option (List ℕ)) (ending : Ending) (status : ℕ) → form ≡ Some (Race w l) → form ≡ Some (Race workers lanes)
    → RaceEnds lanes workers limit room config before left origin after ending → status ≡ status_of ending
    → Writes (begun_by l w) (legal_by l w) limit room config before left origin after status
race_writes_so form w l lanes workers limit room config before left origin after ending status asked is r e =
    raced_so (λ w l. Writes (begun_by l w) (legal_by l w) limit room config before left origin after status) form w l workers lanes asked is
    (race_writes lanes workers limit room config before left origin after ending status r e)

pub race_short_so : (form : Option Form) (w l lanes workers limit room : ℕ) (config : Config) (before left origin after : Option (List ℕ)) (ending : Ending) (status : ℕ) → form ≡ Some (Race w l) → form ≡ Some (Race workers lanes)
    → RaceEnds lanes workers limit room config before left origin after ending → status ≡ status_of ending → status ≡ 1
    → RaceShort (begun_by l w) limit room config before left origin after
race_short_so form w l lanes workers limit room config before left origin after ending status asked is r e one =
    raced_so (λ w l. RaceShort (begun_by l w) limit room config before left origin after) form w l workers lanes asked is
    (race_shorter lanes workers limit room config before left origin after ending status r e one)

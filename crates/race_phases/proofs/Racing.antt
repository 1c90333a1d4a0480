-- Phases as a trace has them, and as lanes and workers run them.
use Rattle.std.proofs.Common.{◌≡◌, ℕ, ◌+◌, List, [], ◌∷◌, ◌++◌, Option, None, Some, Result, Ok, Err, IfOk, MatchOption, length, sym, subst}
use Rattle.switch_event.specs.Config.{Config}
use Rattle.trace_defs.specs.Line.{Record}
use Rattle.history_defs.specs.Output.{controls_in}
use Rattle.legal_defs.specs.Runs as legal
use Rattle.legal_defs.specs.Legal.{IsLegal, LegalBy, IsBegun}
use Rattle.race_lanes.specs.Standing.{Run, Stands}
use Rattle.race_run.specs.Runs.{RanPhase}
use Rattle.race_phases.specs.declared.parallel.InParallel.{InParallel}
use Rattle.race_run.specs.Ending.{RunEnds}
use Rattle.race_run.specs.declared.ending.Ending.{Ending}
use Rattle.race_run.specs.declared.ending.Ending.TheVariants.{Done, NoMemory, Refused, ReadFault, WriteFault, Full, TooLong}
use Rattle.race_run.proofs.FateLemmas.{RunEnds-as}
use Rattle.race_phases.specs.Raced.{HasRaced, RaceEnds, begun_by, legal_by, gave}
use Rattle.race_lanes.specs.Raced.{RacedBy}
use Rattle.race_lanes.proofs.Raced.{raced_begun, raced_more}

-- the run that was opened
pub the_run : (o : Option Run) (r : Run) (P : Run → Type 0) → o ≡ Some r → MatchOption o ⊥ P → P r
the_run o r P is h = subst (λ (z : Option Run). MatchOption z ⊥ P) is h

pub no_run : (o : Option Run) (P : Run → Type 0) → o ≡ None → MatchOption o ⊥ P → ⊥
no_run o P is h = subst (λ (z : Option Run). MatchOption z ⊥ P) is h

pub ran_phase : (old new : InParallel) (r next : Run) (c : Config) (phases : List (List Record)) (rs : List Record) (was more text after : List ℕ) → old.race ≡ Some r → new.race ≡ Some next
    → new.lanes ≡ old.lanes → new.workers ≡ old.workers → HasRaced old c phases was
    → next.config ≡ r.config → next.lanes ≡ r.lanes → next.workers ≡ r.workers → length next.history ≡ length r.history + legal.controls_in (legal.numbered r.number rs)
    → after ≡ text ++ more → Stands next (phases ++ rs ∷ []) (was ++ more)
    → RanPhase (HasRaced new) (gave (new.lanes ∷ new.workers ∷ [])) c phases rs was text after
ran_phase old new r next c phases rs was more text after is is_next lanes workers h config l w many printed stands =
    let raced = the_run old.race r (λ (z : Run). RacedBy old.lanes old.workers z c phases was) is h in
    let now = raced_more old.lanes old.workers r next c phases rs was more raced config l w many stands in
    let there = subst (λ (z : ℕ × ℕ). RacedBy z.0 z.1 next c (phases ++ rs ∷ []) (was ++ more)) (λ i. (sym lanes i, sym workers i)) now in (
      more,
      printed,
      subst (λ (z : Option Run). MatchOption z ⊥ (λ (z : Run). RacedBy new.lanes new.workers z c (phases ++ rs ∷ []) (was ++ more))) (sym is_next) there,
      raced_begun new.lanes new.workers next c (phases ++ rs ∷ []) (was ++ more) there,
    )

-- what was raced is legal once the run was ended
pub ended_legal : {E : Type 0} (result : Result (Unit {0}) E) (lanes workers : ℕ) (r : Run) (c : Config) (phases : List (List Record)) (text : List ℕ) → RacedBy lanes workers r c phases text
    → IfOk result (λ x. LegalBy r.config r.lanes r.workers phases text r.history r.forwarded) → IfOk result (λ x. IsLegal c lanes workers phases text)
ended_legal (Err e) lanes workers r c phases text h l = tt
ended_legal (Ok x) lanes workers r c phases text h l =
    subst (λ (z : Config × ℕ × ℕ). IsLegal z.0 z.1 z.2 phases text) (λ i. (h.config i, h.lanes_are i, h.workers_are i)) l.legal

race_ends : (lanes workers limit room : ℕ) (c : Config) (before left origin after : Option (List ℕ)) (ending : Ending)
    → RunEnds (begun_by lanes workers) (legal_by lanes workers) limit room c before left origin after ending → RaceEnds lanes workers limit room c before left origin after ending
race_ends lanes workers limit room c before left origin after Done r = r
race_ends lanes workers limit room c before left origin after NoMemory r = (NoMemory, r)
race_ends lanes workers limit room c before left origin after (Refused line why) r = r
race_ends lanes workers limit room c before left origin after ReadFault r = r
race_ends lanes workers limit room c before left origin after WriteFault r = r
race_ends lanes workers limit room c before left origin after Full r = r
race_ends lanes workers limit room c before left origin after TooLong r = r

-- how a run on these lanes and workers ends, where it was ended as a whole, and where it was not
module _ (limit room : ℕ) (c : Config) (before left origin after : Option (List ℕ)) (runner : InParallel) (lanes workers : ℕ) (lanes_are : runner.lanes ≡ lanes) (workers_are : runner.workers ≡ workers) (ending : Ending)
    (ends : RunEnds (gave (runner.lanes ∷ runner.workers ∷ [])) (HasRaced runner) limit room c before left origin after ending) where
  begun_so : (config : Config) (phases : List (List Record)) (text : List ℕ) → IsBegun config runner.lanes runner.workers phases text → IsBegun config lanes workers phases text
  begun_so config phases text h = subst (λ (z : ℕ × ℕ). IsBegun config z.0 z.1 phases text) (λ i. (lanes_are i, workers_are i)) h

  pub ends_legal : ((config : Config) (phases : List (List Record)) (text : List ℕ) → HasRaced runner config phases text → legal_by runner.lanes runner.workers config phases text)
      → RaceEnds lanes workers limit room c before left origin after ending
  ends_legal legal =
      race_ends lanes workers limit room c before left origin after ending
      (RunEnds-as (gave (runner.lanes ∷ runner.workers ∷ [])) (begun_by lanes workers) (HasRaced runner) (legal_by lanes workers) begun_so
      (λ config phases text h. subst (λ (z : ℕ × ℕ). IsLegal config z.0 z.1 phases text) (λ i. (lanes_are i, workers_are i)) (legal config phases text h))
      limit room c before left origin after ending ends)

  pub ends_short : ((config : Config) (phases : List (List Record)) (text : List ℕ) → HasRaced runner config phases text → begun_by runner.lanes runner.workers config phases text)
      → RunEnds (begun_by lanes workers) (begun_by lanes workers) limit room c before left origin after ending
  ends_short begun =
      RunEnds-as (gave (runner.lanes ∷ runner.workers ∷ [])) (begun_by lanes workers) (HasRaced runner) (begun_by lanes workers) begun_so
      (λ config phases text h. begun_so config phases text (begun config phases text h))
      limit room c before left origin after ending ends

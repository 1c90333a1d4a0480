-- Phases as a trace has them, and as lanes and workers run them.
use Rattle.std.proofs.Common.{◌≡◌, ℕ, zero, suc, ◌+◌, ◌<◌, ◌≤◌, ◌^◌, List, [], ◌∷◌, ◌++◌, All, length, refl, ap, sym, ◌∙◌, subst, length-append, arith}
use Rattle.std.specs.List.{AllByRecursion}
use Rattle.std.proofs.lemmas.List.{length-map}
use Rattle.switch_event.specs.Config.{Config}
use Rattle.event_record.specs.declared.TheConstants.{MOST_EVENTS}
use Rattle.trace_defs.specs.Line.{Record}
use Rattle.trace_defs.specs.Line.Record.{Control, Data}
use Rattle.event_record.specs.declared.trace_record.TraceRecord.{TraceRecord}
use Rattle.trace_defs.specs.Entered.{entered, entered_all}
use Rattle.history_defs.specs.Output.{controls_in, records_of}
use Rattle.history_defs.proofs.PlaceLemmas.{controls_in-append}
use Rattle.history_defs.proofs.OutputLemmas.{flat_more}
use Rattle.legal_defs.specs.Runs as legal
use Rattle.legal_defs.specs.Legal.{IsBegun}
use Rattle.race_lanes.specs.Lanes as lane
use Rattle.race_lanes.specs.Standing.{Run, Stands, records_in}
use Rattle.race_lanes.proofs.Ending.{stands_begun}
use Rattle.race_run.specs.Runs.{MayCome, MayRun}
use Rattle.race_lanes.specs.Raced.{RacedBy}

records_many : (ps : List (List Record)) → records_in ps ≡ length (records_of ps)
records_many [] = refl
records_many (p ∷ ps) = let h = records_many ps in let a = length-append p (records_of ps) in omega arith

controls_same : (n : ℕ) (rs : List Record) → legal.controls_in (legal.numbered n rs) ≡ controls_in rs
controls_same n [] = refl
controls_same n (Control lane event ∷ rs) = let h = controls_same (suc n) rs in omega arith
controls_same n (Data port octets ∷ rs) = let h = controls_same (suc n) rs in omega arith

all_come : (c : Config) (n : ℕ) (rs : List Record) → AllByRecursion (MayCome c) rs → All (lane.MayCome c) (legal.numbered n rs)
all_come c n [] h k d l = absurd (omega arith)
all_come c n (Control lane event ∷ rs) h zero d l = h.0
all_come c n (Data port octets ∷ rs) h zero d l = tt
all_come c n (r ∷ rs) h (suc k) d l = all_come c (suc n) rs h.1 k d (omega arith)

-- what may be run as one more phase, may be run on lanes and workers
module _ (lanes workers : ℕ) (r : Run) (c : Config) (phases : List (List Record)) (was : List ℕ) (rs : List TraceRecord) (raced : RacedBy lanes workers r c phases was) (may : MayRun c phases (entered_all rs)) where
  pub numbers_fit : r.number + length rs < 2 ^ 64
  numbers_fit =
      let a = raced.stands.number in let b = records_many phases in let d = may.few in let e = length-map rs entered in omega arith

  pub may_come : All (lane.MayCome r.config) (legal.numbered r.number (entered_all rs))
  may_come = subst (λ (z : Config). All (lane.MayCome z) (legal.numbered r.number (entered_all rs))) (sym raced.config) (all_come c r.number (entered_all rs) may.events)

  pub controls_fit : length r.history + legal.controls_in (legal.numbered r.number (entered_all rs)) ≤ MOST_EVENTS
  controls_fit =
      let a = raced.count in let b = controls_same r.number (entered_all rs) in let d = may.controls in omega arith

pub raced_none : (lanes workers : ℕ) (r : Run) (c : Config) → r.config ≡ c → r.lanes ≡ lanes → r.workers ≡ workers → r.history ≡ [] → Stands r [] [] → RacedBy lanes workers r c [] []
raced_none lanes workers r c config l w none stands = record { config = config; lanes_are = l; workers_are = w; stands = stands; count = ap length none }

pub raced_begun : (lanes workers : ℕ) (r : Run) (c : Config) (phases : List (List Record)) (text : List ℕ) → RacedBy lanes workers r c phases text → IsBegun c lanes workers phases text
raced_begun lanes workers r c phases text h =
    subst (λ (z : Config × ℕ × ℕ). IsBegun z.0 z.1 z.2 phases text) (λ i. (h.config i, h.lanes_are i, h.workers_are i)) (stands_begun r phases text h.stands)

-- one phase more
pub raced_more : (lanes workers : ℕ) (r next : Run) (c : Config) (phases : List (List Record)) (rs : List Record) (was more : List ℕ) → RacedBy lanes workers r c phases was
    → (next.config ≡ r.config) → (next.lanes ≡ r.lanes) → (next.workers ≡ r.workers) → length next.history ≡ length r.history + legal.controls_in (legal.numbered r.number rs)
    → Stands next (phases ++ rs ∷ []) (was ++ more) → RacedBy lanes workers next c (phases ++ rs ∷ []) (was ++ more)
raced_more lanes workers r next c phases rs was more h config l w many stands = record {
  config = config ∙ h.config;
  lanes_are = l ∙ h.lanes_are;
  workers_are = w ∙ h.workers_are;
  stands = stands;
  count = (
      let a = h.count in
      let b = controls_same r.number rs in
      let d = ap controls_in (flat_more phases rs) ∙ controls_in-append (records_of phases) rs in
      omega arith);
}

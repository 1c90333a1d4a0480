-- The authenticator on one thread as what runs phases.
use Rattle.std.proofs.Common.{◌≡◌, ℕ, ◌+◌, ◌<◌, ◌≤◌, ◌^◌, List, [], ◌∷◌, ◌++◌, length, Option, None, Some, MatchOption, Result, Ok, Err, OnOk, sym, ap, ◌∙◌, subst, arith}
use Rattle.std.specs.List.{AllByRecursion}
use Rattle.switch_event.specs.Config.{Config}
use Rattle.event_record.specs.declared.TheConstants.{MOST_EVENTS}
use Rattle.switch_defs.specs.Switch.{State}
use Rattle.switch_defs.proofs.Settings.{config_turn}
use Rattle.trace_defs.specs.Line.{Record}
use Rattle.trace_defs.specs.Line.Record.{Control, Data}
use Rattle.history_defs.specs.Output.{IsPlain, Place, blocks, controls_in, first_place, next_place, place_after, plain, records_of}
use Rattle.history_defs.proofs.OutputLemmas.{plain-more, place_after-more}
use Rattle.history_defs.proofs.PlaceLemmas.{place_config, place_number, place_serial}
use Rattle.event_record.specs.declared.trace_record.TraceRecord.{TraceRecord}
use Rattle.trace_defs.specs.Entered.{entered_all}
use Rattle.sequential.specs.declared.sequential.Sequential.{Sequential}
use Rattle.sequential.specs.Records.{Stands, PrintsAll, MayRunAt}
use Rattle.race_run.specs.declared.one_thread.OneThread.{OneThread}
use Rattle.race_run.specs.Runs.{MayCome, MayRun, RanPhase}
use Rattle.race_run.specs.Runners.{HasRun, HasRunAlone}

may_at : (at : Place) (rs : List Record) → at.number + length rs < 2 ^ 64 → at.serial + controls_in rs ≤ MOST_EVENTS → AllByRecursion (MayCome at.state.config) rs → MayRunAt at rs
may_at at [] few controls events = tt
may_at at (Control lane event ∷ rest) few controls events = (
  (omega (arith, few), omega (arith, controls), events.0),
  may_at (next_place at (Control lane event)) rest (omega (arith, few)) (omega (arith, controls))
      (subst (λ c. AllByRecursion (MayCome c) rest) (sym (config_turn at.state event)) events.1),
)
may_at at (Data port octets ∷ rest) few controls events = (
  omega (arith, few),
  may_at (next_place at (Data port octets)) rest (omega (arith, few)) controls events.1,
)

-- behind phases
may_run_at : (config : Config) (phases : List (List Record)) (rs : List Record) → MayRun config phases rs → MayRunAt (place_after (first_place config) (records_of phases)) rs
may_run_at config phases rs may =
    let at = place_after (first_place config) (records_of phases) in
    may_at at rs
    (let n = place_number (first_place config) (records_of phases) in let few = may.few in omega (arith, n, few))
    (let n = place_serial (first_place config) (records_of phases) in let controls = may.controls in omega (arith, n, controls))
    (subst (λ c. AllByRecursion (MayCome c) rs) (sym (place_config (first_place config) (records_of phases))) may.events)

module _ {A : Type 0} (stands : A → State → Type 0) (made : A → ℕ) where
  has_run : (run : Option (Sequential A)) (s : Sequential A) (config : Config) (phases : List (List Record)) (text : List ℕ) → run ≡ Some s
      → MatchOption run ⊥ (HasRun stands made config phases text) → HasRun stands made config phases text s
  has_run run s config phases text is h = subst (λ o. MatchOption o ⊥ (HasRun stands made config phases text)) is h

  -- a phase may be run
  pub may_run_there : (one : OneThread A) (s : Sequential A) (config : Config) (phases : List (List Record)) (was : List ℕ) (rs : List Record) → one.alone ≡ Some s
      → HasRunAlone stands made one config phases was → MayRun config phases rs → (at : Place) × Stands stands made s at × MayRunAt at rs
  may_run_there one s config phases was rs is h may =
      (place_after (first_place config) (records_of phases), (has_run one.alone s config phases was is h).place, may_run_at config phases rs may)

  -- what was given is the output on one thread
  pub alone_plain : (run : Option (Sequential A)) (config : Config) (phases : List (List Record)) (text : List ℕ) → MatchOption run ⊥ (HasRun stands made config phases text) → IsPlain config phases text
  alone_plain None config phases text h = absurd h
  alone_plain (Some s) config phases text h = h.output

  -- a phase more
  pub alone_more : {T E : Type 0} (result : Result T E) (old new : Sequential A) (one next : OneThread A) (records : List TraceRecord) (text after : List ℕ) (config : Config) (phases : List (List Record)) (was : List ℕ)
      → one.alone ≡ Some old → next.alone ≡ Some new → HasRunAlone stands made one config phases was → OnOk result (PrintsAll stands made old new records text after)
      → OnOk result (RanPhase (HasRunAlone stands made next) IsPlain config phases (entered_all records) was text after)
  alone_more (Err e) old new one next records text after config phases was was_there now_there h prints = tt
  alone_more (Ok x) old new one next records text after config phases was was_there now_there h prints =
      let ran = has_run one.alone old config phases was was_there h in
      let at = place_after (first_place config) (records_of phases) in
      let rs = entered_all records in
      let all = prints at ran.place in
      let output : was ++ blocks at rs ≡ plain config (phases ++ rs ∷ []) = ap (λ l. l ++ blocks at rs) ran.output ∙ sym (plain-more config phases rs) in (
        blocks at rs,
        all.0,
        subst (λ o. MatchOption o ⊥ (HasRun stands made config (phases ++ rs ∷ []) (was ++ blocks at rs))) (sym now_there)
            (record { place = subst (Stands stands made new) (sym (place_after-more config phases rs)) all.1; output = output }),
        output,
      )

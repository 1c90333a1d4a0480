-- What holds of every run.
use Rattle.std.proofs.Common.{◌≡◌, ℕ, ◌+◌, ◌<◌, ◌≤◌, ◌^◌, true, false, List, [], ◌∷◌, ◌++◌, length, length-append, Result, Ok, Err, OnOk, sym, ap, ◌∙◌, subst, arith}
use Rattle.std.specs.List.{AllByRecursion}
use Rattle.std.proofs.lemmas.List.{map-append}
use Rattle.switch_event.specs.Config.{Config, empty}
use Rattle.event_record.specs.declared.TheConstants.{MOST_EVENTS}
use Rattle.trace_defs.proofs.SettingFacts.{empty-read}
use Rattle.trace_defs.specs.Settings.{IsRead}
use Rattle.trace_defs.specs.Line.{Record as Entered}
use Rattle.history_defs.specs.Output.{controls_in, records_of}
use Rattle.history_defs.proofs.OutputLemmas.{flat_more}
use Rattle.history_defs.proofs.PlaceLemmas.{controls_in-append}
use Rattle.event_record.specs.declared.record.Record.{Record as What}
use Rattle.event_record.specs.Record.{event_of}
use Rattle.authenticator.specs.Meaning.{IsEvent}
use Rattle.event_record.specs.declared.trace_record.TraceRecord.{TraceRecord}
use Rattle.event_record.specs.declared.trace_record.TraceRecord.TheVariants.{Control, Data}
use Rattle.trace_defs.specs.Entered.{entered, entered_all}
use Rattle.race_run.specs.declared.run.Run.{Run}
use Rattle.race_run.specs.Runs.{Phased, MayCome, MayRun}
use Rattle.race_run.specs.Run.{IsReady, IsSound, IsStart, Joins}
use Rattle.race_run.proofs.StepLemmas.{Ran}

contradiction : true ≡ false → ⊥
contradiction e = cc

all_more : (P : Entered → Type 0) (rs : List Entered) (r : Entered) → AllByRecursion P rs → P r → AllByRecursion P (rs ++ r ∷ [])
all_more P [] r h one = (one, tt)
all_more P (x ∷ rs) r h one = (h.0, all_more P rs r h.1 one)

module _ {R : Type 0} (fresh : R → Type 0) (stands gave : R → Phased) where
  -- the open phase may be run
  pub may_run : (run : Run) (s : R) (rs : List Entered) → run.begun ≡ true → rs ≡ entered_all run.records.items → IsSound fresh stands run s → run.lines + 1 < 2 ^ 63
      → (c : Config) × (phases : List (List Entered)) × (was : List ℕ) × stands s c phases was × MayRun c phases rs
  may_run run s rs is all sound short =
      let ready = sound.ready is in (
        run.config,
        ready.phases,
        ready.text,
        ready.ran,
        subst (λ l. MayRun run.config ready.phases l) (sym all) (record {
          few = (let few = ready.few in omega (arith, few, short));
          controls = (let fit = ready.fit in let most = sound.most in omega (arith, fit, most));
          events = ready.events;
        }),
      )

  ready_line : (run : Run) (s : R) → IsReady stands run s → IsReady stands (record run { lines = run.lines + 1 }) s
  ready_line run s ready = record {
    phases = ready.phases;
    text = ready.text;
    ran = ready.ran;
    few = (let few = ready.few in omega (arith, few));
    fit = ready.fit;
    events = ready.events;
  }

  -- one line more
  pub sound_line : (run new : Run) (s : R) → IsSound fresh stands run s → new ≡ record run { lines = run.lines + 1 } → IsSound fresh stands new s
  sound_line run new s sound same = subst (λ r. IsSound fresh stands r s) (sym same) (record {
    unbegun = sound.unbegun;
    ready = λ e. ready_line run s (sound.ready e);
    most = sound.most;
    read = sound.read;
  })

  -- another open line
  pub sound_open : (run new : Run) (s : R) → IsSound fresh stands run s → new ≡ record run { line = new.line } → IsSound fresh stands new s
  sound_open run new s sound same = subst (λ r. IsSound fresh stands r s) (sym same) (record {
    unbegun = sound.unbegun;
    ready = λ e. (let ready = sound.ready e in record { phases = ready.phases; text = ready.text; ran = ready.ran; few = ready.few; fit = ready.fit; events = ready.events });
    most = sound.most;
    read = sound.read;
  })

  -- the start
  pub sound_start : (run : Run) (s : R) → IsStart run → fresh s → IsSound fresh stands run s
  sound_start run s start new = record {
    unbegun = λ e. (start.records, new);
    ready = λ e. absurd (contradiction (sym e ∙ start.begun));
    most = (let controls = start.controls in omega (arith, controls));
    read = subst (λ config. IsRead config run.given) (sym start.config) (subst (IsRead empty) (sym start.given) empty-read);
  }

  -- other settings, before they end
  pub sound_setting : (run : Run) (s : R) (config : Config) (given : ℕ) → IsSound fresh stands run s → run.begun ≡ false → IsRead config given
      → IsSound fresh stands (record run { config = config; given = given; lines = run.lines + 1 }) s
  sound_setting run s config given sound before read = record {
    unbegun = sound.unbegun;
    ready = λ e. absurd (contradiction (sym e ∙ before));
    most = sound.most;
    read = read;
  }

  -- the settings ended
  pub sound_begin : (run : Run) (s t : R) → IsSound fresh stands run s → run.begun ≡ false → stands t run.config [] []
      → IsSound fresh stands (record run { begun = true; lines = run.lines + 1 }) t
  sound_begin run s t sound before opened =
      let empty = (sound.unbegun before).0 in
      record {
        unbegun = λ e. absurd (contradiction e);
        ready = λ e. record {
          phases = [];
          text = [];
          ran = opened;
          few = (let e = ap (λ l. length (entered_all l)) empty in omega (arith, e));
          fit = (let e = ap (λ l. controls_in (entered_all l)) empty in omega (arith, e));
          events = subst (λ l. AllByRecursion (MayCome run.config) (entered_all l)) (sym empty) tt;
        };
        most = sound.most;
        read = sound.read;
      }

  -- a record joined the open phase
  pub sound_record : (run new : Run) (s : R) (r : TraceRecord) (m : ℕ) → IsSound fresh stands run s → run.begun ≡ true → Joins run new r m
      → run.controls + controls_in (entered r ∷ []) ≤ m → m ≤ MOST_EVENTS → MayCome run.config (entered r) → IsSound fresh stands new s
  sound_record run new s r m sound begun joins counted most comes =
      subst (λ run. IsSound fresh stands run s) (sym joins.rest) (record {
        unbegun = λ e. absurd (contradiction (sym begun ∙ e));
        ready = λ e. (let h = sound.ready begun in record {
          phases = h.phases;
          text = h.text;
          ran = h.ran;
          few = (let few = h.few in let e = ap length all in let l = length-append (entered_all run.records.items) (entered r ∷ []) in omega (arith, few, e, l));
          fit = (let fit = h.fit in let e = ap controls_in all in let l = controls_in-append (entered_all run.records.items) (entered r ∷ []) in omega (arith, fit, e, l, counted));
          events = subst (AllByRecursion (MayCome run.config)) (sym all) (all_more (MayCome run.config) (entered_all run.records.items) (entered r) h.events comes);
        });
        most = most;
        read = sound.read;
      })
    where
      all : entered_all new.records.items ≡ entered_all run.records.items ++ entered r ∷ []
      all = ap entered_all joins.records ∙ map-append entered run.records.items (r ∷ [])

  -- a control record that may come joined it
  pub sound_control : {T E : Type 0} (result : Result T E) (run new : Run) (s : R) (room lane : ℕ) (what : What) → IsSound fresh stands run s → run.begun ≡ true → room ≤ MOST_EVENTS
      → IsEvent run.config (event_of what) → OnOk result ((run.controls < room) × Joins run new (Control lane what) (run.controls + 1))
      → OnOk result (IsSound fresh stands new s × (new.lines ≡ run.lines + 1))
  sound_control (Err e) run new s room lane what sound begun most comes joins = tt
  sound_control (Ok x) run new s room lane what sound begun most comes joins = (
    sound_record run new s (Control lane what) (run.controls + 1) sound begun joins.1 (omega arith) (let few = joins.0 in omega (arith, few, most)) comes,
    ap (λ r. r.lines) joins.1.rest,
  )

  -- a data record joined it
  pub sound_data : {T E : Type 0} (result : Result T E) (run new : Run) (s : R) (port : ℕ) (octets : List ℕ) → IsSound fresh stands run s → run.begun ≡ true
      → OnOk result (Joins run new (Data port octets) run.controls) → OnOk result (IsSound fresh stands new s × (new.lines ≡ run.lines + 1))
  sound_data (Err e) run new s port octets sound begun joins = tt
  sound_data (Ok x) run new s port octets sound begun joins =
      (sound_record run new s (Data port octets) run.controls sound begun joins (omega arith) sound.most tt, ap (λ r. r.lines) joins.rest)

  -- the open phase was run
  pub sound_phase : (run new : Run) (s t : R) (rs : List Entered) (before text : List ℕ) → run.begun ≡ true → rs ≡ entered_all run.records.items
      → Ran stands gave s t rs before text → new.records.items ≡ [] → new ≡ record run { records = new.records } → IsSound fresh stands run s → IsSound fresh stands new t
  sound_phase run new s t rs before text begun all ran empty same sound =
      let ready = sound.ready begun in
      let step = ran run.config ready.phases ready.text ready.ran in
      let flat = flat_more ready.phases rs in
      subst (λ run. IsSound fresh stands run t) (sym same) (record {
        unbegun = λ e. absurd (contradiction (sym begun ∙ e));
        ready = λ e. record {
          phases = ready.phases ++ rs ∷ [];
          text = ready.text ++ step.0;
          ran = step.2;
          few = (let few = ready.few in let a = ap length flat in let l = length-append (records_of ready.phases) rs in let e = ap length all in let z = ap (λ l. length (entered_all l)) empty in omega (arith, few, a, l, e, z));
          fit = (let fit = ready.fit in let a = ap controls_in flat in let l = controls_in-append (records_of ready.phases) rs in let e = ap controls_in all in let z = ap (λ l. controls_in (entered_all l)) empty in omega (arith, fit, a, l, e, z));
          events = subst (λ l. AllByRecursion (MayCome run.config) (entered_all l)) (sym empty) tt;
        };
        most = sound.most;
        read = sound.read;
      })

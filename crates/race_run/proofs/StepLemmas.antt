-- How a run goes on from line to line and from phase to phase.
use Rattle.std.proofs.Common.{◌≡◌, ◌⊎◌, inl, inr, ℕ, ◌+◌, ◌<◌, ◌≤◌, Bool, true, false, cond, ltb, List, [], ◌∷◌, ◌++◌, length, take, Option, Result, Ok, Err, OnOk, IfErr, refl, sym, ap, ap₂, ◌∙◌, subst, arith}
use Rattle.std.specs.List.{AllByRecursion}
use Rattle.std.specs.Io.KnownBytes.{Appends}
use Rattle.std.proofs.lemmas.List.{map-append}
use Rattle.std.proofs.lemmas.Bool.Decides.{nat_tests}
use Rattle.wire_defs.proofs.OutsideLemmas.{Appends-same, Appends-trans}
use Rattle.switch_event.specs.Config.{Config}
use Rattle.switch_event.specs.Event.{Happening}
use Rattle.trace_defs.specs.Line.{Line as Meaning, Record as Entered, line_of}
use Rattle.trace_defs.specs.Line.Line.{Blank as IsBlank, Begin as IsBegin, Sync as IsSync, Setting as IsSetting}
use Rattle.trace_defs.specs.Line.Record.{Control as ControlEntry, Data as DataEntry}
use Rattle.trace_defs.specs.Trace.{Progress, Stop, after_line, add_line, add_record}
use Rattle.trace_defs.specs.Trace.Stop.{Full as IsFull}
use Rattle.trace_lang.specs.Meaning.{AreKept}
use Rattle.event_record.specs.declared.trace_record.TraceRecord.{TraceRecord}
use Rattle.event_record.specs.declared.trace_record.TraceRecord.TheVariants.{Data}
use Rattle.trace_defs.specs.Entered.{entered, entered_all}
use Rattle.race_run.specs.declared.run.Run.{Run}
use Rattle.race_run.specs.declared.ending.Ending.{Ending}
use Rattle.race_run.specs.declared.ending.Ending.TheVariants.{Done, NoMemory, Refused, ReadFault, WriteFault, Full, TooLong}
use Rattle.outside_text.specs.Streams.{TakesWhole}
use Rattle.race_run.specs.Runs.{Phased, IsGiven, RanPhase}
use Rattle.race_run.specs.Ending.{TakesEnded}
use Rattle.race_run.specs.Run.{IsAt, Joins, Halts, Steps, ended, given_by}

contradiction : true ≡ false → ⊥
contradiction e = cc

-- what was given for one phase more
pub given_more : (gave : Phased) (config : Config) (phases : List (List Entered)) (phase : List Entered) (text : List ℕ)
    → gave config (phases ++ phase ∷ []) text → IsGiven gave config (phases ++ phase ∷ []) text
given_more gave config [] phase text h = h
given_more gave config (one ∷ phases) phase text h = h

-- what was given in another sense too
given_also : (gave ran : Phased) (config : Config) (phases : List (List Entered)) (text : List ℕ) → IsGiven gave config phases text → ran config phases text → IsGiven ran config phases text
given_also gave ran config [] text h also = h
given_also gave ran config (phase ∷ phases) text h also = also

given_none : (gave : Phased) (config : Config) (phases : List (List Entered)) (text : List ℕ) → phases ≡ [] → text ≡ [] → IsGiven gave config phases text
given_none gave config phases text none nothing = subst (λ d. IsGiven gave config d text) (sym none) nothing

-- what was given by the same numbers
pub given_same : {R : Type 0} (numbers : R → List ℕ) (gave : List ℕ → Phased) (s t : R) → numbers t ≡ numbers s
    → (config : Config) (phases : List (List Entered)) (text : List ℕ) → IsGiven (given_by numbers gave s) config phases text → IsGiven (given_by numbers gave t) config phases text
given_same numbers gave s t same config phases text h = subst (λ n. IsGiven (gave n) config phases text) (sym same) h

all_more : (P : Entered → Type 0) (rs : List Entered) (r : Entered) → AllByRecursion P rs → P r → AllByRecursion P (rs ++ r ∷ [])
all_more P [] r h one = (one, tt)
all_more P (x ∷ rs) r h one = (h.0, all_more P rs r h.1 one)

-- the settings are as they were before a line was read
pub kept_run : (old : Run) (config : Config) (given : ℕ) → AreKept old.config old.given config given → record old { config = config; given = given } ≡ old
kept_run old config given kept = ap₂ (λ c g. record old { config = c; given = g }) kept.same_config kept.same_given

pushed : (old new : List TraceRecord) (r : TraceRecord) (current : List Entered) → new ≡ old ++ r ∷ [] → entered_all old ≡ current → entered_all new ≡ current ++ entered r ∷ []
pushed old new r current e h = ap entered_all e ∙ map-append entered old (r ∷ []) ∙ ap (λ l. l ++ entered r ∷ []) h

module _ {R : Type 0} (stands gave : R → Phased) where
  -- what was taken was given for the phases that were ended
  pub ended_of : (origin taken : Option (List ℕ)) (run : Run) (s : R) (p : Progress) → IsAt stands gave origin taken run s p → TakesEnded (gave s) origin taken p
  ended_of origin taken run s p at = record { text = at.text; for_phases = at.for_phases; taken = at.written }

  -- what runs the phases has given it
  pub ran_of : (origin taken : Option (List ℕ)) (run : Run) (s : R) (p : Progress) → IsAt stands gave origin taken run s p → TakesEnded (stands s) origin taken p
  ran_of origin taken run s p at = record { text = at.text; for_phases = step p.begun refl; taken = at.written }
    where
      step : (b : Bool) → p.begun ≡ b → IsGiven (stands s) p.config p.done at.text
      step true e = given_also (gave s) (stands s) p.config p.done at.text at.for_phases (at.ran e)
      step false e = let none = at.unbegun e in given_none (stands s) p.config p.done at.text none.done none.nothing

  -- what stands of the open line is no part of how far a run is
  pub IsAt-line : (origin taken : Option (List ℕ)) (run new : Run) (s : R) (p : Progress) → new ≡ record run { line = new.line } → IsAt stands gave origin taken run s p → IsAt stands gave origin taken new s p
  IsAt-line origin taken run new s p e at = subst (λ r. IsAt stands gave origin taken r s p) (sym e) (record {
    config = at.config;
    given = at.given;
    begun = at.begun;
    lines = at.lines;
    controls = at.controls;
    records = at.records;
    text = at.text;
    unbegun = at.unbegun;
    ran = at.ran;
    for_phases = at.for_phases;
    written = at.written;
  })

  -- a line by what it means to the settings of the run
  reads_as : (origin taken : Option (List ℕ)) (run : Run) (s : R) (p : Progress) (line : List ℕ) → IsAt stands gave origin taken run s p
      → line_of p.config p.given p.begun line ≡ line_of run.config run.given run.begun line
  reads_as origin taken run s p line at =
      ap (λ c. line_of c p.given p.begun line) (sym at.config) ∙ ap (λ g. line_of run.config g p.begun line) (sym at.given)
      ∙ ap (λ b. line_of run.config run.given b line) (sym at.begun)

  pub Steps-read : (room : ℕ) (taken after : Option (List ℕ)) (old mid new : Run) (s t : R) (line : List ℕ) (wanted : Result Meaning ℕ) → line_of old.config old.given old.begun line ≡ wanted → mid ≡ old
      → Steps stands gave (λ p. add_line room p wanted) taken after mid new s t → Steps stands gave (λ p. after_line room p line) taken after old new s t
  Steps-read room taken after old mid new s t line wanted means same steps = λ origin p at.
      let step = steps origin p (subst (λ r. IsAt stands gave origin taken r s p) (sym same) at) in
      (step.0, ap (add_line room p) (reads_as origin taken old s p line at ∙ means) ∙ step.1, step.2)

  Halts-read : (room : ℕ) (taken after : Option (List ℕ)) (old mid : Run) (s t : R) (line : List ℕ) (wanted : Result Meaning ℕ) (ending : Ending) → line_of old.config old.given old.begun line ≡ wanted → mid ≡ old
      → Halts stands gave (λ p. add_line room p wanted) taken after mid s t ending → Halts stands gave (λ p. after_line room p line) taken after old s t ending
  Halts-read room taken after old mid s t line wanted (Refused number why) means same halts = λ origin p at.
      let stop = halts origin p (subst (λ r. IsAt stands gave origin taken r s p) (sym same) at) in
      (ap (add_line room p) (reads_as origin taken old s p line at ∙ means) ∙ stop.0, stop.1, stop.2)
  Halts-read room taken after old mid s t line wanted Full means same halts = λ origin p at.
      let stop = halts origin p (subst (λ r. IsAt stands gave origin taken r s p) (sym same) at) in
      (ap (add_line room p) (reads_as origin taken old s p line at ∙ means) ∙ stop.0, stop.1)
  Halts-read room taken after old mid s t line wanted WriteFault means same halts = λ origin p at.
      let stop = halts origin p (subst (λ r. IsAt stands gave origin taken r s p) (sym same) at) in
      (stop.0, ap (add_line room p) (reads_as origin taken old s p line at ∙ means) ∙ stop.1, stop.2, stop.3)
  Halts-read room taken after old mid s t line wanted NoMemory means same halts = λ origin p at. halts origin p (subst (λ r. IsAt stands gave origin taken r s p) (sym same) at)
  Halts-read room taken after old mid s t line wanted Done means same halts = halts
  Halts-read room taken after old mid s t line wanted ReadFault means same halts = halts
  Halts-read room taken after old mid s t line wanted TooLong means same halts = halts

  -- the same of a part that answers a result
  pub Steps-read-ok : {T E : Type 0} (r : Result T E) (room : ℕ) (taken after : Option (List ℕ)) (old mid new : Run) (s t : R) (line : List ℕ) (wanted : Result Meaning ℕ)
      → line_of old.config old.given old.begun line ≡ wanted → mid ≡ old → OnOk r (Steps stands gave (λ p. add_line room p wanted) taken after mid new s t) → OnOk r (Steps stands gave (λ p. after_line room p line) taken after old new s t)
  Steps-read-ok (Ok x) room taken after old mid new s t line wanted means same steps = Steps-read room taken after old mid new s t line wanted means same steps
  Steps-read-ok (Err e) room taken after old mid new s t line wanted means same steps = tt

  pub Halts-read-err : {T : Type 0} (r : Result T Ending) (room : ℕ) (taken after : Option (List ℕ)) (old mid : Run) (s t : R) (line : List ℕ) (wanted : Result Meaning ℕ)
      → line_of old.config old.given old.begun line ≡ wanted → mid ≡ old → IfErr r (λ e. Halts stands gave (λ p. add_line room p wanted) taken after mid s t e) → IfErr r (λ e. Halts stands gave (λ p. after_line room p line) taken after old s t e)
  Halts-read-err (Ok x) room taken after old mid s t line wanted means same halts = tt
  Halts-read-err (Err e) room taken after old mid s t line wanted means same halts = Halts-read room taken after old mid s t line wanted e means same halts

  -- a line that is refused
  pub Halts-refused : (room : ℕ) (taken : Option (List ℕ)) (run : Run) (s : R) (line : List ℕ) (why : ℕ) → line_of run.config run.given run.begun line ≡ Err why
      → Halts stands gave (λ p. after_line room p line) taken taken run s s (Refused (run.lines + 1) why)
  Halts-refused room taken run s line why means = λ origin p at.
      (ap (add_line room p) (reads_as origin taken run s p line at ∙ means), ap (λ n. n + 1) at.lines, ran_of origin taken run s p at)

  -- a line that holds nothing
  pub Steps-blank : (room : ℕ) (taken : Option (List ℕ)) (run : Run) (s : R) → Steps stands gave (λ p. add_line room p (Ok IsBlank)) taken taken run (record run { lines = run.lines + 1 }) s s
  Steps-blank room taken run s = λ origin p at. (
    record p { lines = p.lines + 1 },
    refl,
    record {
      config = at.config;
      given = at.given;
      begun = at.begun;
      lines = ap (λ n. n + 1) at.lines;
      controls = at.controls;
      records = at.records;
      text = at.text;
      unbegun = λ e. (let none = at.unbegun e in record { done = none.done; current = none.current; nothing = none.nothing });
      ran = at.ran;
      for_phases = at.for_phases;
      written = at.written;
    },
  )

  -- a setting
  pub Steps-setting : (room : ℕ) (taken : Option (List ℕ)) (run : Run) (s : R) (config : Config) (given : ℕ) → run.begun ≡ false
      → Steps stands gave (λ p. add_line room p (Ok (IsSetting config given))) taken taken run (record run { config = config; given = given; lines = run.lines + 1 }) s s
  Steps-setting room taken run s config given before = λ origin p at.
      let none = at.unbegun (sym at.begun ∙ before) in
      let q : Progress = record p { lines = p.lines + 1; config = config; given = given } in (
        q,
        refl,
        record {
          config = refl;
          given = refl;
          begun = at.begun;
          lines = ap (λ n. n + 1) at.lines;
          controls = at.controls;
          records = at.records;
          text = at.text;
          unbegun = λ e. record { done = none.done; current = none.current; nothing = none.nothing };
          ran = λ e. absurd (contradiction (sym e ∙ sym at.begun ∙ before));
          for_phases = given_none (gave s) config p.done at.text none.done none.nothing;
          written = at.written;
        },
      )

  -- the word that ends the settings
  pub Steps-begin : (room : ℕ) (taken : Option (List ℕ)) (run : Run) (s t : R) → run.begun ≡ false → stands t run.config [] []
      → Steps stands gave (λ p. add_line room p (Ok IsBegin)) taken taken run (record run { begun = true; lines = run.lines + 1 }) s t
  Steps-begin room taken run s t before opened = λ origin p at.
      let none = at.unbegun (sym at.begun ∙ before) in (
        record p { lines = p.lines + 1; begun = true },
        refl,
        record {
          config = at.config;
          given = at.given;
          begun = refl;
          lines = ap (λ n. n + 1) at.lines;
          controls = at.controls;
          records = at.records;
          text = at.text;
          unbegun = λ e. absurd (contradiction e);
          ran = λ e. subst (λ t'. stands t p.config p.done t') (sym none.nothing)
              (subst (λ d. stands t p.config d []) (sym none.done) (subst (λ c. stands t c [] []) at.config opened));
          for_phases = given_none (gave t) p.config p.done at.text none.done none.nothing;
          written = at.written;
        },
      )

  -- the word that ends a phase
  pub Steps-sync : (room : ℕ) (taken after : Option (List ℕ)) (old new : Run) (s t : R) → Steps stands gave (λ p. Ok (ended p)) taken after old new s t
      → Steps stands gave (λ p. add_line room p (Ok IsSync)) taken after old (record new { lines = new.lines + 1 }) s t
  Steps-sync room taken after old new s t steps = λ origin p at.
      let step = steps origin p at in
      let same : step.0 ≡ ended p = cc in
      let is = subst (λ q. IsAt stands gave origin after new t q) same step.2 in
      let q : Progress = record (ended p) { lines = p.lines + 1 } in (
        q,
        refl,
        record {
          config = is.config;
          given = is.given;
          begun = is.begun;
          lines = ap (λ n. n + 1) is.lines;
          controls = is.controls;
          records = is.records;
          text = is.text;
          unbegun = λ e. (let none = is.unbegun e in record { done = none.done; current = none.current; nothing = none.nothing });
          ran = is.ran;
          for_phases = is.for_phases;
          written = is.written;
        },
      )

  pub Halts-sync : (room : ℕ) (taken after : Option (List ℕ)) (old : Run) (s t : R) (ending : Ending) → Halts stands gave (λ p. Ok (ended p)) taken after old s t ending
      → Halts stands gave (λ p. add_line room p (Ok IsSync)) taken after old s t ending
  Halts-sync room taken after old s t (Refused line why) h = λ origin p at. absurd (contradiction (h origin p at).0)
    where
      contradiction : {q : Progress} {stop : Stop} → Ok q ≡ Err stop → ⊥
      contradiction e = cc
  Halts-sync room taken after old s t Full h = λ origin p at. absurd (contradiction (h origin p at).0)
    where
      contradiction : {q : Progress} {stop : Stop} → Ok q ≡ Err stop → ⊥
      contradiction e = cc
  Halts-sync room taken after old s t WriteFault h = λ origin p at. (record (ended p) { lines = p.lines + 1 }, refl, refl, (h origin p at).3)
  Halts-sync room taken after old s t NoMemory h = h
  Halts-sync room taken after old s t Done h = h
  Halts-sync room taken after old s t ReadFault h = h
  Halts-sync room taken after old s t TooLong h = h

  -- a record joins the open phase
  joined : (origin taken : Option (List ℕ)) (old new : Run) (s : R) (r : TraceRecord) (e : Entered) (controls : ℕ) (p : Progress) → entered r ≡ e → old.begun ≡ true → Joins old new r controls
      → IsAt stands gave origin taken old s p → IsAt stands gave origin taken new s (record p { lines = p.lines + 1; controls = controls; current = p.current ++ e ∷ [] })
  joined origin taken old new s r e controls p is begun joins at =
      subst (λ run. IsAt stands gave origin taken run s (record p { lines = p.lines + 1; controls = controls; current = p.current ++ e ∷ [] })) (sym joins.rest) (record {
        config = at.config;
        given = at.given;
        begun = at.begun;
        lines = ap (λ n. n + 1) at.lines;
        controls = refl;
        records = pushed old.records.items new.records.items r p.current joins.records at.records ∙ ap (λ x. p.current ++ x ∷ []) is;
        text = at.text;
        unbegun = λ none. absurd (contradiction (sym begun ∙ at.begun ∙ none));
        ran = at.ran;
        for_phases = at.for_phases;
        written = at.written;
      })

  pub Steps-control : {T E : Type 0} (result : Result T E) (room : ℕ) (taken : Option (List ℕ)) (old new : Run) (s : R) (lane : ℕ) (event : Happening) (r : TraceRecord) → entered r ≡ ControlEntry lane event → old.begun ≡ true
      → OnOk result ((old.controls < room) × Joins old new r (old.controls + 1))
      → OnOk result (Steps stands gave (λ p. add_record room p (ControlEntry lane event)) taken taken old new s s)
  Steps-control (Err e) room taken old new s lane event r is begun joins = tt
  Steps-control (Ok x) room taken old new s lane event r is begun joins = λ origin p at.
      let fits : ltb p.controls room ≡ true = below p.controls room (let short = joins.0 in omega (arith, at.controls, short)) in
      let q : Progress = record p { lines = p.lines + 1; controls = p.controls + 1; current = p.current ++ ControlEntry lane event ∷ [] } in (
        q,
        ap (λ b. cond b (Ok q) (Err IsFull)) fits,
        subst (λ n. IsAt stands gave origin taken new s (record p { lines = p.lines + 1; controls = n; current = p.current ++ ControlEntry lane event ∷ [] })) (ap (λ n. n + 1) at.controls)
            (joined origin taken old new s r (ControlEntry lane event) (old.controls + 1) p is begun joins.1 at),
      )
    where
      below : (m n : ℕ) → m < n → ltb m n ≡ true
      below m n h = grind (arith, nat_tests)

  -- there is no room for it, or no memory
  pub Halts-control : {T : Type 0} (result : Result T Ending) (room : ℕ) (taken : Option (List ℕ)) (old : Run) (s : R) (lane : ℕ) (event : Happening)
      → IfErr result (λ e. (e ≡ NoMemory) ⊎ ((e ≡ Full) × (room ≤ old.controls)))
      → IfErr result (λ e. Halts stands gave (λ p. add_record room p (ControlEntry lane event)) taken taken old s s e)
  Halts-control (Ok x) room taken old s lane event why = tt
  Halts-control (Err ending) room taken old s lane event (inl none) =
      subst (Halts stands gave (λ p. add_record room p (ControlEntry lane event)) taken taken old s s) (sym none) (λ origin p at. ended_of origin taken old s p at)
  Halts-control (Err ending) room taken old s lane event (inr full) =
      subst (Halts stands gave (λ p. add_record room p (ControlEntry lane event)) taken taken old s s) (sym full.0) (λ origin p at.
      let over : ltb p.controls room ≡ false = above p.controls room (let full = full.1 in omega (arith, at.controls, full)) in
      (ap (λ b. cond b (Ok (record p { lines = p.lines + 1; controls = p.controls + 1; current = p.current ++ ControlEntry lane event ∷ [] })) (Err IsFull)) over, ran_of origin taken old s p at))
    where
      above : (m n : ℕ) → n ≤ m → ltb m n ≡ false
      above m n h = grind (arith, nat_tests)

  pub Steps-data : {T E : Type 0} (result : Result T E) (room : ℕ) (taken : Option (List ℕ)) (old new : Run) (s : R) (port : ℕ) (octets : List ℕ) → old.begun ≡ true
      → OnOk result (Joins old new (Data port octets) old.controls)
      → OnOk result (Steps stands gave (λ p. add_record room p (DataEntry port octets)) taken taken old new s s)
  Steps-data (Err e) room taken old new s port octets begun joins = tt
  Steps-data (Ok x) room taken old new s port octets begun joins = λ origin p at. (
    record p { lines = p.lines + 1; current = p.current ++ DataEntry port octets ∷ [] },
    refl,
    subst (λ n. IsAt stands gave origin taken new s (record p { lines = p.lines + 1; controls = n; current = p.current ++ DataEntry port octets ∷ [] })) at.controls
        (joined origin taken old new s (Data port octets) (DataEntry port octets) old.controls p refl begun joins at),
  )

  -- want of memory, where nothing was written
  pub Halts-memory : {T : Type 0} (r : Result T Ending) (next : Progress → Result Progress Stop) (taken : Option (List ℕ)) (old : Run) (s t : R)
      → ((config : Config) (phases : List (List Entered)) (text : List ℕ) → IsGiven (gave s) config phases text → IsGiven (gave t) config phases text) → IfErr r (λ e. e ≡ NoMemory)
      → IfErr r (λ e. Halts stands gave next taken taken old s t e)
  Halts-memory (Ok x) next taken old s t same e = tt
  Halts-memory (Err ending) next taken old s t same e =
      subst (Halts stands gave next taken taken old s t) (sym e) (λ origin p at. record { text = at.text; for_phases = same p.config p.done at.text at.for_phases; taken = at.written })

  -- what stands of the open line is no part of it
  pub Steps-line : (next : Progress → Result Progress Stop) (taken after : Option (List ℕ)) (old mid new : Run) (s t : R) → Steps stands gave next taken after old mid s t → new ≡ record mid { line = new.line }
      → Steps stands gave next taken after old new s t
  Steps-line next taken after old mid new s t steps same = λ origin p at.
      let step = steps origin p at in
      (step.0, step.1, IsAt-line origin after mid new t step.0 same step.2)

  -- ---- the open phase is run

  -- these records were run as one more phase, behind a text that is empty
  abbrev pub Ran : (s t : R) → List Entered → (before text : List ℕ) → Type 0
  Ran s t rs before text = (c : Config) (phases : List (List Entered)) (was : List ℕ) → stands s c phases was
      → RanPhase (stands t) (gave t) c phases rs was before text

  -- what was given for it was taken
  pub Steps-phase : (taken after : Option (List ℕ)) (run new : Run) (s t : R) (rs : List Entered) (before text said : List ℕ) → said ≡ text → run.begun ≡ true → rs ≡ entered_all run.records.items
      → Ran s t rs before text → before ≡ [] → Appends taken after said → new.records.items ≡ [] → new ≡ record run { records = new.records }
      → Steps stands gave (λ p. Ok (ended p)) taken after run new s t
  Steps-phase taken after run new s t rs before text said told is all ran none wrote empty same = λ origin p at.
      let begun : p.begun ≡ true = sym at.begun ∙ is in
      let step = ran p.config p.done at.text (at.ran begun) in
      let current : rs ≡ p.current = all ∙ at.records in (
        ended p,
        refl,
        subst (λ r. IsAt stands gave origin after r t (ended p)) (sym same) (record {
          config = at.config;
          given = at.given;
          begun = at.begun;
          lines = at.lines;
          controls = at.controls;
          records = ap entered_all empty;
          text = at.text ++ step.0;
          unbegun = λ e. absurd (contradiction (sym begun ∙ e));
          ran = λ e. subst (λ l. stands t p.config (p.done ++ l ∷ []) (at.text ++ step.0)) current step.2;
          for_phases = given_more (gave t) p.config p.done p.current (at.text ++ step.0) (subst (λ l. gave t p.config (p.done ++ l ∷ []) (at.text ++ step.0)) current step.3);
          written = Appends-trans origin taken after _ _ at.written (Appends-same taken after _ _ (told ∙ step.1 ∙ ap (λ l. l ++ step.0) none) wrote);
        }),
      )

  -- a part of it was taken
  pub Halts-phase : (taken after : Option (List ℕ)) (run : Run) (s t : R) (rs : List Entered) (before text said : List ℕ)
      → ((config : Config) (phases : List (List Entered)) (text : List ℕ) → IsGiven (gave s) config phases text → IsGiven (gave t) config phases text) → said ≡ text → run.begun ≡ true → rs ≡ entered_all run.records.items
      → Ran s t rs before text → before ≡ [] → TakesWhole {A = ℕ} {E = ℕ} taken after said (Err 0)
      → Halts stands gave (λ p. Ok (ended p)) taken after run s t WriteFault
  Halts-phase taken after run s t rs before text said kept told is all ran none part = λ origin p at.
      let step = ran p.config p.done at.text (at.ran (sym at.begun ∙ is)) in
      let current : rs ≡ p.current = all ∙ at.records in
      let more : said ≡ step.0 = told ∙ step.1 ∙ ap (λ l. l ++ step.0) none in (
        ended p,
        refl,
        refl,
        record {
          was = at.text;
          more = step.0;
          n = part.0;
          before = kept p.config p.done at.text at.for_phases;
          for_phases = subst (λ l. stands t p.config (p.done ++ l ∷ []) (at.text ++ step.0)) current step.2;
          proper = subst (λ l. part.0 < length l) more part.1;
          taken = Appends-trans origin taken after _ _ at.written (Appends-same taken after _ _ (ap (take part.0) more) part.2);
        },
      )

-- A run that counts, by the run of what counts.
use Rattle.std.proofs.Common.{◌≡◌, ℕ, ◌<◌, List, [], ◌∷◌, ◌++◌, length, leb, take, codes, Option, None, Some, Err, refl, sym, ap, ap₂, ◌∙◌, subst, arith, length-append, append-nil, ◌+◌}
use Rattle.std.specs.List.{concat}
use Rattle.std.specs.Fmt.{decimal}
use Rattle.std.specs.Io.KnownBytes.{Appends}
use Rattle.wire_defs.proofs.OutsideLemmas.{Appends-same, Appends-trans}
use Rattle.switch_event.specs.Config.{Config}
use Rattle.trace_defs.specs.Line.{Record}
use Rattle.trace_defs.specs.Output.{line_feed}
use Rattle.trace_defs.specs.Trace.{trace_of, whole, progress_of}
use Rattle.history_defs.specs.Output.{controls_in, records_of}
use Rattle.history_defs.proofs.OutputLemmas.{flat_more}
use Rattle.history_defs.proofs.PlaceLemmas.{controls_in-append}
use Rattle.race_run.specs.declared.counter.Counter.{Counter}
use Rattle.race_run.specs.declared.ending.Ending.{Ending}
use Rattle.race_run.specs.declared.ending.Ending.TheVariants.{Done, NoMemory, Refused, ReadFault, WriteFault, Full, TooLong}
use Rattle.outside_text.specs.Streams.{TakesWhole}
use Rattle.race_run.specs.Runs.{Phased, IsGiven, RanPhase}
use Rattle.race_run.specs.Runners.{IsSilent, HasCounted}
use Rattle.race_run.specs.Ending.{OfText, EndsByFate, TakesPhases, RunEnds}
use Rattle.race_run.specs.Counts.{CountEnds, counts_of}
use Rattle.race_run.proofs.FateLemmas.{Implies, whole_some}

-- one phase more was counted
pub HasCounted-more : (old new : Counter) (rs : List Record) (text : List ℕ) (config : Config) (phases : List (List Record)) (was : List ℕ)
    → new.records ≡ old.records + length rs → new.controls ≡ old.controls + controls_in rs → HasCounted old config phases was
    → RanPhase (HasCounted new) IsSilent config phases rs was text text
HasCounted-more old new rs text config phases was records controls h =
    let flat = flat_more phases rs in
    let silent : was ++ [] ≡ [] = append-nil was ∙ h.silent in (
      [],
      sym (append-nil text),
      record {
        records = records ∙ ap (λ n. n + length rs) h.records ∙ sym (ap length flat ∙ length-append (records_of phases) rs);
        controls = controls ∙ ap (λ n. n + controls_in rs) h.controls ∙ sym (ap controls_in flat ∙ controls_in-append (records_of phases) rs);
        silent = silent;
      },
      silent,
    )

each_of : {P Q : List ℕ → Type 0} (left : Option (List ℕ)) → ((rest : List ℕ) → P rest → Q rest) → OfText left P → OfText left Q
each_of None f h = (h.0, f h.0 h.1)
each_of (Some rest) f h = f rest h

given_nothing : (ran : Phased) → Implies ran IsSilent → (config : Config) (phases : List (List Record)) (text : List ℕ) → IsGiven ran config phases text → text ≡ []
given_nothing ran silent config [] text h = h
given_nothing ran silent config (phase ∷ phases) text h = silent config (phase ∷ phases) text h

-- where nothing is given, nothing was taken
nothing_taken : (ran : Phased) → Implies ran IsSilent → (origin after : Option (List ℕ)) (config : Config) (phases : List (List Record)) → TakesPhases ran origin after config phases → Appends origin after []
nothing_taken ran silent origin after config phases h = Appends-same origin after h.text [] (given_nothing ran silent config phases h.text h.for_phases) h.taken

none_more : (n : ℕ) (was more : List ℕ) → was ++ more ≡ [] → n < length more → ⊥
none_more n was more e short = (let l = ap length e in let a = length-append was more in omega (arith, l, a, short))

module _ (counter : Counter) where
  silent : Implies (HasCounted counter) IsSilent
  silent config phases text h = h.silent

  same : Implies IsSilent IsSilent
  same config phases text h = h

  -- a run that ends before its end
  pub counted_else : (limit room : ℕ) (config : Config) (before left origin after : Option (List ℕ)) (ending : Ending)
      → RunEnds IsSilent (HasCounted counter) limit room config before left origin after ending → (ending ≡ Done → ⊥) → CountEnds limit room config before left origin after ending
  counted_else limit room config before left origin after Done r other = absurd (other refl)
  counted_else limit room config before left origin after (Refused line why) r other =
      (r.0, r.1, each_of left (λ rest h. (record { fated = h.0.fated; nothing = nothing_taken (HasCounted counter) silent origin after _ _ h.0.output }, h.1)) r.2)
  counted_else limit room config before left origin after Full r other =
      (r.0, r.1, each_of left (λ rest h. record { fated = h.fated; nothing = nothing_taken (HasCounted counter) silent origin after _ _ h.output }) r.2)
  counted_else limit room config before left origin after TooLong r other =
      (r.0, r.1, each_of left (λ rest h. record { fated = h.fated; nothing = nothing_taken (HasCounted counter) silent origin after _ _ h.output }) r.2)
  counted_else limit room config before left origin after ReadFault r other = (r.0, r.1, nothing_taken (HasCounted counter) silent origin after _ _ r.2)
  counted_else limit room config before left origin after WriteFault r other =
      let part = r.2.part in
      let ran = part.for_phases in
      absurd (none_more part.n part.was part.more ran.silent part.proper)
  counted_else limit room config before left origin after NoMemory r other = (r.0, r.1, nothing_taken IsSilent same origin after _ _ r.2.output)

  abbrev pub line_of : List ℕ
  line_of = concat (codes "ok " ∷ decimal counter.records ∷ codes " " ∷ decimal counter.controls ∷ line_feed ∷ [])

  counted_behind : (config : Config) (phases : List (List Record)) (phase : List Record) (all : List (List Record)) (text : List ℕ) → all ≡ phases ++ phase ∷ []
      → IsGiven (HasCounted counter) config all text → HasCounted counter config all text
  counted_behind config phases phase (one ∷ all) text e h = h
  counted_behind config phases phase [] text e h = absurd (let l = ap length e in let a = length-append phases (phase ∷ []) in omega (arith, l, a))

  same_line : (limit room : ℕ) (config : Config) (text : List ℕ) (origin after : Option (List ℕ)) → EndsByFate (HasCounted counter) limit room config text origin after 0 → line_of ≡ counts_of limit room config text
  same_line limit room config text origin after h =
      let some = whole_some (leb (length text) limit) (trace_of limit room config text) h.fated in
      let counted = counted_behind (progress_of (trace_of limit room config text)).config some.0 some.1 (whole limit room config text) h.output.text some.2 h.output.for_phases in
      ap₂ (λ m n. concat (codes "ok " ∷ decimal m ∷ codes " " ∷ decimal n ∷ line_feed ∷ [])) counted.records counted.controls

  -- all was read, and this was said of it
  pub counted_all : (limit room : ℕ) (config : Config) (before left origin mid after : Option (List ℕ)) (ending : Ending) (said : List ℕ)
      → RunEnds IsSilent (HasCounted counter) limit room config before left origin mid ending → ending ≡ Done → said ≡ line_of
      → Appends mid after said → CountEnds limit room config before left origin after Done
  counted_all limit room config before left origin mid after ending said r done is wrote =
      let h = subst (RunEnds IsSilent (HasCounted counter) limit room config before left origin mid) done r in
      let line : said ≡ counts_of limit room config h.0 = is ∙ same_line limit room config h.0 origin mid h.2.1 in (
        h.0,
        h.1,
        (
          h.2.0,
          record {
            fated = h.2.1.fated;
            output = Appends-trans origin mid after [] _ (nothing_taken (HasCounted counter) silent origin mid _ _ h.2.1.output) (Appends-same mid after _ _ line wrote);
          },
        ),
      )

  -- or a part of it
  pub counted_part : (limit room : ℕ) (config : Config) (before left origin mid after : Option (List ℕ)) (ending : Ending) (said : List ℕ)
      → RunEnds IsSilent (HasCounted counter) limit room config before left origin mid ending → ending ≡ Done → said ≡ line_of
      → TakesWhole {A = ℕ} {E = ℕ} mid after said (Err 0) → CountEnds limit room config before left origin after WriteFault
  counted_part limit room config before left origin mid after ending said r done is part =
      let h = subst (RunEnds IsSilent (HasCounted counter) limit room config before left origin mid) done r in
      let line : said ≡ counts_of limit room config h.0 = is ∙ same_line limit room config h.0 origin mid h.2.1 in (
        h.0,
        h.1,
        record {
          n = part.0;
          fated = h.2.1.fated;
          at_end = h.2.0;
          proper = subst (λ l. part.0 < length l) line part.1;
          taken = Appends-trans origin mid after [] _ (nothing_taken (HasCounted counter) silent origin mid _ _ h.2.1.output) (Appends-same mid after _ _ (ap (take part.0) line) part.2);
        },
      )

-- How a run ends, by the text that it was given.
use Rattle.std.proofs.Common.{◌≡◌, ℕ, ◌+◌, ◌<◌, ◌≤◌, Bool, true, false, cond, leb, List, [], ◌∷◌, ◌++◌, length, Option, None, Some, Ok, Err, refl, sym, ap, ◌∙◌, subst, arith, append_assoc}
use Rattle.std.specs.Io.KnownBytes.{IsAtEnd}
use Rattle.std.proofs.lemmas.Bool.Decides.{nat_tests}
use Rattle.switch_event.specs.Config.{Config}
use Rattle.trace_defs.specs.Line.{Record}
use Rattle.trace_defs.specs.Reading.{HasRead}
use Rattle.trace_defs.specs.Trace.{Progress, Stop, fate_of, whole_of, trace_of, progress_of, reason_of, after_line}
use Rattle.trace_defs.specs.Trace.{Reading}
use Rattle.trace_defs.specs.Trace.Reading.{Going, Stopped}
use Rattle.trace_defs.specs.Trace.Stop.{Refused as IsRefused, Full as IsFull}
use Rattle.trace_defs.proofs.TraceLemmas.{trace_of-stop}
use Rattle.race_run.specs.declared.ending.Ending.{Ending}
use Rattle.race_run.specs.declared.ending.Ending.TheVariants.{Done, NoMemory, Refused, ReadFault, WriteFault, Full, TooLong}
use Rattle.race_run.specs.Runs.{Phased, IsGiven}
use Rattle.race_run.specs.Ending.{OfText, EndsByFate, IsRefusedAt, TakesPhases, TakesEnded, RunEnds}

pub contradiction : {q : Progress} {stop : Stop} → Ok q ≡ Err stop → ⊥
contradiction e = cc

pub other_way : true ≡ false → ⊥
other_way e = cc

pub each : {P : List ℕ → Type 0} (left : Option (List ℕ)) → ((rest : List ℕ) → P rest) → OfText left P
each None h = ([], h [])
each (Some rest) h = h rest

pub at_end : (P : List ℕ → Type 0) (left : Option (List ℕ)) → IsAtEnd left → P [] → OfText left P
at_end P None e h = ([], h)
at_end P (Some rest) e h = subst P (sym e) h

pub fits_within : (n limit : ℕ) → n ≤ limit → leb n limit ≡ true
fits_within n limit h = grind (arith, nat_tests)

-- ---- the text, by what a line or the end says of it

-- a trace that a line stops
pub EndsByFate-stopped : (ran : Phased) (limit room : ℕ) (config : Config) (text : List ℕ) (origin after : Option (List ℕ)) (p : Progress) (stop : Stop) (status : ℕ)
    → trace_of limit room config text ≡ Stopped p stop → fate_of (leb (length text) limit) (Stopped p stop) ≡ status
    → TakesEnded ran origin after p → EndsByFate ran limit room config text origin after status
EndsByFate-stopped ran limit room config text origin after p stop status e s taken = record {
  fated = ap (fate_of (leb (length text) limit)) e ∙ s;
  output = subst (λ r. TakesPhases ran origin after (progress_of r).config (whole_of (leb (length text) limit) r)) (sym e) taken;
}

-- the line that stops it
pub IsRefusedAt-stopped : (limit room : ℕ) (config : Config) (text : List ℕ) (p : Progress) (line why : ℕ) → trace_of limit room config text ≡ Stopped p (IsRefused why) → line ≡ p.lines + 1
    → IsRefusedAt limit room config text line why
IsRefusedAt-stopped limit room config text p line why e is = record {
  line_is = is ∙ ap (λ r. (progress_of r).lines + 1) (sym e);
  why_is = ap reason_of (sym e);
}

-- a trace that no line stops
pub EndsByFate-going : (ran : Phased) (limit room : ℕ) (config : Config) (text : List ℕ) (origin after : Option (List ℕ)) (p : Progress) (fits : Bool) (status : ℕ)
    → trace_of limit room config text ≡ Going p → leb (length text) limit ≡ fits → fate_of fits (Going p) ≡ status
    → TakesPhases ran origin after p.config (whole_of fits (Going p)) → EndsByFate ran limit room config text origin after status
EndsByFate-going ran limit room config text origin after p fits status e within s taken = record {
  fated = ap (fate_of (leb (length text) limit)) e ∙ ap (λ b. fate_of b (Going p)) within ∙ s;
  output = subst (λ r. TakesPhases ran origin after (progress_of r).config (whole_of (leb (length text) limit) r)) (sym e)
      (subst (λ b. TakesPhases ran origin after p.config (whole_of b (Going p))) (sym within) taken);
}

-- a line stops the run, whatever follows
pub EndsByFate-line : (ran : Phased) (limit room : ℕ) (config : Config) (given rest part : List ℕ) (origin after : Option (List ℕ)) (p : Progress) (stop : Stop) (status : ℕ)
    → HasRead room config given p part → length given < limit → after_line room p part ≡ Err stop → ((fits : Bool) → fate_of fits (Stopped p stop) ≡ status)
    → TakesEnded ran origin after p → EndsByFate ran limit room config ((given ++ 10 ∷ []) ++ rest) origin after status
EndsByFate-line ran limit room config given rest part origin after p stop status read short stops is taken =
    subst (λ text. EndsByFate ran limit room config text origin after status) (sym (append_assoc given (10 ∷ []) rest))
    (EndsByFate-stopped ran limit room config (given ++ 10 ∷ rest) origin after p stop status (trace_of-stop limit room config given rest part p stop read short stops)
    (is (leb (length (given ++ 10 ∷ rest)) limit)) taken)

pub IsRefusedAt-line : (limit room : ℕ) (config : Config) (given rest part : List ℕ) (p : Progress) (line why : ℕ) → HasRead room config given p part → length given < limit
    → after_line room p part ≡ Err (IsRefused why) → line ≡ p.lines + 1 → IsRefusedAt limit room config ((given ++ 10 ∷ []) ++ rest) line why
IsRefusedAt-line limit room config given rest part p line why read short stops is =
    subst (λ text. IsRefusedAt limit room config text line why) (sym (append_assoc given (10 ∷ []) rest))
    (IsRefusedAt-stopped limit room config (given ++ 10 ∷ rest) p line why (trace_of-stop limit room config given rest part p (IsRefused why) read short stops) is)

not_zero : (n : ℕ) → 0 < n → n ≡ 0 → ⊥
not_zero n some none = omega (arith, some, none)

-- a text that runs has a last phase
pub whole_some : (fits : Bool) (r : Reading) → fate_of fits r ≡ 0 → (phases : List (List Record)) × (phase : List Record) × (whole_of fits r ≡ phases ++ phase ∷ [])
whole_some true (Going p) e = step p.begun refl
  where
    step : (b : Bool) → p.begun ≡ b → (phases : List (List Record)) × (phase : List Record) × (whole_of true (Going p) ≡ phases ++ phase ∷ [])
    step true is = (p.done, p.current, ap (λ b. cond b (p.done ++ p.current ∷ []) p.done) is)
    step false is = absurd (not_zero 3 (omega arith) (sym (ap (λ b. cond b 0 3) is) ∙ e))
whole_some false (Going p) e = absurd (not_zero 8 (omega arith) e)
whole_some fits (Stopped p (IsRefused reason)) e = absurd (not_zero 3 (omega arith) e)
whole_some fits (Stopped p IsFull) e = absurd (not_zero 6 (omega arith) e)

-- ---- what is given in one sense is given in another

-- the second relation holds where the first does
abbrev pub Implies : Phased → Phased → Type 0
Implies P Q = (config : Config) (phases : List (List Record)) (text : List ℕ) → P config phases text → Q config phases text

given_as : (P Q : Phased) → Implies P Q → (config : Config) (phases : List (List Record)) (text : List ℕ) → IsGiven P config phases text → IsGiven Q config phases text
given_as P Q f config [] text h = h
given_as P Q f config (phase ∷ phases) text h = f config (phase ∷ phases) text h

takes_as : (P Q : Phased) → Implies P Q → (origin after : Option (List ℕ)) (config : Config) (phases : List (List Record)) → TakesPhases P origin after config phases → TakesPhases Q origin after config phases
takes_as P Q f origin after config phases h = record { text = h.text; for_phases = given_as P Q f config phases h.text h.for_phases; taken = h.taken }

fate_as : (P Q : Phased) → Implies P Q → (limit room : ℕ) (config : Config) (text : List ℕ) (origin after : Option (List ℕ)) (status : ℕ)
    → EndsByFate P limit room config text origin after status → EndsByFate Q limit room config text origin after status
fate_as P Q f limit room config text origin after status h = record { fated = h.fated; output = takes_as P Q f origin after _ _ h.output }

each_as : {P Q : List ℕ → Type 0} (left : Option (List ℕ)) → ((rest : List ℕ) → P rest → Q rest) → OfText left P → OfText left Q
each_as None f h = (h.0, f h.0 h.1)
each_as (Some rest) f h = f rest h

pub RunEnds-as : (gave gave_too ran ran_too : Phased) → Implies gave gave_too → Implies ran ran_too → (limit room : ℕ) (config : Config) (before left origin after : Option (List ℕ)) (ending : Ending)
    → RunEnds gave ran limit room config before left origin after ending → RunEnds gave_too ran_too limit room config before left origin after ending
RunEnds-as gave gave_too ran ran_too f h limit room config before left origin after Done r = (r.0, r.1, (r.2.0, fate_as ran ran_too h limit room config r.0 origin after 0 r.2.1))
RunEnds-as gave gave_too ran ran_too f h limit room config before left origin after NoMemory r =
    let short = r.2 in
    (r.0, r.1, record { p = short.p; place = short.place; output = takes_as gave gave_too f origin after _ _ short.output; short = short.short })
RunEnds-as gave gave_too ran ran_too f h limit room config before left origin after (Refused line why) r =
    (r.0, r.1, each_as left (λ rest e. (fate_as ran ran_too h limit room config (r.0 ++ rest) origin after 3 e.0, e.1)) r.2)
RunEnds-as gave gave_too ran ran_too f h limit room config before left origin after ReadFault r = (r.0, r.1, takes_as ran ran_too h origin after _ _ r.2)
RunEnds-as gave gave_too ran ran_too f h limit room config before left origin after WriteFault r =
    let half = r.2 in
    let part = half.part in (
      r.0,
      r.1,
      record {
        p = half.p;
        place = half.place;
        part = record {
          was = part.was;
          more = part.more;
          n = part.n;
          before = given_as gave gave_too f _ _ part.was part.before;
          for_phases = h _ _ _ part.for_phases;
          proper = part.proper;
          taken = part.taken;
        };
        short = half.short;
      },
    )
RunEnds-as gave gave_too ran ran_too f h limit room config before left origin after Full r =
    (r.0, r.1, each_as left (λ rest e. fate_as ran ran_too h limit room config (r.0 ++ rest) origin after 6 e) r.2)
RunEnds-as gave gave_too ran ran_too f h limit room config before left origin after TooLong r =
    (r.0, r.1, each_as left (λ rest e. fate_as ran ran_too h limit room config (r.0 ++ rest) origin after 8 e) r.2)

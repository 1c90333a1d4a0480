-- What the end of a run says of a text that the source tells.
use Rattle.std.proofs.Common.{◌≡◌, ◌⊎◌, ℕ, List, [], ◌++◌, Option, None, Some, sym, ap, ◌∙◌, subst, append-nil, arith}
use Rattle.std.specs.Io.KnownBytes.{Appends, Consumes, IsAtEnd}
use Rattle.switch_event.specs.Config.{Config}
use Rattle.trace_defs.specs.Trace.{reason_of, trace_of}
use Rattle.history_defs.specs.Status.{refusal_text}
use Rattle.race_run.specs.declared.ending.Ending.{Ending}
use Rattle.race_run.specs.declared.ending.Ending.TheVariants.{Done, NoMemory, Refused, ReadFault, WriteFault, Full, TooLong}
use Rattle.race_run.specs.Ending.{OfText, IsRefusedAt, EndsByFate, TakesGiven, HalfWritten, StopsShort, RunEnds, refusal_of, status_of, ending_text}
use Rattle.race_run.specs.Runs.{Phased}
use Rattle.race_run.specs.Counts.{CountEnds, HalfCounted}
use Rattle.outside_text.specs.Streams.{Says}
use Rattle.switch_top.specs.Top.{Counts, CountsByFate, IsByText, OfGiven, Writes}

-- the octets given and those left are the text
told : (P : List ℕ → Type 0) (before left : Option (List ℕ)) (given : List ℕ) → Consumes before left given → OfText left (λ rest. P (given ++ rest)) → OfText before P
told P None None given c h = (given ++ h.0, h.1)
told P None (Some rest) given c h = (given ++ rest, h)
told P (Some b) None given c h = absurd c
told P (Some b) (Some rest) given c h = subst P (sym c) h

told_whole : (P : List ℕ → Type 0) (before left : Option (List ℕ)) (given : List ℕ) → Consumes before left given → IsAtEnd left → P given → OfText before P
told_whole P None left given c e h = (given, h)
told_whole P (Some b) None given c e h = absurd c
told_whole P (Some b) (Some rest) given c e h = subst P (sym (c ∙ ap (λ l. given ++ l) e ∙ append-nil given)) h

pub each_text : {P Q : List ℕ → Type 0} (left : Option (List ℕ)) → ((text : List ℕ) → P text → Q text) → OfText left P → OfText left Q
each_text None f h = (h.0, f h.0 h.1)
each_text (Some text) f h = f text h

-- ---- what is said

-- what is said of a line that was refused
abbrev SaysRefusal : ℕ → ℕ → Config → Option (List ℕ) → Option (List ℕ) → ℕ → ℕ → List ℕ → Type 0
SaysRefusal limit room want old new before now text = Says old new before now (refusal_of limit room want text)

named : (limit room : ℕ) (want : Config) (old new : Option (List ℕ)) (before now line why : ℕ) → Says old new before now (refusal_text line why)
    → (text : List ℕ) → IsRefusedAt limit room want text line why → SaysRefusal limit room want old new before now text
named limit room want old new before now line why said text at =
    subst (λ n. Says old new before now (refusal_text n (reason_of (trace_of limit room want text)))) at.line_is
    (subst (λ n. Says old new before now (refusal_text line n)) at.why_is said)

-- where a line was refused, it is that of the text
abbrev RefusesAt : ℕ → ℕ → Config → Option (List ℕ) → List ℕ → Ending → Type 0
RefusesAt limit room config left given (Refused line why) = OfText left (λ rest. IsRefusedAt limit room config (given ++ rest) line why)
RefusesAt limit room config left given ending = Unit {0}

refused_of : (limit room : ℕ) (config : Config) (text left old new : Option (List ℕ)) (before now : ℕ) (given : List ℕ) (ending : Ending) (status : ℕ)
    → Consumes text left given → RefusesAt limit room config left given ending → Says old new before now (ending_text ending) → status ≡ status_of ending → status ≡ 3
    → OfText text (SaysRefusal limit room config old new before now)
refused_of limit room config text left old new before now given (Refused line why) status consumed at said is three =
    told (SaysRefusal limit room config old new before now) text left given consumed (each_text left (λ rest h. named limit room config old new before now line why said (given ++ rest) h) at)
refused_of limit room config text left old new before now given Done status consumed at said is three = absurd (omega arith)
refused_of limit room config text left old new before now given NoMemory status consumed at said is three = absurd (omega arith)
refused_of limit room config text left old new before now given ReadFault status consumed at said is three = absurd (omega arith)
refused_of limit room config text left old new before now given WriteFault status consumed at said is three = absurd (omega arith)
refused_of limit room config text left old new before now given Full status consumed at said is three = absurd (omega arith)
refused_of limit room config text left old new before now given TooLong status consumed at said is three = absurd (omega arith)

-- ---- a run

module _ (gave ran : Phased) (limit room : ℕ) (config : Config) (before left origin after : Option (List ℕ)) where
  by_text : (ending : Ending) → RunEnds gave ran limit room config before left origin after ending
      → IsByText (status_of ending) → OfText before (λ b. EndsByFate ran limit room config b origin after (status_of ending))
  by_text Done r s = told_whole (λ b. EndsByFate ran limit room config b origin after 0) before left r.0 r.1 r.2.0 r.2.1
  by_text (Refused line why) r s = told (λ b. EndsByFate ran limit room config b origin after 3) before left r.0 r.1 (each_text left (λ rest h. h.0) r.2)
  by_text Full r s = told (λ b. EndsByFate ran limit room config b origin after 6) before left r.0 r.1 r.2
  by_text TooLong r s = told (λ b. EndsByFate ran limit room config b origin after 8) before left r.0 r.1 r.2
  by_text NoMemory r s = absurd (grind arith)
  by_text ReadFault r s = absurd (grind arith)
  by_text WriteFault r s = absurd (grind arith)

  on_read : (ending : Ending) → RunEnds gave ran limit room config before left origin after ending
      → status_of ending ≡ 4 → OfGiven before left (λ given. TakesGiven ran room config given origin after)
  on_read ReadFault r is = r
  on_read Done r is = absurd (omega arith)
  on_read NoMemory r is = absurd (omega arith)
  on_read (Refused line why) r is = absurd (omega arith)
  on_read WriteFault r is = absurd (omega arith)
  on_read Full r is = absurd (omega arith)
  on_read TooLong r is = absurd (omega arith)

  on_write : (ending : Ending) → RunEnds gave ran limit room config before left origin after ending
      → status_of ending ≡ 5 → OfGiven before left (λ given. HalfWritten gave ran limit room config given left origin after)
  on_write WriteFault r is = r
  on_write Done r is = absurd (omega arith)
  on_write NoMemory r is = absurd (omega arith)
  on_write (Refused line why) r is = absurd (omega arith)
  on_write ReadFault r is = absurd (omega arith)
  on_write Full r is = absurd (omega arith)
  on_write TooLong r is = absurd (omega arith)

  on_short : (ending : Ending) → RunEnds gave ran limit room config before left origin after ending
      → status_of ending ≡ 1 → OfGiven before left (λ given. StopsShort gave limit room config given left origin after)
  on_short NoMemory r is = r
  on_short Done r is = absurd (omega arith)
  on_short WriteFault r is = absurd (omega arith)
  on_short (Refused line why) r is = absurd (omega arith)
  on_short ReadFault r is = absurd (omega arith)
  on_short Full r is = absurd (omega arith)
  on_short TooLong r is = absurd (omega arith)

  -- what it wrote, by its status
  pub run_writes : (ending : Ending) (status : ℕ) → RunEnds gave ran limit room config before left origin after ending → status ≡ status_of ending
      → Writes gave ran limit room config before left origin after status
  run_writes ending status r e = subst (Writes gave ran limit room config before left origin after) (sym e)
      (record { by_text = by_text ending r; read_fault = on_read ending r; write_fault = on_write ending r })

  pub run_short : (ending : Ending) (status : ℕ) → RunEnds gave ran limit room config before left origin after ending → status ≡ status_of ending → status ≡ 1
      → OfGiven before left (λ given. StopsShort gave limit room config given left origin after)
  run_short ending status r e one = on_short ending r (sym e ∙ one)

  run_refuses : (ending : Ending) (r : RunEnds gave ran limit room config before left origin after ending) → RefusesAt limit room config left r.0 ending
  run_refuses (Refused line why) r = each_text left (λ rest h. h.1) r.2
  run_refuses Done r = tt
  run_refuses NoMemory r = tt
  run_refuses ReadFault r = tt
  run_refuses WriteFault r = tt
  run_refuses Full r = tt
  run_refuses TooLong r = tt

  pub run_refused : (old new : Option (List ℕ)) (count now : ℕ) (ending : Ending) (status : ℕ)
      → RunEnds gave ran limit room config before left origin after ending → Says old new count now (ending_text ending) → status ≡ status_of ending → status ≡ 3
      → OfText before (SaysRefusal limit room config old new count now)
  run_refused old new count now ending status r said is three =
      refused_of limit room config before left old new count now r.0 ending status r.1 (run_refuses ending r) said is three

-- ---- a count

count_by_text : (limit room : ℕ) (config : Config) (before left origin after : Option (List ℕ)) (ending : Ending) → CountEnds limit room config before left origin after ending
    → IsByText (status_of ending) → OfText before (λ b. CountsByFate limit room config b origin after (status_of ending))
count_by_text limit room config before left origin after Done r s =
    told_whole (λ b. CountsByFate limit room config b origin after 0) before left r.0 r.1 r.2.0 (record { fated = r.2.1.fated; output = r.2.1.output })
count_by_text limit room config before left origin after (Refused line why) r s =
    told (λ b. CountsByFate limit room config b origin after 3) before left r.0 r.1 (each_text left (λ rest h. record { fated = h.0.fated; output = h.0.nothing }) r.2)
count_by_text limit room config before left origin after Full r s =
    told (λ b. CountsByFate limit room config b origin after 6) before left r.0 r.1 (each_text left (λ rest h. record { fated = h.fated; output = h.nothing }) r.2)
count_by_text limit room config before left origin after TooLong r s =
    told (λ b. CountsByFate limit room config b origin after 8) before left r.0 r.1 (each_text left (λ rest h. record { fated = h.fated; output = h.nothing }) r.2)
count_by_text limit room config before left origin after NoMemory r s = absurd (grind arith)
count_by_text limit room config before left origin after ReadFault r s = absurd (grind arith)
count_by_text limit room config before left origin after WriteFault r s = absurd (grind arith)

count_nothing : (limit room : ℕ) (config : Config) (before left origin after : Option (List ℕ)) (ending : Ending) → CountEnds limit room config before left origin after ending
    → (status_of ending ≡ 1) ⊎ (status_of ending ≡ 4) → Appends origin after []
count_nothing limit room config before left origin after NoMemory r s = r.2
count_nothing limit room config before left origin after ReadFault r s = r.2
count_nothing limit room config before left origin after Done r s = absurd (grind arith)
count_nothing limit room config before left origin after (Refused line why) r s = absurd (grind arith)
count_nothing limit room config before left origin after WriteFault r s = absurd (grind arith)
count_nothing limit room config before left origin after Full r s = absurd (grind arith)
count_nothing limit room config before left origin after TooLong r s = absurd (grind arith)

count_part : (limit room : ℕ) (config : Config) (before left origin after : Option (List ℕ)) (ending : Ending) → CountEnds limit room config before left origin after ending
    → status_of ending ≡ 5 → OfGiven before left (λ given. HalfCounted limit room config given left origin after)
count_part limit room config before left origin after WriteFault r s = r
count_part limit room config before left origin after Done r s = absurd (omega arith)
count_part limit room config before left origin after NoMemory r s = absurd (omega arith)
count_part limit room config before left origin after (Refused line why) r s = absurd (omega arith)
count_part limit room config before left origin after ReadFault r s = absurd (omega arith)
count_part limit room config before left origin after Full r s = absurd (omega arith)
count_part limit room config before left origin after TooLong r s = absurd (omega arith)

-- what it wrote, by its status
pub count_writes : (limit room : ℕ) (config : Config) (before left origin after : Option (List ℕ)) (ending : Ending) (status : ℕ)
    → CountEnds limit room config before left origin after ending → status ≡ status_of ending → Counts limit room config before left origin after status
count_writes limit room config before left origin after ending status r e = subst (Counts limit room config before left origin after) (sym e) (record {
  by_text = count_by_text limit room config before left origin after ending r;
  nothing = count_nothing limit room config before left origin after ending r;
  write_fault = count_part limit room config before left origin after ending r;
})

count_refuses : (limit room : ℕ) (config : Config) (before left origin after : Option (List ℕ)) (ending : Ending) (r : CountEnds limit room config before left origin after ending)
    → RefusesAt limit room config left r.0 ending
count_refuses limit room config before left origin after (Refused line why) r = each_text left (λ rest h. h.1) r.2
count_refuses limit room config before left origin after Done r = tt
count_refuses limit room config before left origin after NoMemory r = tt
count_refuses limit room config before left origin after ReadFault r = tt
count_refuses limit room config before left origin after WriteFault r = tt
count_refuses limit room config before left origin after Full r = tt
count_refuses limit room config before left origin after TooLong r = tt

pub count_refused : (limit room : ℕ) (config : Config) (text left origin after old new : Option (List ℕ)) (before now : ℕ) (ending : Ending) (status : ℕ)
    → CountEnds limit room config text left origin after ending → Says old new before now (ending_text ending) → status ≡ status_of ending → status ≡ 3
    → OfText text (SaysRefusal limit room config old new before now)
count_refused limit room config text left origin after old new before now ending status r said is three =
    refused_of limit room config text left old new before now r.0 ending status r.1 (count_refuses limit room config text left origin after ending r) said is three

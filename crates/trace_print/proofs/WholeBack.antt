-- A whole trace that is printed reads back.
use Rattle.std.proofs.Common.{◌≡◌, ℕ, ◌≤◌, Bool, true, false, cond, leb, List, [], ◌∷◌, ◌++◌, length, codes, Result, Ok, Err, OnOk, refl, sym, ap, ap₂, ◌∙◌, subst, arith, append-nil, append_assoc}
use Rattle.std.specs.List.{flat_map}
use Rattle.std.proofs.lemmas.Bool.Decides.{nat_tests}
use Rattle.std.proofs.lemmas.List.Concat.{flat_map-append}
use Rattle.switch_event.specs.Config.{Config, empty}
use Rattle.trace_defs.specs.Line.{Record as Entered}
use Rattle.trace_defs.specs.Text.{config_text, record_text, text_line}
use Rattle.trace_defs.specs.Trace.{Progress, Reading, trace_of, fate_of, whole_of, progress_of}
use Rattle.trace_defs.specs.Trace.Reading.{Going, Stopped}
use Rattle.trace_defs.specs.Trace.Stop.{Refused, Full}
use Rattle.trace_defs.specs.declared.line.Line.{Line}
use Rattle.trace_defs.specs.declared.line.Line.TheVariants.{Blank, Begin, Sync, Setting, Control, Data}
use Rattle.trace_defs.proofs.ReadsBack.{phase_text}
use Rattle.trace_defs.proofs.ReadsBack.{trace_text as text_of}
use Rattle.trace_defs.proofs.TextBack.{text_reads_back, whole_reads_back}
use Rattle.trace_print.specs.Printing.{Appended}
use Rattle.trace_print.specs.Whole.{entry_text, trace_text, records_of, phases_after, phases_of, ReadsAsTrace}

-- ---- the text of the lines is that of their phases

-- the last of a list, and what stands before it
snoc_parts : {A : Type 0} (xs ys : List A) (x y : A) → xs ++ x ∷ [] ≡ ys ++ y ∷ [] → (xs ≡ ys) × (x ≡ y)
snoc_parts [] [] x y e = (refl, cc)
snoc_parts [] (b ∷ []) x y e = absurd (cc)
snoc_parts [] (b ∷ c ∷ ys) x y e = absurd (cc)
snoc_parts (a ∷ []) [] x y e = absurd (cc)
snoc_parts (a ∷ c ∷ xs) [] x y e = absurd (cc)
snoc_parts (a ∷ xs) (b ∷ ys) x y e =
    let first : a ≡ b = cc in
    let more : xs ++ x ∷ [] ≡ ys ++ y ∷ [] = cc in
    let rest = snoc_parts xs ys x y more in
    (ap₂ (λ a l. a ∷ l) first rest.0, rest.1)

-- a line that ends no phase
entry_more : (line : Line) (ended : List (List Entered)) (current : List Entered) (more : List ℕ)
    → entry_text line ≡ flat_map record_text (records_of line)
    → flat_map phase_text ended ++ (flat_map record_text current ++ (entry_text line ++ more))
    ≡ flat_map phase_text ended ++ (flat_map record_text (current ++ records_of line) ++ more)
entry_more line ended current more is =
    let records = flat_map record_text current in
    ap (λ l. flat_map phase_text ended ++ l) (
    sym (append_assoc records (entry_text line) more)
    ∙ ap (λ l. l ++ more) (ap (λ l. records ++ l) is ∙ sym (flat_map-append record_text current (records_of line)))
    )

-- one that ends a phase
sync_more : (ended : List (List Entered)) (current : List Entered) (more : List ℕ)
    → flat_map phase_text ended ++ (flat_map record_text current ++ (text_line (codes "sync" ∷ []) ++ more))
    ≡ flat_map phase_text (ended ++ current ∷ []) ++ more
sync_more ended current more =
    let phases = flat_map phase_text ended in
    let sync = text_line (codes "sync" ∷ []) in
    ap (λ l. phases ++ l) (sym (append_assoc (flat_map record_text current) sync more))
    ∙ sym (append_assoc phases (phase_text current) more)
    ∙ ap (λ l. l ++ more) (
    ap (λ l. phases ++ l) (sym (append-nil (phase_text current))) ∙ sym (flat_map-append phase_text ended (current ∷ []))
    )

phases_text : (lines : List Line) (ended : List (List Entered)) (current : List Entered)
    → (done : List (List Entered)) (last : List Entered) → phases_after ended current lines ≡ done ++ last ∷ []
    → flat_map phase_text ended ++ (flat_map record_text current ++ flat_map entry_text lines)
    ≡ flat_map phase_text done ++ flat_map record_text last
phases_text [] ended current done last is =
    let parts = snoc_parts ended done current last is in
    ap (λ l. flat_map phase_text ended ++ l) (append-nil (flat_map record_text current))
    ∙ ap₂ (λ d c. flat_map phase_text d ++ flat_map record_text c) parts.0 parts.1
phases_text (Sync ∷ lines) ended current done last is =
    sync_more ended current (flat_map entry_text lines) ∙ phases_text lines (ended ++ current ∷ []) [] done last is
phases_text (Blank ∷ lines) ended current done last is =
    entry_more Blank ended current (flat_map entry_text lines) refl ∙ phases_text lines ended (current ++ []) done last is
phases_text (Begin ∷ lines) ended current done last is =
    entry_more Begin ended current (flat_map entry_text lines) refl ∙ phases_text lines ended (current ++ []) done last is
phases_text (Setting ∷ lines) ended current done last is =
    entry_more Setting ended current (flat_map entry_text lines) refl ∙ phases_text lines ended (current ++ []) done last is
phases_text (Control lane what ∷ lines) ended current done last is =
    let line = Control lane what in
    entry_more line ended current (flat_map entry_text lines) (sym (append-nil (entry_text line)))
    ∙ phases_text lines ended (current ++ records_of line) done last is
phases_text (Data port octets ∷ lines) ended current done last is =
    let line = Data port octets in
    entry_more line ended current (flat_map entry_text lines) (sym (append-nil (entry_text line)))
    ∙ phases_text lines ended (current ++ records_of line) done last is

-- ---- a text that is a trace is read to its end

record IsWhole (fits : Bool) (reading : Reading) : Type 0 where
  p : Progress
  is : reading ≡ Going p
  begun : p.begun ≡ true
  short : fits ≡ true

begun_of : (begun : Bool) (n : ℕ) → n ≡ cond begun 0 3 → n ≡ 0 → begun ≡ true
begun_of true n is e = refl
begun_of false n is e = absurd (omega (arith, is, e))

is_whole : (fits : Bool) (reading : Reading) → fate_of fits reading ≡ 0 → IsWhole fits reading
is_whole fits (Stopped p (Refused reason)) e = absurd (omega (arith, e))
is_whole fits (Stopped p Full) e = absurd (omega (arith, e))
is_whole true (Going p) e = record { p = p; is = refl; begun = begun_of p.begun _ refl e; short = refl }
is_whole false (Going p) e = absurd (omega (arith, e))

at_most : (n limit : ℕ) → leb n limit ≡ true → n ≤ limit
at_most n limit h = grind (arith, nat_tests)

-- what is printed of a trace that some text is reads as that trace
reads_back : (limit room : ℕ) (config : Config) (lines : List Line) (text : List ℕ) → ReadsAsTrace limit room config (phases_of lines) text
    → length (trace_text config lines) ≤ limit → ReadsAsTrace limit room config (phases_of lines) (trace_text config lines)
reads_back limit room config lines text h fits =
    let w = is_whole (leb (length text) limit) (trace_of limit room empty text) h.fated in
    let settings : w.p.config ≡ config = sym (ap (λ r. (progress_of r).config) w.is) ∙ h.settings in
    let phases : whole_of true (Going w.p) ≡ phases_of lines = sym (ap₂ whole_of w.short w.is) ∙ h.phases_are in
    let parts : phases_of lines ≡ w.p.done ++ w.p.current ∷ [] =
    sym phases ∙ ap (λ b. cond b (w.p.done ++ w.p.current ∷ []) w.p.done) w.begun in
    let same : text_of w.p ≡ trace_text config lines =
    ap₂ (λ c l. config_text c ++ l) settings (sym (phases_text lines [] [] w.p.done w.p.current parts)) in
    let few : length (text_of w.p) ≤ limit = subst (λ l. length l ≤ limit) (sym same) fits in
    let again = whole_reads_back limit room text w.p w.is w.begun (at_most (length text) limit w.short) few in
    subst (ReadsAsTrace limit room config (phases_of lines)) same (record {
      fated = again.1;
      settings = ap (λ r. (progress_of r).config) (text_reads_back limit room text w.p w.is w.begun few) ∙ settings;
      phases_are = again.0 ∙ h.phases_are;
    })

pub trace_back : {T E : Type 0} (r : Result T E) (config : Config) (lines : List Line) (old new : List ℕ) → OnOk r (new ≡ old ++ trace_text config lines)
    → (limit room : ℕ) (text : List ℕ) → ReadsAsTrace limit room config (phases_of lines) text
    → OnOk r (Appended old new (λ printed. length printed ≤ limit → ReadsAsTrace limit room config (phases_of lines) printed))
trace_back (Ok x) config lines old new printed limit room text h = (trace_text config lines, printed, λ fits. reads_back limit room config lines text h fits)
trace_back (Err e) config lines old new printed limit room text h = tt

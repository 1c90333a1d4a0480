-- What is printed of a trace reads back as what it was.
use Rattle.std.proofs.Common.{◌≡◌, ℕ, suc, ◌+◌, ◌<◌, ◌≤◌, true, cond, ltb, List, [], ◌∷◌, ◌++◌, length, Ok, Err, refl, sym, ap, ◌∙◌, arith, codes, ap₂, append-nil, append_assoc}
use Rattle.std.specs.List.{list_all, flat_map}
use Rattle.std.proofs.lemmas.Bool.Decides.{nat_tests}
use Rattle.wire_defs.specs.Text.{ended_lines}
use Rattle.switch_event.specs.Config.{Config, empty}
use Rattle.trace_defs.specs.Line.{Record, all_given, line_of}
use Rattle.trace_defs.specs.Line.Line.{Sync}
use Rattle.trace_defs.specs.Line.Record.{Control, Data}
use Rattle.trace_defs.specs.Text.{config_lines, config_text, record_text, text_line}
use Rattle.trace_defs.specs.Trace.{Progress, start, add_line, go_on, read_lines, progress_of}
use Rattle.trace_defs.specs.Trace.Stop.{Full}
use Rattle.trace_defs.specs.Trace.Reading.{Going}
use Rattle.trace_defs.proofs.TextLines.{is_no_feed, ended_lines-line}
use Rattle.trace_defs.proofs.RecordBack.{record_back}
use Rattle.trace_defs.proofs.TraceFacts.{records_of, controls_in, controls_in-append, reading_sound}
use Rattle.trace_defs.specs.Records.{AreRecords}
use Rattle.trace_defs.proofs.PlainWords.{word_by_test, line_of-words}
use Rattle.trace_defs.proofs.ConfigBack.{config_text-back}

-- ---- records

-- a trace behind its settings: so many lines and control records, the phases that ended, and the open one
abbrev pub behind : Config → ℕ → ℕ → List (List Record) → List Record → Progress
behind c lines controls done current = record (start c) { given = all_given; begun = true; lines = lines; controls = controls; done = done; current = current }

same : {c : Config} {done : List (List Record)} (n n' controls controls' : ℕ) (current current' : List Record) → n ≡ n' → controls ≡ controls' → current ≡ current'
    → behind c n controls done current ≡ behind c n' controls' done current'
same n n' controls controls' current current' en ec er = rw (en, ec, er) refl

-- a printed line, and what follows it
first_line_is : (r : Record) (records : List Record) (text more : List ℕ) → record_text r ≡ text ++ 10 ∷ [] → list_all is_no_feed text ≡ true
    → ended_lines (flat_map record_text (r ∷ records) ++ more) ≡ text ∷ ended_lines (flat_map record_text records ++ more)
first_line_is r records text more is unfed =
    ap ended_lines (append_assoc (record_text r) (flat_map record_text records) more)
    ∙ ap (λ l. ended_lines (l ++ (flat_map record_text records ++ more))) is
    ∙ ap ended_lines (append_assoc text (10 ∷ []) (flat_map record_text records ++ more))
    ∙ ended_lines-line text (flat_map record_text records ++ more) unfed

-- records, and what follows them
pub records_back : (room : ℕ) (c : Config) (n controls : ℕ) (done : List (List Record)) (current records : List Record) (more : List ℕ) → AreRecords c records → controls + controls_in records ≤ room
    → read_lines room (behind c n controls done current) (ended_lines (flat_map record_text records ++ more))
    ≡ read_lines room (behind c (n + length records) (controls + controls_in records) done (current ++ records)) (ended_lines more)
records_back room c n controls done current [] more hs fits =
    ap (λ p. read_lines room p (ended_lines more)) (same n (n + 0) controls (controls + 0) current (current ++ []) (omega arith) (omega arith) (sym (append-nil current)))
records_back room c n controls done current (Control lane event ∷ records) more hs fits =
    let r = Control lane event in
    let back = record_back c r hs.0 in
    let rest = ended_lines (flat_map record_text records ++ more) in
    let p = behind c n controls done current in
    ap (read_lines room p) (first_line_is r records back.0 more back.1.text_is back.1.unfed)
    ∙ ap (λ l. go_on p (add_line room p l) (λ q. read_lines room q rest)) (back.1.reads all_given)
    ∙ ap (λ b. go_on p (cond b (Ok (behind c (n + 1) (controls + 1) done (current ++ r ∷ []))) (Err Full)) (λ q. read_lines room q rest)) (below controls room (omega (arith, fits)))
    ∙ records_back room c (n + 1) (controls + 1) done (current ++ r ∷ []) records more hs.1 (omega (arith, fits))
    ∙ ap (λ p. read_lines room p (ended_lines more)) (
    same (n + 1 + length records) (n + suc (length records)) (controls + 1 + controls_in records) (controls + (controls_in records + 1)) ((current ++ r ∷ []) ++ records) (current ++ r ∷ records)
    (omega arith) (omega arith) (append_assoc current (r ∷ []) records)
    )
  where
    below : (m n : ℕ) → m < n → ltb m n ≡ true
    below m n h = grind (arith, nat_tests)
records_back room c n controls done current (Data port octets ∷ records) more hs fits =
    let r = Data port octets in
    let back = record_back c r hs.0 in
    let rest = ended_lines (flat_map record_text records ++ more) in
    let p = behind c n controls done current in
    ap (read_lines room p) (first_line_is r records back.0 more back.1.text_is back.1.unfed)
    ∙ ap (λ l. go_on p (add_line room p l) (λ q. read_lines room q rest)) (back.1.reads all_given)
    ∙ records_back room c (n + 1) controls done (current ++ r ∷ []) records more hs.1 fits
    ∙ ap (λ p. read_lines room p (ended_lines more)) (
    same (n + 1 + length records) (n + suc (length records)) (controls + controls_in records) (controls + controls_in records) ((current ++ r ∷ []) ++ records) (current ++ r ∷ records)
    (omega arith) refl (append_assoc current (r ∷ []) records)
    )

-- the settings and the records of a trace are printed as a text that reads as those settings and, in one phase, those records
pub trace_reads_back : (room : ℕ) (lines : List (List ℕ)) (p : Progress) → read_lines room (start empty) lines ≡ Going p → p.begun ≡ true
    → read_lines room (start empty) (ended_lines (config_text p.config ++ flat_map record_text (records_of p)))
    ≡ Going (record (start p.config) {
      given = all_given;
      begun = true;
      lines = length (config_lines p.config) + length (records_of p);
      controls = p.controls;
      current = records_of p;
    })
trace_reads_back room lines p e begun =
    let h = reading_sound room lines p e in
    let n = length (config_lines p.config) in
    let records = records_of p in
    config_text-back room p.config p.given (flat_map record_text records) h.read (h.begun begun)
    ∙ ap (λ text. read_lines room (behind p.config n 0 [] []) (ended_lines text)) (sym (append-nil (flat_map record_text records)))
    ∙ records_back room p.config n 0 [] [] records [] h.records (omega (arith, h.counted, h.fits))
    ∙ ap Going (same (n + length records) (n + length records) (0 + controls_in records) p.controls records records refl (omega (arith, h.counted)) refl)

-- ---- phases

-- the records of a phase, and the line that ends it
abbrev pub phase_text : List Record → List ℕ
phase_text phase = flat_map record_text phase ++ text_line (codes "sync" ∷ [])

-- so many lines
abbrev pub lines_in : List (List Record) → ℕ
lines_in [] = 0
lines_in (phase ∷ rest) = length phase + 1 + lines_in rest

abbrev pub all_of : List (List Record) → List Record
all_of phases = flat_map (λ phase. phase) phases

-- the line between two phases
pub sync_back : (config : Config) (given : ℕ) → line_of config given true (codes "sync") ≡ Ok Sync
sync_back config given = line_of-words config given true 4 [] (codes "sync") [] (word_by_test 4 (codes "sync") refl, tt) refl refl

AreRecords-parts : (c : Config) (xs ys : List Record) → AreRecords c (xs ++ ys) → AreRecords c xs × AreRecords c ys
AreRecords-parts c [] ys hs = (tt, hs)
AreRecords-parts c (x ∷ xs) ys hs =
    let rest = AreRecords-parts c xs ys hs.1 in
    ((hs.0, rest.0), rest.1)

pub phases_back : (room : ℕ) (c : Config) (n controls : ℕ) (done phases : List (List Record)) (more : List ℕ) → AreRecords c (all_of phases) → controls + controls_in (all_of phases) ≤ room
    → read_lines room (behind c n controls done []) (ended_lines (flat_map phase_text phases ++ more))
    ≡ read_lines room (behind c (n + lines_in phases) (controls + controls_in (all_of phases)) (done ++ phases) []) (ended_lines more)
phases_back room c n controls done [] more hs fits = ap₂ (λ p all. read_lines room (record p { done = all }) (ended_lines more)) (same {done = done} n (n + 0) controls (controls + 0) [] [] (omega arith) (omega arith) refl) (sym (append-nil done))
phases_back room c n controls done (phase ∷ phases) more hs fits =
    let parts = AreRecords-parts c phase (all_of phases) hs in
    let counted = controls_in-append phase (all_of phases) in
    let rest = flat_map phase_text phases ++ more in
    let p = behind c (n + length phase) (controls + controls_in phase) done phase in
    ap (λ text. read_lines room (behind c n controls done []) (ended_lines text)) (split phase phases more)
    ∙ records_back room c n controls done [] phase (codes "sync" ++ 10 ∷ rest) parts.0 (omega (arith, counted, fits))
    ∙ ap (read_lines room p) (ended_lines-line (codes "sync") rest refl)
    ∙ ap (λ l. go_on p (add_line room p l) (λ q. read_lines room q (ended_lines rest))) (sync_back c all_given)
    ∙ phases_back room c (n + length phase + 1) (controls + controls_in phase) (done ++ phase ∷ []) phases more parts.1 (omega (arith, counted, fits))
    ∙ ap₂ (λ p all. read_lines room (record p { done = all }) (ended_lines more)) (
    same {done = done} (n + length phase + 1 + lines_in phases) (n + (length phase + 1 + lines_in phases)) (controls + controls_in phase + controls_in (all_of phases)) (controls + controls_in (phase ++ all_of phases)) [] []
    (omega arith) (omega (arith, counted)) refl
    ) (append_assoc done (phase ∷ []) phases)
  where
    split : (phase : List Record) (phases : List (List Record)) (more : List ℕ)
        → flat_map phase_text (phase ∷ phases) ++ more ≡ flat_map record_text phase ++ (codes "sync" ++ 10 ∷ (flat_map phase_text phases ++ more))
    split phase phases more =
        append_assoc (phase_text phase) (flat_map phase_text phases) more
        ∙ append_assoc (flat_map record_text phase) (text_line (codes "sync" ∷ [])) (flat_map phase_text phases ++ more)

-- the text of a whole trace: its settings, its phases and the open one
abbrev pub trace_text : Progress → List ℕ
trace_text p = config_text p.config ++ (flat_map phase_text p.done ++ flat_map record_text p.current)

-- a trace that was read is printed as a text that reads as that trace: its settings, its phases and its records
pub phases_read_back : (room : ℕ) (lines : List (List ℕ)) (p : Progress) → read_lines room (start empty) lines ≡ Going p → p.begun ≡ true
    → read_lines room (start empty) (ended_lines (trace_text p))
    ≡ Going (record p { given = all_given; lines = length (config_lines p.config) + lines_in p.done + length p.current })
phases_read_back room lines p e begun =
    let h = reading_sound room lines p e in
    let n = length (config_lines p.config) in
    let parts = AreRecords-parts p.config (all_of p.done) p.current h.records in
    let counted = controls_in-append (all_of p.done) p.current in
    config_text-back room p.config p.given (flat_map phase_text p.done ++ flat_map record_text p.current) h.read (h.begun begun)
    ∙ phases_back room p.config n 0 [] p.done (flat_map record_text p.current) parts.0 (omega (arith, counted, h.counted, h.fits))
    ∙ ap (λ text. read_lines room (behind p.config (n + lines_in p.done) (0 + controls_in (all_of p.done)) p.done []) (ended_lines text)) (sym (append-nil (flat_map record_text p.current)))
    ∙ records_back room p.config (n + lines_in p.done) (0 + controls_in (all_of p.done)) p.done [] p.current [] parts.1 (omega (arith, counted, h.counted, h.fits))
    ∙ ap₂ (λ k b. Going (record p { given = all_given; begun = b; lines = n + lines_in p.done + length p.current; controls = k })) (omega (arith, counted, h.counted)) (sym begun)

-- two traces that are printed alike have the same settings, the same phases and the same records
pub trace_text-injective : (room : ℕ) (xs ys : List (List ℕ)) (p q : Progress) → read_lines room (start empty) xs ≡ Going p → p.begun ≡ true
    → read_lines room (start empty) ys ≡ Going q → q.begun ≡ true → trace_text p ≡ trace_text q → (p.config ≡ q.config) × (p.done ≡ q.done) × (p.current ≡ q.current)
trace_text-injective room xs ys p q ep bp eq bq same =
    let e = sym (phases_read_back room xs p ep bp) ∙ ap (λ text. read_lines room (start empty) (ended_lines text)) same ∙ phases_read_back room ys q eq bq in
    (ap (λ r. (progress_of r).config) e, ap (λ r. (progress_of r).done) e, ap (λ r. (progress_of r).current) e)

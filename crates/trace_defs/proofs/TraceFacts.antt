-- What is known of a trace that was read.
use Rattle.std.proofs.Common.{◌≡◌, ℕ, ◌+◌, ◌≤◌, Bool, true, false, cond, ltb, List, [], ◌∷◌, ◌++◌, Result, Ok, Err, refl, sym, ap, ◌∙◌, subst, arith, append-nil, append_assoc}
use Rattle.std.specs.List.{flat_map}
use Rattle.std.proofs.lemmas.Bool.Decides.{nat_tests}
use Rattle.std.proofs.lemmas.List.Concat.{flat_map-append}
use Rattle.switch_event.specs.Config.{Config, empty}
use Rattle.trace_defs.specs.declared.given.TheConstants.{SERVER}
use Rattle.trace_defs.specs.Line.{Record, Line, was_given, line_of}
use Rattle.trace_defs.specs.Line.Record.{Control, Data}
use Rattle.trace_defs.specs.Line.Line.{Blank, Begin, Sync, Setting, Entry}
use Rattle.trace_defs.specs.Trace.{Progress, Stop, start, add_line, after_line, go_on, read_lines}
use Rattle.trace_defs.specs.Trace.Stop.{Full}
use Rattle.trace_defs.specs.Trace.Reading.{Going}
use Rattle.trace_defs.proofs.LineFacts.{Gives, IsAfter, line_of-after}
use Rattle.trace_defs.specs.Records.{IsRecord, AreRecords}
use Rattle.trace_defs.proofs.SettingFacts.{IsBefore, empty-read}
use Rattle.trace_defs.specs.Settings.{IsRead}
use Rattle.trace_defs.proofs.SettingLines.{line_of-before}

-- the records of all phases
abbrev pub records_of : Progress → List Record
records_of p = flat_map (λ phase. phase) p.done ++ p.current

-- how many of them are control records
abbrev pub controls_in : List Record → ℕ
controls_in [] = 0
controls_in (Control lane event ∷ rest) = controls_in rest + 1
controls_in (Data port octets ∷ rest) = controls_in rest

AreRecords-more : (config : Config) (records : List Record) (r : Record) → AreRecords config records → IsRecord config r → AreRecords config (records ++ r ∷ [])
AreRecords-more config [] r hs h = (h, tt)
AreRecords-more config (x ∷ records) r hs h = (hs.0, AreRecords-more config records r hs.1 h)

pub controls_in-append : (xs ys : List Record) → controls_in (xs ++ ys) ≡ controls_in xs + controls_in ys
controls_in-append [] ys = omega arith
controls_in-append (Control lane event ∷ xs) ys = omega (arith, controls_in-append xs ys)
controls_in-append (Data port octets ∷ xs) ys = controls_in-append xs ys

-- settings that lines can write, with a server once they are ended, and records that lines can write under them
pub record IsSound (room : ℕ) (p : Progress) : Type 0 where
  pub read : IsRead p.config p.given
  pub begun : p.begun ≡ true → was_given SERVER p.given ≡ true
  pub none : p.begun ≡ false → records_of p ≡ []
  pub records : AreRecords p.config (records_of p)
  pub counted : controls_in (records_of p) ≡ p.controls
  pub fits : p.controls ≤ room

start-sound : (room : ℕ) → IsSound room (start empty)
start-sound room = record { read = empty-read; begun = λ e. absurd (cc); none = λ e. refl; records = tt; counted = refl; fits = omega arith }

abbrev is_next : Result Progress Stop → Progress → Type 0
is_next r q = r ≡ Ok q

same_ok : (p q : Progress) → is_next (Ok p) q → p ≡ q
same_ok p q e = cc

not_ok : (stop : Stop) (q : Progress) → is_next (Err stop) q → ⊥
not_ok stop q e = cc

differ : (b : Bool) → b ≡ true → b ≡ false → ⊥
differ b e f = cc

-- a line before `begin`
before_sound : (room : ℕ) (p q : Progress) (l : Result Line ℕ) → IsSound room p → p.begun ≡ false → Gives (IsBefore p.given) l → add_line room p l ≡ Ok q → IsSound room q
before_sound room p q (Err why) h b g e = absurd (not_ok _ q e)
before_sound room p q (Ok Blank) h b g e =
    subst (IsSound room) (same_ok (record p { lines = p.lines + 1 }) q e) (record { read = h.read; begun = h.begun; none = h.none; records = h.records; counted = h.counted; fits = h.fits })
before_sound room p q (Ok Begin) h b g e =
    subst (IsSound room) (same_ok (record p { lines = p.lines + 1; begun = true }) q e)
    (record { read = h.read; begun = λ e. g; none = λ e. absurd (cc); records = h.records; counted = h.counted; fits = h.fits })
before_sound room p q (Ok Sync) h b g e = absurd g
before_sound room p q (Ok (Setting new given)) h b g e =
    subst (IsSound room) (same_ok (record p { lines = p.lines + 1; config = new; given = given }) q e)
    (record { read = g; begun = λ is. absurd (differ p.begun is b); none = h.none; records = subst (AreRecords new) (sym (h.none b)) tt; counted = h.counted; fits = h.fits })
before_sound room p q (Ok (Entry r)) h b g e = absurd g

more_records : (p : Progress) (r : Record) → flat_map (λ phase. phase) p.done ++ (p.current ++ r ∷ []) ≡ records_of p ++ r ∷ []
more_records p r = sym (append_assoc (flat_map (λ phase. phase) p.done) p.current (r ∷ []))

-- a line after it
after_sound : (room : ℕ) (p q : Progress) (l : Result Line ℕ) → IsSound room p → p.begun ≡ true → Gives (IsAfter p.config) l → add_line room p l ≡ Ok q → IsSound room q
after_sound room p q (Err why) h b g e = absurd (not_ok _ q e)
after_sound room p q (Ok Blank) h b g e =
    subst (IsSound room) (same_ok (record p { lines = p.lines + 1 }) q e) (record { read = h.read; begun = h.begun; none = h.none; records = h.records; counted = h.counted; fits = h.fits })
after_sound room p q (Ok Begin) h b g e = absurd g
after_sound room p q (Ok Sync) h b g e =
    let same : records_of (record p { lines = p.lines + 1; done = p.done ++ p.current ∷ []; current = [] }) ≡ records_of p =
    append-nil (flat_map (λ phase. phase) (p.done ++ p.current ∷ [])) ∙ flat_map-append (λ phase. phase) p.done (p.current ∷ []) ∙ ap (λ l. flat_map (λ phase. phase) p.done ++ l) (append-nil p.current) in
    subst (IsSound room) (same_ok (record p { lines = p.lines + 1; done = p.done ++ p.current ∷ []; current = [] }) q e) (record {
      read = h.read;
      begun = h.begun;
      none = λ not. absurd (differ p.begun b not);
      records = subst (AreRecords p.config) (sym same) h.records;
      counted = ap controls_in same ∙ h.counted;
      fits = h.fits;
    })
after_sound room p q (Ok (Setting new given)) h b g e = absurd g
after_sound room p q (Ok (Entry (Control lane event))) h b g e = room_left (ltb p.controls room) refl e
  where
    below : (m n : ℕ) → ltb m n ≡ true → m + 1 ≤ n
    below m n h = grind (arith, nat_tests)

    room_left : (t : Bool) → ltb p.controls room ≡ t → cond t (Ok (record p { lines = p.lines + 1; controls = p.controls + 1; current = p.current ++ Control lane event ∷ [] })) (Err Full) ≡ Ok q → IsSound room q
    room_left true free e =
        subst (IsSound room) (same_ok (record p { lines = p.lines + 1; controls = p.controls + 1; current = p.current ++ Control lane event ∷ [] }) q e) (record {
          read = h.read;
          begun = h.begun;
          none = λ not. absurd (differ p.begun b not);
          records = subst (AreRecords p.config) (sym (more_records p (Control lane event))) (AreRecords-more p.config (records_of p) (Control lane event) h.records g);
          counted = ap controls_in (more_records p (Control lane event)) ∙ controls_in-append (records_of p) (Control lane event ∷ []) ∙ ap (λ n. n + (0 + 1)) h.counted;
          fits = below p.controls room free;
        })
    room_left false free e = absurd (not_ok _ q e)
after_sound room p q (Ok (Entry (Data port octets))) h b g e =
    subst (IsSound room) (same_ok (record p { lines = p.lines + 1; current = p.current ++ Data port octets ∷ [] }) q e) (record {
      read = h.read;
      begun = h.begun;
      none = λ not. absurd (differ p.begun b not);
      records = subst (AreRecords p.config) (sym (more_records p (Data port octets))) (AreRecords-more p.config (records_of p) (Data port octets) h.records g);
      counted = ap controls_in (more_records p (Data port octets)) ∙ controls_in-append (records_of p) (Data port octets ∷ []) ∙ plus_none (controls_in (records_of p)) ∙ h.counted;
      fits = h.fits;
    })
  where
    plus_none : (n : ℕ) → n + 0 ≡ n
    plus_none n = omega arith

line_sound : (room : ℕ) (p q : Progress) (line : List ℕ) → IsSound room p → after_line room p line ≡ Ok q → IsSound room q
line_sound room p q line h e = side p.begun refl e
  where
    side : (b : Bool) → p.begun ≡ b → add_line room p (line_of p.config p.given b line) ≡ Ok q → IsSound room q
    side true is e = after_sound room p q (line_of p.config p.given true line) h is (line_of-after p.config p.given line) e
    side false is e = before_sound room p q (line_of p.config p.given false line) h is (line_of-before p.config p.given h.read line) e

pub lines_sound : (room : ℕ) (p q : Progress) (lines : List (List ℕ)) → IsSound room p → read_lines room p lines ≡ Going q → IsSound room q
lines_sound room p q [] h e = subst (IsSound room) (same p q e) h
  where
    same : (p q : Progress) → Going p ≡ Going q → p ≡ q
    same p q e = cc
lines_sound room p q (line ∷ lines) h e = step (after_line room p line) refl (λ next hn en. lines_sound room next q lines hn en) e
  where
    step : (r : Result Progress Stop) → after_line room p line ≡ r → ((next : Progress) → IsSound room next → read_lines room next lines ≡ Going q → IsSound room q)
        → go_on p r (λ q. read_lines room q lines) ≡ Going q → IsSound room q
    step (Ok next) is more e = more next (line_sound room p next line h is) e
    step (Err stop) is more e = absurd (cc)

-- what was read from a text that begins with its settings
pub reading_sound : (room : ℕ) (lines : List (List ℕ)) (p : Progress) → read_lines room (start empty) lines ≡ Going p → IsSound room p
reading_sound room lines p e = lines_sound room (start empty) p lines (start-sound room) e

-- A printed text, as a whole text that is read with limits.
use Rattle.std.proofs.Common.{◌≡◌, ℕ, ◌+◌, ◌≤◌, true, cond, leb, List, [], ◌∷◌, ◌++◌, length, take, codes, refl, sym, ap, ap₂, ◌∙◌, arith, append-nil, append_assoc}
use Rattle.std.specs.List.{flat_map}
use Rattle.std.specs.Fmt.{decimal}
use Rattle.std.proofs.lemmas.Bool.Decides.{nat_tests}
use Rattle.wire_defs.specs.Text.{ended_lines, open_line, open_after, last_line}
use Rattle.wire_defs.proofs.TextLemmas.{open_line-append}
use Rattle.switch_event.specs.Config.{empty}
use Rattle.trace_defs.specs.Line.{Record, all_given}
use Rattle.trace_defs.specs.Line.Record.{Control, Data}
use Rattle.trace_defs.specs.Text.{spaced, text_line, event_words, octets_text, lane_mark, config_lines, config_text, record_text}
use Rattle.trace_defs.specs.Trace.{Progress, start, read_lines, counted_lines, trace_of, fate_of, fate, whole_of, whole}
use Rattle.trace_defs.specs.Trace.Reading.{Going}
use Rattle.trace_defs.proofs.ReadsBack.{phase_text, lines_in, trace_text, phases_read_back}

-- ---- a printed text ends with a line feed

pub closed-append : (xs ys : List ℕ) → open_line xs ≡ [] → open_line ys ≡ [] → open_line (xs ++ ys) ≡ []
closed-append xs ys hx hy = open_line-append xs ys ∙ ap (λ part. open_after part ys) hx ∙ hy

closed-feed : (text : List ℕ) → open_line (text ++ 10 ∷ []) ≡ []
closed-feed text = open_line-append text (10 ∷ [])

closed-lines : (lines : List (List (List ℕ))) → open_line (flat_map text_line lines) ≡ []
closed-lines [] = refl
closed-lines (ws ∷ lines) = closed-append (text_line ws) (flat_map text_line lines) (closed-feed (spaced ws)) (closed-lines lines)

closed-record : (r : Record) → open_line (record_text r) ≡ []
closed-record (Control lane event) = ap open_line (sym (append_assoc (lane_mark lane) (spaced (event_words event)) (10 ∷ []))) ∙ closed-feed (lane_mark lane ++ spaced (event_words event))
closed-record (Data port octets) = closed-feed (spaced (codes "frame" ∷ decimal port ∷ octets_text octets ∷ []))

closed-records : (records : List Record) → open_line (flat_map record_text records) ≡ []
closed-records [] = refl
closed-records (r ∷ records) = closed-append (record_text r) (flat_map record_text records) (closed-record r) (closed-records records)

closed-phases : (phases : List (List Record)) → open_line (flat_map phase_text phases) ≡ []
closed-phases [] = refl
closed-phases (phase ∷ phases) =
    closed-append (phase_text phase) (flat_map phase_text phases) (closed-append (flat_map record_text phase) (text_line (codes "sync" ∷ [])) (closed-records phase) refl) (closed-phases phases)

pub trace_text-closed : (p : Progress) → open_line (trace_text p) ≡ []
trace_text-closed p =
    closed-append (config_text p.config) (flat_map phase_text p.done ++ flat_map record_text p.current) (closed-lines (config_lines p.config))
    (closed-append (flat_map phase_text p.done) (flat_map record_text p.current) (closed-phases p.done) (closed-records p.current))

-- ---- so all its lines count, where it has at most so many octets

within : (n limit : ℕ) → n ≤ limit → leb n limit ≡ true
within n limit h = grind (arith, nat_tests)

pub counted_lines-closed : (limit : ℕ) (text : List ℕ) → length text ≤ limit → open_line text ≡ [] → counted_lines limit text ≡ ended_lines text
counted_lines-closed limit text fits closed =
    ap (λ b. cond b (ended_lines text ++ last_line (open_line text)) (ended_lines (take limit text))) (within (length text) limit fits)
    ∙ ap (λ part. ended_lines text ++ last_line part) closed ∙ append-nil (ended_lines text)

-- a text that was read to its end is printed as a text that reads as the same trace
pub text_reads_back : (limit room : ℕ) (text : List ℕ) (p : Progress) → trace_of limit room empty text ≡ Going p → p.begun ≡ true → length (trace_text p) ≤ limit
    → trace_of limit room empty (trace_text p) ≡ Going (record p { given = all_given; lines = length (config_lines p.config) + lines_in p.done + length p.current })
text_reads_back limit room text p e begun fits =
    ap (read_lines room (start empty)) (counted_lines-closed limit (trace_text p) fits (trace_text-closed p)) ∙ phases_read_back room (counted_lines limit text) p e begun

-- with the same phases, and no refusal
pub whole_reads_back : (limit room : ℕ) (text : List ℕ) (p : Progress) → trace_of limit room empty text ≡ Going p → p.begun ≡ true → length text ≤ limit → length (trace_text p) ≤ limit
    → (whole limit room empty (trace_text p) ≡ whole limit room empty text) × (fate limit room empty (trace_text p) ≡ 0)
whole_reads_back limit room text p e begun short fits =
    let q : Progress = record p { given = all_given; lines = length (config_lines p.config) + lines_in p.done + length p.current } in
    let again = text_reads_back limit room text p e begun fits in (
      ap₂ whole_of (within (length (trace_text p)) limit fits) again ∙ sym (ap₂ whole_of (within (length text) limit short) e),
      ap₂ fate_of (within (length (trace_text p)) limit fits) again ∙ ap (λ b. cond b 0 3) begun,
    )

-- The log of a server reads as its settings and its records.
use Rattle.std.proofs.Common.{◌≡◌, ℕ, suc, ◌+◌, ◌-◌, ◌<◌, ◌≤◌, Bool, true, false, cond, eqb, ltb, not, ◌&&◌, List, [], ◌∷◌, ◌++◌, length, take, Ok, Err, refl, sym, ap, ap₂, ◌∙◌, arith, append-nil, append_assoc, slice_index, subst, leb}
use Rattle.std.specs.List.{list_all, flat_map, AllByRecursion}
use Rattle.std.specs.Str.Lines.{strip_carriage_return}
use Rattle.std.proofs.lemmas.Bool.{and_parts}
use Rattle.std.proofs.lemmas.Bool.Decides.{nat_tests}
use Rattle.wire_defs.specs.Text.{ended_lines, ended_after, open_line, words}
use Rattle.wire_defs.proofs.TextLemmas.{open_line-append}
use Rattle.switch_event.specs.Config.{Config, empty, are_ports, is_valid}
use Rattle.trace_defs.specs.declared.given.TheConstants.{SERVER}
use Rattle.trace_defs.specs.Line.{Record, all_given, was_given, is_comment, words_line, line_of}
use Rattle.trace_defs.specs.Line.Line.{Blank, Entry}
use Rattle.trace_defs.specs.Line.Record.{Control, Data}
use Rattle.trace_defs.specs.Text.{config_lines, config_text, record_text}
use Rattle.trace_defs.specs.Trace.{Progress, start, add_line, go_on, read_lines, trace_of, progress_of, fate_of, whole_of}
use Rattle.trace_defs.specs.Trace.Stop.{Full}
use Rattle.trace_defs.specs.Trace.Reading.{Going}
use Rattle.trace_defs.proofs.TextLines.{is_no_feed, ended_lines-line}
use Rattle.trace_defs.proofs.RecordBack.{record_back}
use Rattle.trace_defs.proofs.LineFacts.{Gives-at, IsAfter, line_of-after}
use Rattle.trace_defs.proofs.SettingFacts.{IsRead-valid}
use Rattle.trace_defs.specs.Settings.{IsRead}
use Rattle.trace_defs.proofs.TraceFacts.{controls_in, reading_sound}
use Rattle.trace_defs.specs.Records.{AreRecords}
use Rattle.trace_defs.proofs.TextBack.{closed-append, trace_text-closed, counted_lines-closed}
use Rattle.trace_defs.proofs.ConfigBack.{config_text-back}
use Rattle.trace_defs.proofs.ReadsBack.{behind}
use Rattle.history_defs.specs.Output.{Place, block, first_place, next_place}
use Rattle.history_defs.specs.Output as output
use Rattle.serve_defs.specs.Log.{comment_line, commented, logged, all_logged, log}
use Rattle.serve_defs.specs.Laws.{AreSettings, IsWritten, LogsAreTraces, ReadsBack}

-- ---- comments

-- a line that begins with a number sign and a space does so without its carriage return too
strips : (line : List ℕ) → is_comment (strip_carriage_return (35 ∷ 32 ∷ line)) ≡ true
strips [] = refl
strips (x ∷ line) =
    let text = 35 ∷ 32 ∷ x ∷ line in
    by (length text - 1) (length line) (eqb (slice_index text (length text - 1)) 13) (omega arith)
  where
    by : (k m : ℕ) (b : Bool) → k ≡ suc (suc m) → is_comment (cond b (take k (35 ∷ 32 ∷ x ∷ line)) (35 ∷ 32 ∷ x ∷ line)) ≡ true
    by k m true e = ap (λ n. is_comment (take n (35 ∷ 32 ∷ x ∷ line))) e
    by k m false e = refl

comment_means : (c : Config) (given : ℕ) (begun : Bool) (line : List ℕ) → line_of c given begun (35 ∷ 32 ∷ line) ≡ Ok Blank
comment_means c given begun line =
    let text = strip_carriage_return (35 ∷ 32 ∷ line) in
    ap (λ b. cond b (Ok Blank) (words_line c given begun text (words text))) (strips line)

abbrev all_unfed : List (List ℕ) → Type 0
all_unfed [] = Unit {0}
all_unfed (line ∷ lines) = (list_all is_no_feed line ≡ true) × all_unfed lines

unfed_more : (part : List ℕ) (x : ℕ) → list_all is_no_feed part ≡ true → eqb x 10 ≡ false → list_all is_no_feed (part ++ x ∷ []) ≡ true
unfed_more [] x h e = ap (λ b. not b && true) e
unfed_more (y ∷ part) x h e =
    let parts = and_parts (is_no_feed y) (list_all is_no_feed part) h in
    ap₂ (λ a b. a && b) parts.0 (unfed_more part x parts.1 e)

-- no line of a text holds a line feed
lines_unfed : (part text : List ℕ) → list_all is_no_feed part ≡ true → all_unfed (ended_after part text)
lines_unfed part [] h = tt
lines_unfed part (x ∷ text) h = by (eqb x 10) refl (lines_unfed [] text refl) (λ k. lines_unfed (part ++ x ∷ []) text k)
  where
    by : (b : Bool) → eqb x 10 ≡ b → all_unfed (ended_after [] text) → (list_all is_no_feed (part ++ x ∷ []) ≡ true → all_unfed (ended_after (part ++ x ∷ []) text))
        → all_unfed (cond b (part ∷ ended_after [] text) (ended_after (part ++ x ∷ []) text))
    by true e fresh more = (h, fresh)
    by false e fresh more = more (unfed_more part x h e)

-- so many lines were read
abbrev with_lines : ℕ → Progress → Progress
with_lines n p = record p { lines = n }

-- comments, and what follows them
comments_back : (room : ℕ) (p : Progress) (lines : List (List ℕ)) (more : List ℕ) → all_unfed lines
    → read_lines room p (ended_lines (flat_map comment_line lines ++ more)) ≡ read_lines room (with_lines (p.lines + length lines) p) (ended_lines more)
comments_back room p [] more hs = ap (λ n. read_lines room (with_lines n p) (ended_lines more)) (omega arith)
comments_back room p (line ∷ lines) more hs =
    let rest = flat_map comment_line lines ++ more in
    let q = with_lines (p.lines + 1) p in
    ap (λ text. read_lines room p (ended_lines text)) (append_assoc (comment_line line) (flat_map comment_line lines) more ∙ append_assoc (35 ∷ 32 ∷ line) (10 ∷ []) rest)
    ∙ ap (read_lines room p) (ended_lines-line (35 ∷ 32 ∷ line) rest hs.0)
    ∙ ap (λ l. go_on p (add_line room p l) (λ q. read_lines room q (ended_lines rest))) (comment_means p.config p.given p.begun line)
    ∙ comments_back room q lines more hs.1
    ∙ ap (λ n. read_lines room (with_lines n p) (ended_lines more)) (omega arith)

-- ---- records with their blocks

-- how many lines the log of records has
abbrev pub lines_logged : Place → List Record → ℕ
lines_logged at [] = 0
lines_logged at (r ∷ rest) = 1 + length (ended_lines (block at r)) + lines_logged (next_place at r) rest

first_line_is : (r : Record) (text more : List ℕ) → record_text r ≡ text ++ 10 ∷ [] → list_all is_no_feed text ≡ true → ended_lines (record_text r ++ more) ≡ text ∷ ended_lines more
first_line_is r text more is unfed =
    ap (λ l. ended_lines (l ++ more)) is ∙ ap ended_lines (append_assoc text (10 ∷ []) more) ∙ ended_lines-line text more unfed

split : (at : Place) (r : Record) (rest : List Record) → all_logged at (r ∷ rest) ≡ record_text r ++ (commented (block at r) ++ all_logged (next_place at r) rest)
split at r rest = append_assoc (record_text r) (commented (block at r)) (all_logged (next_place at r) rest)

logged_back : (room : ℕ) (c : Config) (n controls : ℕ) (current : List Record) (at : Place) (rs : List Record) → AreRecords c rs → controls + controls_in rs ≤ room
    → read_lines room (behind c n controls [] current) (ended_lines (all_logged at rs)) ≡ Going (behind c (n + lines_logged at rs) (controls + controls_in rs) [] (current ++ rs))
logged_back room c n controls current at [] hs fits =
    same (n + 0) n (controls + 0) controls (current ++ []) current (omega arith) (omega arith) (append-nil current)
  where
    same : (m m' k k' : ℕ) (xs ys : List Record) → m ≡ m' → k ≡ k' → xs ≡ ys → Going (behind c m' k' [] ys) ≡ Going (behind c m k [] xs)
    same m m' k k' xs ys e f g = rw (e, f, g) refl
logged_back room c n controls current at (Control lane event ∷ rs) hs fits =
    let r = Control lane event in
    let back = record_back c r hs.0 in
    let rest = all_logged (next_place at r) rs in
    let behind_line = commented (block at r) ++ rest in
    let p = behind c n controls [] current in
    let q = behind c (n + 1) (controls + 1) [] (current ++ r ∷ []) in
    let ls = ended_lines (block at r) in
    ap (λ text. read_lines room p (ended_lines text)) (split at r rs)
    ∙ ap (read_lines room p) (first_line_is r back.0 behind_line back.1.text_is back.1.unfed)
    ∙ ap (λ l. go_on p (add_line room p l) (λ q. read_lines room q (ended_lines behind_line))) (back.1.reads all_given)
    ∙ ap (λ b. go_on p (cond b (Ok q) (Err Full)) (λ q. read_lines room q (ended_lines behind_line))) (below controls room (omega (arith, fits)))
    ∙ comments_back room q ls rest (lines_unfed [] (block at r) refl)
    ∙ logged_back room c (n + 1 + length ls) (controls + 1) (current ++ r ∷ []) (next_place at r) rs hs.1 (omega (arith, fits))
    ∙ same _ _ _ _ _ _ (omega arith) (omega arith) (append_assoc current (r ∷ []) rs)
  where
    below : (m n : ℕ) → m < n → ltb m n ≡ true
    below m n h = grind (arith, nat_tests)

    same : (m m' k k' : ℕ) (xs ys : List Record) → m ≡ m' → k ≡ k' → xs ≡ ys → Going (behind c m k [] xs) ≡ Going (behind c m' k' [] ys)
    same m m' k k' xs ys e f g = rw (e, f, g) refl
logged_back room c n controls current at (Data port octets ∷ rs) hs fits =
    let r = Data port octets in
    let back = record_back c r hs.0 in
    let rest = all_logged (next_place at r) rs in
    let behind_line = commented (block at r) ++ rest in
    let p = behind c n controls [] current in
    let q = behind c (n + 1) controls [] (current ++ r ∷ []) in
    let ls = ended_lines (block at r) in
    ap (λ text. read_lines room p (ended_lines text)) (split at r rs)
    ∙ ap (read_lines room p) (first_line_is r back.0 behind_line back.1.text_is back.1.unfed)
    ∙ ap (λ l. go_on p (add_line room p l) (λ q. read_lines room q (ended_lines behind_line))) (back.1.reads all_given)
    ∙ comments_back room q ls rest (lines_unfed [] (block at r) refl)
    ∙ logged_back room c (n + 1 + length ls) controls (current ++ r ∷ []) (next_place at r) rs hs.1 (omega (arith, fits))
    ∙ same _ _ _ _ _ _ (omega arith) refl (append_assoc current (r ∷ []) rs)
  where
    same : (m m' k k' : ℕ) (xs ys : List Record) → m ≡ m' → k ≡ k' → xs ≡ ys → Going (behind c m k [] xs) ≡ Going (behind c m' k' [] ys)
    same m m' k k' xs ys e f g = rw (e, f, g) refl

-- the log of settings that lines can write, and of records that lines can write under them, reads as these settings and, in one phase,
-- these records
pub log_reads_back : (room : ℕ) (c : Config) (given : ℕ) (rs : List Record) → IsRead c given → was_given SERVER given ≡ true → AreRecords c rs → controls_in rs ≤ room
    → read_lines room (start empty) (ended_lines (log c rs))
    ≡ Going (behind c (length (config_lines c) + lines_logged (first_place c) rs) (controls_in rs) [] rs)
log_reads_back room c given rs h served hs fits =
    config_text-back room c given (all_logged (first_place c) rs) h served
    ∙ logged_back room c (length (config_lines c)) 0 [] (first_place c) rs hs (omega (arith, fits))
    ∙ ap (λ k. Going (behind c (length (config_lines c) + lines_logged (first_place c) rs) k [] rs)) (none_more (controls_in rs))
  where
    none_more : (k : ℕ) → 0 + k ≡ k
    none_more k = omega arith

-- ---- a log ends with a line feed

closed-feed : (text : List ℕ) → open_line (text ++ 10 ∷ []) ≡ []
closed-feed text = open_line-append text (10 ∷ [])

comments_closed : (lines : List (List ℕ)) → open_line (flat_map comment_line lines) ≡ []
comments_closed [] = refl
comments_closed (line ∷ lines) = closed-append (comment_line line) (flat_map comment_line lines) (closed-feed (35 ∷ 32 ∷ line)) (comments_closed lines)

logged_closed : (c : Config) (at : Place) (rs : List Record) → AreRecords c rs → open_line (all_logged at rs) ≡ []
logged_closed c at [] hs = refl
logged_closed c at (r ∷ rs) hs =
    let back = record_back c r hs.0 in
    closed-append (logged at r) (all_logged (next_place at r) rs)
    (closed-append (record_text r) (commented (block at r)) (ap open_line back.1.text_is ∙ closed-feed back.0) (comments_closed (ended_lines (block at r))))
    (logged_closed c (next_place at r) rs hs.1)

log_closed : (c : Config) (rs : List Record) → AreRecords c rs → open_line (log c rs) ≡ []
log_closed c rs hs =
    closed-append (config_text c) (all_logged (first_place c) rs) (ap open_line (sym (append-nil (config_text c))) ∙ trace_text-closed (start c)) (logged_closed c (first_place c) rs hs)

-- ---- the law

are_records : (c : Config) (rs : List Record) → AllByRecursion (IsWritten c) rs → AreRecords c rs
are_records c [] hs = tt
are_records c (r ∷ rs) hs =
    (Gives-at (IsAfter c) (line_of c hs.0.0 true hs.0.1) (Entry r) (line_of-after c hs.0.0 hs.0.1) hs.0.2, are_records c rs hs.1)

same_controls : (rs : List Record) → controls_in rs ≡ output.controls_in rs
same_controls [] = refl
same_controls (Control lane event ∷ rs) = ap (λ n. n + 1) (same_controls rs)
same_controls (Data port octets ∷ rs) = same_controls rs

at_moment : (config : Config) (given moment : ℕ) → moment ≤ 4294967295 → IsRead config given → IsRead (record config { clock = moment }) given
at_moment config given moment fits h = record {
  bridge = h.bridge;
  nas = h.nas;
  server = h.server;
  clients = h.clients;
  ports = h.ports;
  timed = h.timed;
  clocked = record { wait = h.clocked.wait; window_day = h.clocked.window_day; clock_fits = record { low = omega arith; high = fits } };
  seed = h.seed;
}

within : (n limit : ℕ) → n ≤ limit → leb n limit ≡ true
within n limit h = grind (arith, nat_tests)

-- the log of records that lines can write is a trace
pub log_back : (c : Config) (rs : List Record) → AreSettings c → AreRecords c rs → ReadsBack c rs
log_back c rs settings hs limit room few fits =
    let h = reading_sound settings.room settings.lines settings.p settings.reads in
    let read : IsRead c settings.p.given = subst (λ x. IsRead x settings.p.given) (sym settings.same) (at_moment settings.p.config settings.p.given c.clock settings.moment h.read) in
    let counts : controls_in rs ≤ room = subst (λ n. n ≤ room) (sym (same_controls rs)) few in
    let is : trace_of limit room empty (log c rs) ≡ Going (behind c (length (config_lines c) + lines_logged (first_place c) rs) (controls_in rs) [] rs) =
    ap (read_lines room (start empty)) (counted_lines-closed limit (log c rs) fits (log_closed c rs hs))
    ∙ log_reads_back room c settings.p.given rs read (h.begun settings.begun) hs counts in
    record {
      fated = ap₂ fate_of (within (length (log c rs)) limit fits) is;
      settings = ap (λ r. (progress_of r).config) is;
      phases = ap₂ whole_of (within (length (log c rs)) limit fits) is;
    }

pub logs_read_back : LogsAreTraces
logs_read_back c rs settings written = log_back c rs settings (are_records c rs written)

-- settings that lines can write, from another moment on, are valid
pub settings_valid : (c : Config) → AreSettings c → is_valid c ≡ true
settings_valid c settings =
    let h = reading_sound settings.room settings.lines settings.p settings.reads in
    subst (λ x. is_valid x ≡ true) (sym settings.same)
    (IsRead-valid (record settings.p.config { clock = c.clock }) settings.p.given (at_moment settings.p.config settings.p.given c.clock settings.moment h.read) (h.begun settings.begun))

-- and their ports are few and in range
pub settings_ports : (c : Config) → AreSettings c → are_ports c.ports ≡ true
settings_ports c settings =
    let h = reading_sound settings.room settings.lines settings.p settings.reads in
    ap (λ x. are_ports x.ports) settings.same ∙ (and_parts _ _ h.read.ports).0

-- Lines that are read up to the one that ends the settings.
use Rattle.std.proofs.Common.{◌≡◌, ℕ, ◌+◌, ◌<◌, ◌≤◌, Bool, true, false, cond, leb, ltb, List, [], ◌∷◌, ◌++◌, length, length-append, take, Result, Ok, Err, refl, sym, ap, ◌∙◌, subst, arith, append-nil}
use Rattle.std.proofs.Math.Seq.{take-append_seam}
use Rattle.std.proofs.lemmas.Bool.Decides.{nat_tests}
use Rattle.wire_defs.specs.Text.{ended_lines, open_line, last_line}
use Rattle.switch_event.specs.Config.{empty}
use Rattle.trace_defs.specs.Alike.{all_lines}
use Rattle.trace_defs.specs.Line.{Line}
use Rattle.trace_defs.specs.Line.Line.{Blank, Begin, Sync, Setting, Entry}
use Rattle.trace_defs.specs.Line.Record.{Control, Data}
use Rattle.trace_defs.specs.Reading.{HasRead}
use Rattle.trace_defs.specs.Trace.{Progress, Stop, start, add_line, after_line, go_on, read_lines}
use Rattle.trace_defs.specs.Trace.Reading.{Going, Stopped}
use Rattle.trace_defs.specs.Trace.Stop.{Full}
use Rattle.trace_defs.proofs.TraceLemmas.{counted_lines-feed}
use Rattle.serve_defs.specs.Settings.{settle, settings_of, settings_fate_of}

-- ---- the settings stay ended

abbrev is_next : Result Progress Stop → Progress → Type 0
is_next r q = r ≡ Ok q

same_ok : (p q : Progress) → is_next (Ok p) q → p ≡ q
same_ok p q e = cc

begun_as : (p q : Progress) → is_next (Ok p) q → p.begun ≡ true → q.begun ≡ true
begun_as p q e h = subst (λ r. r.begun ≡ true) (same_ok p q e) h

no_room : (n : ℕ) → ltb n 0 ≡ false
no_room n = grind (arith, nat_tests)

add_keeps : (p q : Progress) (l : Result Line ℕ) → add_line 0 p l ≡ Ok q → p.begun ≡ true → q.begun ≡ true
add_keeps p q (Err why) e h = absurd (cc)
add_keeps p q (Ok Blank) e h = begun_as (record p { lines = p.lines + 1 }) q e h
add_keeps p q (Ok Begin) e h = begun_as (record p { lines = p.lines + 1; begun = true }) q e refl
add_keeps p q (Ok Sync) e h = begun_as (record p { lines = p.lines + 1; done = p.done ++ p.current ∷ []; current = [] }) q e h
add_keeps p q (Ok (Setting config given)) e h = begun_as (record p { lines = p.lines + 1; config = config; given = given }) q e h
add_keeps p q (Ok (Entry (Control lane event))) e h =
    absurd (never (sym (ap (λ b. cond b (Ok (record p { lines = p.lines + 1; controls = p.controls + 1; current = p.current ++ Control lane event ∷ [] })) (Err Full)) (no_room p.controls)) ∙ e))
  where
    never : is_next (Err Full) q → ⊥
    never e = cc
add_keeps p q (Ok (Entry (Data port octets))) e h = begun_as (record p { lines = p.lines + 1; current = p.current ++ Data port octets ∷ [] }) q e h

differ : (b : Bool) → b ≡ true → b ≡ false → ⊥
differ b e f = cc

unbegun_line : (p q : Progress) (line : List ℕ) → after_line 0 p line ≡ Ok q → q.begun ≡ false → p.begun ≡ false
unbegun_line p q line e h = by p.begun refl
  where
    by : (b : Bool) → p.begun ≡ b → p.begun ≡ false
    by false is = is
    by true is = absurd (differ q.begun (add_keeps p q _ e is) h)

same_going : (p q : Progress) → Going p ≡ Going q → p ≡ q
same_going p q e = cc

unbegun_lines : (p q : Progress) (lines : List (List ℕ)) → read_lines 0 p lines ≡ Going q → q.begun ≡ false → p.begun ≡ false
unbegun_lines p q [] e h = subst (λ r. r.begun ≡ false) (sym (same_going p q e)) h
unbegun_lines p q (line ∷ lines) e h = by (after_line 0 p line) refl (λ next f. unbegun_lines next q lines f h) e
  where
    by : (r : Result Progress Stop) → after_line 0 p line ≡ r → ((next : Progress) → read_lines 0 next lines ≡ Going q → next.begun ≡ false)
        → go_on p r (λ q. read_lines 0 q lines) ≡ Going q → p.begun ≡ false
    by (Ok next) is more e = unbegun_line p next line is (more next e)
    by (Err stop) is more e = absurd (cc)

-- an empty line does not end the settings
pub none_begins : (p q : Progress) (line : List ℕ) → after_line 0 p line ≡ Ok q → p.begun ≡ false → q.begun ≡ true → [] ≡ line → ⊥
none_begins p q line next unbegun begun none =
    let blank : is_next (Ok (record p { lines = p.lines + 1 })) q = ap (after_line 0 p) none ∙ next in
    differ q.begun begun (sym (ap (λ r. r.begun) (same_ok (record p { lines = p.lines + 1 }) q blank)) ∙ unbegun)

-- ---- one line more

pub settle_next : (p q : Progress) (line : List ℕ) (lines : List (List ℕ)) → p.begun ≡ false → after_line 0 p line ≡ Ok q → settle p (line ∷ lines) ≡ settle q lines
settle_next p q line lines unbegun e =
    ap (λ b. cond b (Going p) (go_on p (after_line 0 p line) (λ r. settle r lines))) unbegun ∙ ap (λ r. go_on p r (λ r. settle r lines)) e

pub settle_stop : (p : Progress) (line : List ℕ) (lines : List (List ℕ)) (stop : Stop) → p.begun ≡ false → after_line 0 p line ≡ Err stop → settle p (line ∷ lines) ≡ Stopped p stop
settle_stop p line lines stop unbegun e =
    ap (λ b. cond b (Going p) (go_on p (after_line 0 p line) (λ r. settle r lines))) unbegun ∙ ap (λ r. go_on p r (λ r. settle r lines)) e

settle_done : (p : Progress) (lines : List (List ℕ)) → p.begun ≡ true → settle p lines ≡ Going p
settle_done p [] begun = refl
settle_done p (line ∷ lines) begun = ap (λ b. cond b (Going p) (go_on p (after_line 0 p line) (λ r. settle r lines))) begun

-- lines that do not end the settings, and then more
settle_on : (p q : Progress) (xs ys : List (List ℕ)) → read_lines 0 p xs ≡ Going q → q.begun ≡ false → settle p (xs ++ ys) ≡ settle q ys
settle_on p q [] ys e h = ap (λ r. settle r ys) (same_going p q e)
settle_on p q (x ∷ xs) ys e h = by (after_line 0 p x) refl (λ next f. settle_on next q xs ys f h) e
  where
    by : (r : Result Progress Stop) → after_line 0 p x ≡ r → ((next : Progress) → read_lines 0 next xs ≡ Going q → settle next (xs ++ ys) ≡ settle q ys)
        → go_on p r (λ q. read_lines 0 q xs) ≡ Going q → settle p (x ∷ xs ++ ys) ≡ settle q ys
    by (Ok next) is more e = settle_next p next x (xs ++ ys) (unbegun_line p next x is (unbegun_lines next q xs e h)) is ∙ more next e
    by (Err stop) is more e = absurd (cc)

-- ---- a text

-- the line that ends the settings, whatever follows
pub settings-ended : (limit : ℕ) (given rest part : List ℕ) (p q : Progress) → HasRead 0 empty given p part → p.begun ≡ false → length given < limit
    → after_line 0 p part ≡ Ok q → q.begun ≡ true → settings_of limit (given ++ 10 ∷ rest) ≡ Going q
settings-ended limit given rest part p q h unbegun short next begun =
    let counted = counted_lines-feed limit given rest short in
    ap (settle (start empty)) counted.1 ∙ settle_on (start empty) p (ended_lines given) (open_line given ∷ counted.0) h.lines unbegun
    ∙ settle_next p q (open_line given) counted.0 unbegun (ap (after_line 0 p) h.line ∙ next) ∙ settle_done q counted.0 begun

-- a line that is refused
pub settings-stop : (limit : ℕ) (given rest part : List ℕ) (p : Progress) (stop : Stop) → HasRead 0 empty given p part → p.begun ≡ false → length given < limit
    → after_line 0 p part ≡ Err stop → settings_of limit (given ++ 10 ∷ rest) ≡ Stopped p stop
settings-stop limit given rest part p stop h unbegun short next =
    let counted = counted_lines-feed limit given rest short in
    ap (settle (start empty)) counted.1 ∙ settle_on (start empty) p (ended_lines given) (open_line given ∷ counted.0) h.lines unbegun
    ∙ settle_stop p (open_line given) counted.0 stop unbegun (ap (after_line 0 p) h.line ∙ next)

-- more octets than the limit
pub settings-long : (limit : ℕ) (given rest part : List ℕ) (p : Progress) → HasRead 0 empty given p part → p.begun ≡ false
    → length given ≡ limit → 0 < length rest → settings_fate_of (leb (length (given ++ rest)) limit) (settings_of limit (given ++ rest)) ≡ 8
settings-long limit given rest part p h unbegun full more =
    let over : leb (length (given ++ rest)) limit ≡ false = grind (arith, length-append given rest, nat_tests) in
    let front : take limit (given ++ rest) ≡ given = ap (λ k. take k (given ++ rest)) (sym full) ∙ take-append_seam given rest in
    let going : settings_of limit (given ++ rest) ≡ Going p =
    ap (λ b. settle (start empty) (cond b (ended_lines (given ++ rest) ++ last_line (open_line (given ++ rest))) (ended_lines (take limit (given ++ rest))))) over
    ∙ ap (λ l. settle (start empty) (ended_lines l)) front ∙ ap (settle (start empty)) (sym (append-nil (ended_lines given)))
    ∙ settle_on (start empty) p (ended_lines given) [] h.lines unbegun in
    ap (settings_fate_of (leb (length (given ++ rest)) limit)) going ∙ ap (λ b. settings_fate_of b (Going p)) over ∙ ap (λ b. cond b 0 8) unbegun

pub fits_within : (n limit : ℕ) → n ≤ limit → leb n limit ≡ true
fits_within n limit h = grind (arith, nat_tests)

-- a text that ends within the limit
pub settings-end : (limit : ℕ) (given : List ℕ) → length given ≤ limit → settings_of limit given ≡ settle (start empty) (all_lines given)
settings-end limit given short =
    ap (λ b. settle (start empty) (cond b (ended_lines given ++ last_line (open_line given)) (ended_lines (take limit given)))) (fits_within (length given) limit short)

pub settled-end : (given part : List ℕ) (p : Progress) → HasRead 0 empty given p part → p.begun ≡ false → settle (start empty) (all_lines given) ≡ settle p (last_line part)
settled-end given part p h unbegun =
    settle_on (start empty) p (ended_lines given) (last_line (open_line given)) h.lines unbegun ∙ ap (λ l. settle p (last_line l)) h.line

pub settled-ended : (p q : Progress) (line : List ℕ) → p.begun ≡ false → after_line 0 p line ≡ Ok q → q.begun ≡ true → settle p (line ∷ []) ≡ Going q
settled-ended p q line unbegun next begun = settle_next p q line [] unbegun next ∙ settle_done q [] begun

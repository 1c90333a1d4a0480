-- A line and what is kept of it are read alike.
use Rattle.std.proofs.Common.{◌≡◌, ℕ, suc, ◌+◌, ◌-◌, ◌<◌, ◌≤◌, Bool, true, false, cond, ◌&&◌, eqb, ltb, List, [], ◌∷◌, ◌++◌, length, take, drop, get_or, set, filter, refl, sym, ap, ◌∙◌, arith, inl, inr, ◌⊎◌, take-append-drop, length-append, length-drop, length-take-le, Result, Ok, Err}
use Rattle.std.specs.List.{slice_split, onto_first, list_all}
use Rattle.std.specs.Str.Lines.{strip_carriage_return}
use Rattle.std.proofs.lemmas.List.Folds.{list_all-append}
use Rattle.std.proofs.Math.Seq.{take-append-le, drop-append-le, get_or_at, set_at}
use Rattle.std.proofs.lemmas.Bool.Decides.{nat_tests}
use Rattle.wire_defs.specs.Text.{words}
use Rattle.switch_event.specs.Config.{Config}
use Rattle.trace_defs.specs.declared.reason.TheConstants.{LONG}
use Rattle.trace_defs.specs.Line.{Line, is_comment, head_of, words_line, stripped_line, line_of}
use Rattle.trace_defs.proofs.Headed.{headed-long}
use Rattle.trace_defs.specs.Line.Line.{Blank}
use Rattle.trace_defs.proofs.Kept.{return_before, stand_in, stood_for, kept_in, kept_of}
use Rattle.trace_defs.specs.Alike.{stand_in_with}

abbrev is_space : ℕ → Bool
is_space octet = eqb octet 32

abbrev is_some_word : List ℕ → Bool
is_some_word word = ltb 0 (length word)

-- a text of spaces has no word
words-blank : (text : List ℕ) → list_all is_space text ≡ true → words text ≡ []
words-blank [] h = refl
words-blank (x ∷ xs) h = step (eqb x 32) (words-blank xs) h
  where
    step : (b : Bool) → (list_all is_space xs ≡ true → words xs ≡ []) → (b && list_all is_space xs) ≡ true
        → filter is_some_word (cond b ([] ∷ slice_split is_space xs) (onto_first x (slice_split is_space xs))) ≡ []
    step true more e = more e
    step false more e = absurd (cc)

-- any other text has one
words-some : (text : List ℕ) → list_all is_space text ≡ false → (word : List ℕ) × (rest : List (List ℕ)) × (words text ≡ word ∷ rest)
words-some [] h = absurd (cc)
words-some (x ∷ xs) h = step (eqb x 32) (words-some xs) h
  where
    some_long : (n : ℕ) → ltb 0 (suc n) ≡ true
    some_long n = grind (arith, nat_tests)

    first : (parts : List (List ℕ)) → (word : List ℕ) × (rest : List (List ℕ)) × (filter is_some_word (onto_first x parts) ≡ word ∷ rest)
    first [] = (x ∷ [], [], ap (λ b. cond b ((x ∷ []) ∷ []) []) (some_long 0))
    first (part ∷ parts) = (x ∷ part, filter is_some_word parts, ap (λ b. cond b ((x ∷ part) ∷ filter is_some_word parts) (filter is_some_word parts)) (some_long (length part)))

    step : (b : Bool) → (list_all is_space xs ≡ false → (word : List ℕ) × (rest : List (List ℕ)) × (words xs ≡ word ∷ rest)) → (b && list_all is_space xs) ≡ false
        → (word : List ℕ) × (rest : List (List ℕ)) × (filter is_some_word (cond b ([] ∷ slice_split is_space xs) (onto_first x (slice_split is_space xs))) ≡ word ∷ rest)
    step true more e = more e
    step false more e = first (slice_split is_space xs)

-- what a text of more than 10,240 octets is
abbrev long_line : (comment blank : Bool) → Result Line ℕ
long_line comment blank = cond comment (Ok Blank) (cond blank (Ok Blank) (Err LONG))

long_text : (config : Config) (given : ℕ) (begun : Bool) (text : List ℕ) → 10240 < length text
    → stripped_line config given begun text ≡ long_line (is_comment text) (list_all is_space text)
long_text config given begun text h = ap (cond (is_comment text) (Ok Blank)) (plain (list_all is_space text) refl)
  where
    over : ltb 10240 (length text) ≡ true
    over = grind (arith, nat_tests)

    plain : (b : Bool) → list_all is_space text ≡ b → words_line config given begun text (words text) ≡ cond b (Ok Blank) (Err LONG)
    plain true e = ap (words_line config given begun text) (words-blank text e)
    plain false e =
        let w = words-some text e in
        ap (words_line config given begun text) w.2 ∙ headed-long config given begun text (head_of w.0 w.1) h

-- a carriage return at the end
strip-cons : (x y : ℕ) (rest : List ℕ) → strip_carriage_return (x ∷ y ∷ rest) ≡ x ∷ strip_carriage_return (y ∷ rest)
strip-cons x y rest =
    ap (λ n. cond (eqb (get_or (x ∷ y ∷ rest) n 0) 13) (take n (x ∷ y ∷ rest)) (x ∷ y ∷ rest)) (less (suc (length rest)))
    ∙ both (eqb (get_or (y ∷ rest) (length rest) 0) 13) (take (length rest) (y ∷ rest)) (y ∷ rest)
    ∙ ap (λ n. x ∷ cond (eqb (get_or (y ∷ rest) n 0) 13) (take n (y ∷ rest)) (y ∷ rest)) (sym (less (length rest)))
  where
    less : (n : ℕ) → suc n - 1 ≡ n
    less n = omega arith

    both : (b : Bool) (l m : List ℕ) → cond b (x ∷ l) (x ∷ m) ≡ x ∷ cond b l m
    both true l m = refl
    both false l m = refl

strip-append : (front : List ℕ) (y : ℕ) (rest : List ℕ) → strip_carriage_return (front ++ y ∷ rest) ≡ front ++ strip_carriage_return (y ∷ rest)
strip-append [] y rest = refl
strip-append (x ∷ []) y rest = strip-cons x y rest
strip-append (x ∷ z ∷ zs) y rest = strip-cons x z (zs ++ y ∷ rest) ∙ ap (λ l. x ∷ l) (strip-append (z ∷ zs) y rest)

-- the octet that stands for one alone is that octet
stand_in-alone : (x : ℕ) → stand_in (x ∷ []) ≡ x
stand_in-alone x = grind (arith, nat_tests)

-- without a carriage return at its end, the rest of a line is blank where the octet is that stands for it
stand_in-blank : (rest : List ℕ) → list_all is_space (strip_carriage_return rest) ≡ list_all is_space (strip_carriage_return (stand_in rest ∷ []))
stand_in-blank [] = refl
stand_in-blank (x ∷ []) = ap (λ n. list_all is_space (strip_carriage_return (n ∷ []))) (sym (stand_in-alone x))
stand_in-blank (x ∷ y ∷ rest) = ap (list_all is_space) (strip-cons x y rest) ∙ step (eqb x 32) refl (eqb x 13) refl (stand_in-blank (y ∷ rest))
  where
    step : (a : Bool) → eqb x 32 ≡ a → (b : Bool) → eqb x 13 ≡ b
        → list_all is_space (strip_carriage_return (y ∷ rest)) ≡ list_all is_space (strip_carriage_return (stand_in (y ∷ rest) ∷ []))
        → (a && list_all is_space (strip_carriage_return (y ∷ rest))) ≡ list_all is_space (strip_carriage_return (cond a (stand_in (y ∷ rest)) (cond b 120 x) ∷ []))
    step true e b f more = more
    step false e true f more = refl
    step false e false f more = sym (ap (λ b. list_all is_space (cond b [] (x ∷ []))) f ∙ ap (λ b. b && true) e)

-- a text that begins with more than 10,240 octets of a line
long_front : (config : Config) (given : ℕ) (begun : Bool) (front : List ℕ) (y : ℕ) (rest : List ℕ) → 10240 < length front
    → line_of config given begun (front ++ y ∷ rest) ≡ long_line (is_comment front) (list_all is_space front && list_all is_space (strip_carriage_return (y ∷ rest)))
long_front config given begun [] y rest h = absurd (omega arith)
long_front config given begun (x ∷ front) y rest h =
    let tail = strip_carriage_return (y ∷ rest) in
    let more : 10240 < length ((x ∷ front) ++ tail) = omega (arith, length-append (x ∷ front) tail) in
    ap (stripped_line config given begun) (strip-append (x ∷ front) y rest) ∙ long_text config given begun ((x ∷ front) ++ tail) more
    ∙ ap (long_line (eqb x 35)) (list_all-append is_space (x ∷ front) tail)

-- a line of so many octets and one more is kept whole
kept_in-short : (room : ℕ) (line : List ℕ) → length line ≤ room + 1 → kept_in room line ≡ line
unfolding kept_in
kept_in-short room line h = whole (drop room line) refl
  where
    whole : (rest : List ℕ) → drop room line ≡ rest → take room line ++ stood_for (drop room line) ≡ line
    whole [] e = ap (λ l. take room line ++ stood_for l) e ∙ ap (λ l. take room line ++ l) (sym e) ∙ take-append-drop room line
    whole (x ∷ []) e = ap (λ l. take room line ++ stood_for l) e ∙ ap (λ n. take room line ++ n ∷ []) (stand_in-alone x) ∙ ap (λ l. take room line ++ l) (sym e) ∙ take-append-drop room line
    whole (x ∷ y ∷ rest) e = absurd (omega (arith, length-drop room line, ap length e))

-- a longer line
kept_in-long : (room : ℕ) (line : List ℕ) → room < length line → kept_in room line ≡ take room line ++ stand_in (drop room line) ∷ []
unfolding kept_in
kept_in-long room line h = whole (drop room line) refl
  where
    whole : (rest : List ℕ) → drop room line ≡ rest → take room line ++ stood_for (drop room line) ≡ take room line ++ stand_in (drop room line) ∷ []
    whole [] e = absurd (omega (arith, length-drop room line, ap length e))
    whole (x ∷ rest) e = ap (λ l. take room line ++ stood_for l) e ∙ ap (λ l. take room line ++ stand_in l ∷ []) (sym e)

either_way : (m n : ℕ) → (m ≤ n) ⊎ (n < m)
either_way m n = grind (arith, nat_tests)

-- a line is read as what is kept of it
line_of-kept_in : (room : ℕ) → 10240 < room → (config : Config) (given : ℕ) (begun : Bool) (line : List ℕ)
    → line_of config given begun (kept_in room line) ≡ line_of config given begun line
line_of-kept_in room wide config given begun line =
    elim (either_way (length line) room) [
      | inl short ↦ ap (line_of config given begun) (kept_in-short room line (omega arith))
      | inr long ↦ ap (line_of config given begun) (kept_in-long room line long) ∙ alike long (drop room line) refl
    ]
  where
    alike : room < length line → (rest : List ℕ) → drop room line ≡ rest → line_of config given begun (take room line ++ stand_in (drop room line) ∷ []) ≡ line_of config given begun line
    alike long [] e = absurd (omega (arith, length-drop room line, ap length e))
    alike long (y ∷ rest) e =
        let front = take room line in
        let h : 10240 < length front = omega (arith, length-take-le room line (omega arith)) in
        ap (λ l. line_of config given begun (front ++ stand_in l ∷ [])) e ∙ long_front config given begun front (stand_in (y ∷ rest)) [] h
        ∙ ap (λ b. long_line (is_comment front) (list_all is_space front && b)) (sym (stand_in-blank (y ∷ rest))) ∙ sym (long_front config given begun front y rest h)
        ∙ ap (line_of config given begun) (ap (λ l. front ++ l) (sym e) ∙ take-append-drop room line)

pub line_of-kept : (config : Config) (given : ℕ) (begun : Bool) (line : List ℕ) → line_of config given begun (kept_of line) ≡ line_of config given begun line
unfolding kept_of
line_of-kept config given begun line = line_of-kept_in 10241 (omega arith) config given begun line

-- the octet that stands for the rest, with one more
stand_in-more : (rest : List ℕ) (octet : ℕ) → stand_in (rest ++ octet ∷ []) ≡ stand_in_with (stand_in rest) octet
stand_in-more [] octet = stand_in-alone octet
stand_in-more (x ∷ rest) octet = step (eqb x 32) refl (eqb x 13) refl (stand_in-more rest octet)
  where
    ended : (rest : List ℕ) → return_before (rest ++ octet ∷ []) ≡ stand_in_with (return_before rest) octet
    ended [] = refl
    ended (y ∷ rest) = refl

    step : (a : Bool) → eqb x 32 ≡ a → (b : Bool) → eqb x 13 ≡ b → stand_in (rest ++ octet ∷ []) ≡ stand_in_with (stand_in rest) octet
        → cond a (stand_in (rest ++ octet ∷ [])) (cond b (return_before (rest ++ octet ∷ [])) x) ≡ stand_in_with (cond a (stand_in rest) (cond b (return_before rest) x)) octet
    step true e b f more = more
    step false e true f more = ended rest
    step false e false f more = sym (ap (λ a. cond a octet (cond (eqb x 13) 120 x)) e ∙ ap (λ b. cond b 120 x) f)

length-kept_in : (room : ℕ) (line : List ℕ) → room < length line → length (kept_in room line) ≡ room + 1
length-kept_in room line long =
    ap length (kept_in-long room line long) ∙ omega (arith, length-append (take room line) (stand_in (drop room line) ∷ []), length-take-le room line (omega arith))

kept_in-fits : (room : ℕ) (line : List ℕ) → length (kept_in room line) ≤ room + 1
kept_in-fits room line =
    elim (either_way (length line) room) [
      | inl short ↦ omega (arith, ap length (kept_in-short room line (omega arith)))
      | inr long ↦ omega (arith, length-kept_in room line long)
    ]

-- one more octet, where there is room for it
kept_in-more : (room : ℕ) (line : List ℕ) (octet : ℕ) → length (kept_in room line) < room + 1 → kept_in room (line ++ octet ∷ []) ≡ kept_in room line ++ octet ∷ []
kept_in-more room line octet h =
    elim (either_way (length line) room) [
      | inl short ↦ kept_in-short room (line ++ octet ∷ []) (omega (arith, length-append line (octet ∷ []))) ∙ ap (λ l. l ++ octet ∷ []) (sym (kept_in-short room line (omega arith)))
      | inr long ↦ absurd (omega (arith, length-kept_in room line long))
    ]

-- one more octet, where there is none
kept_in-full : (room : ℕ) (line : List ℕ) (octet : ℕ) → length (kept_in room line) ≡ room + 1
    → kept_in room (line ++ octet ∷ []) ≡ set (kept_in room line) room (stand_in_with (get_or (kept_in room line) room 0) octet)
kept_in-full room line octet h =
    elim (either_way (length line) room) [
      | inl short ↦ absurd (omega (arith, ap length (kept_in-short room line (omega arith))))
      | inr long ↦
          let front = take room line in
          let rest = drop room line in
          let full : length front ≡ room = length-take-le room line (omega arith) in
          kept_in-long room (line ++ octet ∷ []) (omega (arith, length-append line (octet ∷ [])))
          ∙ ap (λ l. l ++ stand_in (drop room (line ++ octet ∷ [])) ∷ []) (take-append-le room line (octet ∷ []) (omega arith))
          ∙ ap (λ l. front ++ stand_in l ∷ []) (drop-append-le room line (octet ∷ []) (omega arith))
          ∙ ap (λ x. front ++ x ∷ []) (stand_in-more rest octet)
          ∙ sym (set_at front (stand_in rest) [] (stand_in_with (stand_in rest) octet) room full)
          ∙ ap (λ x. set (front ++ stand_in rest ∷ []) room (stand_in_with x octet)) (sym (get_or_at front (stand_in rest) [] 0 room full))
          ∙ ap (λ l. set l room (stand_in_with (get_or l room 0) octet)) (sym (kept_in-long room line long))
    ]

pub kept_of-none : kept_of [] ≡ []
unfolding kept_of
kept_of-none = kept_in-short 10241 [] (omega arith)

pub kept_of-nil : (line : List ℕ) → kept_of line ≡ [] → line ≡ []
unfolding kept_of
kept_of-nil line e =
    elim (either_way (length line) 10241) [
      | inl short ↦ sym (kept_in-short 10241 line (omega arith)) ∙ e
      | inr long ↦ absurd (omega (arith, ap length (sym (kept_in-long 10241 line long) ∙ e), length-append (take 10241 line) (stand_in (drop 10241 line) ∷ [])))
    ]

pub kept_of-fits : (line : List ℕ) → length (kept_of line) ≤ 10242
unfolding kept_of
kept_of-fits line = kept_in-fits 10241 line

pub kept_of-short : (line : List ℕ) → length line ≤ 10242 → kept_of line ≡ line
unfolding kept_of
kept_of-short line h = kept_in-short 10241 line h

pub kept_of-more : (line : List ℕ) (octet : ℕ) → length (kept_of line) < 10242 → kept_of (line ++ octet ∷ []) ≡ kept_of line ++ octet ∷ []
unfolding kept_of
kept_of-more line octet h = kept_in-more 10241 line octet h

pub kept_of-full : (line : List ℕ) (octet : ℕ) → length (kept_of line) ≡ 10242
    → kept_of (line ++ octet ∷ []) ≡ set (kept_of line) 10241 (stand_in_with (get_or (kept_of line) 10241 0) octet)
unfolding kept_of
kept_of-full line octet h = kept_in-full 10241 line octet h

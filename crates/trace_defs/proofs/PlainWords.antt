-- Words of printable octets, and a line of them with a space between each two.
use Rattle.std.proofs.Common.{◌≡◌, ◌≢◌, ℕ, zero, suc, ◌+◌, ◌-◌, ◌<◌, ◌≤◌, Bool, ◌&&◌, true, false, cond, eqb, ltb, leb, List, [], ◌∷◌, ◌++◌, length, take, slice_index, filter, refl, sym, ap, ◌∙◌, arith, Ok, append-nil, length-append}
use Rattle.std.specs.List.{slice_split, All, list_all, flat_map}
use Rattle.std.specs.Str.Lines.{strip_carriage_return}
use Rattle.std.proofs.lemmas.Bool.{and_parts, and_from}
use Rattle.std.proofs.lemmas.Bool.Decides.{nat_tests}
use Rattle.std.proofs.lemmas.List.Elements.{All-nil, All-cons}
use Rattle.std.proofs.lemmas.List.Folds.{list_all-append}
use Rattle.std.proofs.lemmas.List.Splits.{slice_split_at, slice_split_none}
use Rattle.wire_defs.specs.Text.{words}
use Rattle.switch_event.specs.Config.{Config}
use Rattle.trace_defs.specs.Line.{line_of, head_of, words_line, is_comment, is_printable, stripped_line}
use Rattle.trace_defs.proofs.Headed.{spoken_line, headed-short}
use Rattle.trace_defs.specs.Line.Line.{Blank}
use Rattle.trace_defs.specs.Text.{spaced}
use Rattle.trace_defs.specs.Sized.{is_glyph}

abbrev pub is_word : ℕ → List ℕ → Bool
is_word most word = ltb 0 (length word) && (leb (length word) most && list_all is_glyph word)

-- a word of at most so many octets
pub record IsWord (most : ℕ) (word : List ℕ) : Type 0 where
  pub some : 0 < length word
  pub long : length word ≤ most
  pub plain : list_all is_glyph word ≡ true

-- a written-out word, by computation
pub word_by_test : (most : ℕ) (word : List ℕ) → is_word most word ≡ true → IsWord most word
word_by_test most word h =
    let first = and_parts (ltb 0 (length word)) (leb (length word) most && list_all is_glyph word) h in
    let second = and_parts (leb (length word) most) (list_all is_glyph word) first.1 in
    record { some = below (length word) first.0; long = within (length word) most second.0; plain = second.1 }
  where
    below : (n : ℕ) → ltb 0 n ≡ true → 0 < n
    below n h = grind (arith, nat_tests)

    within : (n most : ℕ) → leb n most ≡ true → n ≤ most
    within n most h = grind (arith, nat_tests)

-- words of at most so many octets each
abbrev pub AreWords : List ℕ → List (List ℕ) → Type 0
AreWords [] [] = Unit {0}
AreWords [] (word ∷ words) = ⊥
AreWords (most ∷ mosts) [] = ⊥
AreWords (most ∷ mosts) (word ∷ words) = IsWord most word × AreWords mosts words

-- what they take with a space behind each
abbrev pub room : List ℕ → ℕ
room [] = 0
room (most ∷ mosts) = most + 1 + room mosts

-- ---- the words of a line

is_other : (x : ℕ) → is_glyph x ≡ true → eqb x 32 ≡ false
is_other x h = grind (arith, nat_tests)

others : (word : List ℕ) → list_all is_glyph word ≡ true → All (λ x. eqb x 32 ≡ false) word
others [] h = All-nil (λ x. eqb x 32 ≡ false)
others (x ∷ word) h =
    let parts = and_parts (is_glyph x) (list_all is_glyph word) h in
    All-cons (λ x. eqb x 32 ≡ false) x word (is_other x parts.0) (others word parts.1)

kept : (word : List ℕ) (parts : List (List ℕ)) → 0 < length word → filter (λ w. ltb 0 (length w)) (word ∷ parts) ≡ word ∷ filter (λ w. ltb 0 (length w)) parts
kept word parts h = ap (λ b. cond b (word ∷ filter (λ w. ltb 0 (length w)) parts) (filter (λ w. ltb 0 (length w)) parts)) (is_some_long (length word) h)
  where
    is_some_long : (n : ℕ) → 0 < n → ltb 0 n ≡ true
    is_some_long n h = grind (arith, nat_tests)

-- a word that a space follows
pub words-space : (word rest : List ℕ) → All (λ x. eqb x 32 ≡ false) word → 0 < length word → words (word ++ 32 ∷ rest) ≡ word ∷ words rest
words-space word rest plain some =
    ap (filter (λ w. ltb 0 (length w))) (slice_split_at (λ x. eqb x 32) word 32 rest plain refl) ∙ kept word (slice_split (λ x. eqb x 32) rest) some

-- a word that ends a text
pub words-last : (word : List ℕ) → All (λ x. eqb x 32 ≡ false) word → 0 < length word → words word ≡ word ∷ []
words-last word plain some = ap (filter (λ w. ltb 0 (length w))) (slice_split_none (λ x. eqb x 32) word plain) ∙ kept word [] some

-- words with a space between each two are those words
pub words-spaced : (most : ℕ) (mosts : List ℕ) (word : List ℕ) (more : List (List ℕ)) → IsWord most word → AreWords mosts more → words (spaced (word ∷ more)) ≡ word ∷ more
words-spaced most [] word [] h hs = ap words (append-nil word) ∙ words-last word (others word h.plain) h.some
words-spaced most [] word (next ∷ more) h hs = absurd hs
words-spaced most (m ∷ mosts) word [] h hs = absurd hs
words-spaced most (m ∷ mosts) word (next ∷ more) h hs =
    words-space word (spaced (next ∷ more)) (others word h.plain) h.some ∙ ap (λ l. word ∷ l) (words-spaced m mosts next more hs.0 hs.1)

-- ---- the octets of such a line

-- what passes a test passes one that follows from it
pub weaker : (test other : ℕ → Bool) → ((x : ℕ) → test x ≡ true → other x ≡ true) → (text : List ℕ) → list_all test text ≡ true → list_all other text ≡ true
weaker test other each [] h = refl
weaker test other each (x ∷ text) h =
    let parts = and_parts (test x) (list_all test text) h in
    and_from (other x) (list_all other text) (each x parts.0) (weaker test other each text parts.1)

-- each octet passes a test that glyphs and the space pass
pub spaced-passes : (test : ℕ → Bool) → ((x : ℕ) → is_glyph x ≡ true → test x ≡ true) → test 32 ≡ true
    → (most : ℕ) (mosts : List ℕ) (word : List ℕ) (more : List (List ℕ)) → IsWord most word → AreWords mosts more → list_all test (spaced (word ∷ more)) ≡ true
spaced-passes test each space most [] word [] h hs = ap (list_all test) (append-nil word) ∙ weaker is_glyph test each word h.plain
spaced-passes test each space most [] word (next ∷ more) h hs = absurd hs
spaced-passes test each space most (m ∷ mosts) word [] h hs = absurd hs
spaced-passes test each space most (m ∷ mosts) word (next ∷ more) h hs =
    list_all-append test word (32 ∷ spaced (next ∷ more))
    ∙ and_from (list_all test word) (test 32 && list_all test (spaced (next ∷ more))) (weaker is_glyph test each word h.plain)
    (and_from (test 32) (list_all test (spaced (next ∷ more))) space (spaced-passes test each space m mosts next more hs.0 hs.1))

pub spaced-long : (most : ℕ) (mosts : List ℕ) (word : List ℕ) (more : List (List ℕ)) → IsWord most word → AreWords mosts more → length (spaced (word ∷ more)) ≤ room (most ∷ mosts)
spaced-long most [] word [] h hs = omega (arith, length-append word [], h.long)
spaced-long most [] word (next ∷ more) h hs = absurd hs
spaced-long most (m ∷ mosts) word [] h hs = absurd hs
spaced-long most (m ∷ mosts) word (next ∷ more) h hs =
    omega (arith, length-append word (32 ∷ spaced (next ∷ more)), h.long, spaced-long m mosts next more hs.0 hs.1)

-- ---- a line of words is read as its words

other_than : (test : ℕ → Bool) (line : List ℕ) → list_all test line ≡ true → (c : ℕ) → c ≢ 0 → test c ≡ false → (k : ℕ) → slice_index line k ≢ c
other_than test [] h c some fails k same = some (sym same)
other_than test (x ∷ line) h c some fails zero same = clash (sym (ap test same ∙ fails) ∙ (and_parts (test x) (list_all test line) h).0)
  where
    clash : false ≡ true → ⊥
    clash e = cc
other_than test (x ∷ line) h c some fails (suc k) same = other_than test line (and_parts (test x) (list_all test line) h).1 c some fails k same

-- no carriage return ends it
strip-plain : (line : List ℕ) → list_all is_printable line ≡ true → strip_carriage_return line ≡ line
strip-plain line h = stays (slice_index line (length line - 1)) (other_than is_printable line h 13 (λ e. absurd (omega arith)) refl (length line - 1))
  where
    stays : (x : ℕ) → x ≢ 13 → cond (eqb x 13) (take (length line - 1) line) line ≡ line
    stays x other = ap (λ b. cond b (take (length line - 1) line) line) (differs x other)
      where
        differs : (x : ℕ) → x ≢ 13 → eqb x 13 ≡ false
        differs x other = grind (arith, nat_tests)

-- its first octet is that of its first word
comment_of : (word rest : List ℕ) → 0 < length word → is_comment (word ++ rest) ≡ is_comment word
comment_of [] rest h = absurd (omega arith)
comment_of (x ∷ word) rest h = refl

-- where its words are short enough, and it is no comment
pub line_of-words : (config : Config) (given : ℕ) (begun : Bool) (most : ℕ) (mosts : List ℕ) (word : List ℕ) (args : List (List ℕ))
    → AreWords (most ∷ mosts) (word ∷ args) → is_comment word ≡ false → leb (room (most ∷ mosts)) 10240 ≡ true
    → line_of config given begun (spaced (word ∷ args)) ≡ spoken_line config given begun (head_of word args)
line_of-words config given begun most mosts word args hs plain fits =
    let line = spaced (word ∷ args) in
    let printed : list_all is_printable line ≡ true = spaced-passes is_printable glyph_prints refl most mosts word args hs.0 hs.1 in
    let short : length line ≤ 10240 = fewer (length line) (room (most ∷ mosts)) (spaced-long most mosts word args hs.0 hs.1) fits in
    ap (stripped_line config given begun) (strip-plain line printed)
    ∙ ap (λ b. cond b (Ok Blank) (words_line config given begun line (words line))) (comment_of word (flat_map (λ next. 32 ∷ next) args) hs.0.some ∙ plain)
    ∙ ap (words_line config given begun line) (words-spaced most mosts word args hs.0 hs.1)
    ∙ headed-short config given begun line (head_of word args) short printed
  where
    glyph_prints : (x : ℕ) → is_glyph x ≡ true → is_printable x ≡ true
    glyph_prints x h = grind (arith, nat_tests)

    fewer : (n r : ℕ) → n ≤ r → leb r 10240 ≡ true → n ≤ 10240
    fewer n r h fits = grind (arith, nat_tests)

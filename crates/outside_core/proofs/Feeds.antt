-- Where the first line feed of a text stands.
use Rattle.std.proofs.Common.{◌≡◌, ℕ, ◌+◌, ◌<◌, ◌≤◌, Bool, true, false, cond, List, [], ◌++◌, length, length-take, min, not, take, take_all, get_or, get_or-take, eqb, ltb, Some, None, Result, Ok, Err, IfOk, refl, sym, ap, ◌∙◌, arith, length-append}
use Rattle.std.specs.Io.{ReadsAtMost}
use Rattle.std.specs.Io.KnownBytes.{ReadConsumes}
use Rattle.std.proofs.lemmas.List.{take-append-le}
use Rattle.std.specs.List.{position, position_or_len}
use Rattle.std.proofs.lemmas.Bool.{eq-eqb}
use Rattle.std.proofs.lemmas.Bool.Decides.{nat_tests}
use Rattle.std.proofs.lemmas.List.Quantifiers.{position-Some}
use Rattle.std.proofs.lemmas.List.Sums.{fails_before_first, passes_at_first, position_or_len_is, prefix_len-le-length}
use Rattle.outside_core.specs.Lines.{StopsAtFeed, line_length}

abbrev is_feed : ℕ → Bool
is_feed octet = eqb octet 10

not_both : (x : ℕ) → x ≡ 10 → eqb x 10 ≡ false → ⊥
not_both x is other = cc
  where
    both : true ≡ false
    both = sym (eq-eqb x 10 is) ∙ other

no_feed : (xs : List ℕ) → position (λ octet. eqb octet 10) xs ≡ None → length xs ≤ position_or_len is_feed xs
no_feed xs none = step (ltb (position_or_len is_feed xs) (length xs)) refl none
  where
    step : (b : Bool) → ltb (position_or_len is_feed xs) (length xs) ≡ b → cond b (Some (position_or_len is_feed xs)) None ≡ None → length xs ≤ position_or_len is_feed xs
    step true e h = absurd (cc)
    step false e h = grind (arith, nat_tests)

-- where one stands, and where none does
pub line_found : (xs : List ℕ) (first : ℕ) → position (λ octet. eqb octet 10) xs ≡ Some first → first + 1 ≡ line_length xs
line_found xs first found =
    let at = position-Some (λ octet. eqb octet 10) xs first 0 found in
    let here : position_or_len is_feed xs ≡ first = position_or_len_is is_feed xs first 0 (omega (arith, at.0)) at.2 (λ within. at.1) in
    omega (arith, here, at.0)

pub line_whole : (xs : List ℕ) → position (λ octet. eqb octet 10) xs ≡ None → length xs ≡ line_length xs
line_whole xs none = omega (arith, no_feed xs none)

-- in the first of some octets
first_of_part : (m : ℕ) (xs : List ℕ) → position_or_len is_feed (take m xs) ≡ min (position_or_len is_feed xs) m
first_of_part m xs =
    let first = position_or_len is_feed xs in
    let most : first ≤ length xs = prefix_len-le-length (λ octet. not (is_feed octet)) xs in
    position_or_len_is is_feed (take m xs) (min first m) 0 (omega (arith, most, length-take m xs))
    (λ k before. ap is_feed (get_or-take m xs k 0 (omega arith)) ∙ fails_before_first is_feed xs k 0 (omega arith))
    (λ within.
    let low : first < m = omega (arith, within, most, length-take m xs) in
    let least : min first m ≡ first = omega (arith, low) in
    ap (λ k. is_feed (get_or (take m xs) k 0)) least ∙ ap is_feed (get_or-take m xs first 0 low) ∙ passes_at_first is_feed xs 0 (omega (arith, within, length-take m xs)))

pub line_of_part : (m : ℕ) (xs : List ℕ) → line_length (take m xs) ≡ min (line_length xs) m
line_of_part m xs = omega (arith, first_of_part m xs, length-take m xs)

-- up to the first one, with it
pub stops_at : (xs : List ℕ) (first : ℕ) → position (λ octet. eqb octet 10) xs ≡ Some first → StopsAtFeed (first + 1) xs
stops_at xs first found = λ at within feed. step at feed (ltb at first) refl within
  where
    step : (at : ℕ) → get_or xs at 0 ≡ 10 → (b : Bool) → ltb at first ≡ b → at < first + 1 → at + 1 ≡ first + 1
    step at feed true e within = absurd (not_both (get_or xs at 0) feed ((position-Some (λ octet. eqb octet 10) xs first 0 found).2 at (grind (arith, nat_tests))))
    step at feed false e within = grind (arith, nat_tests)

-- where there is none
pub stops_never : (xs : List ℕ) → position (λ octet. eqb octet 10) xs ≡ None → StopsAtFeed (length xs) xs
stops_never xs none = λ at within feed.
    let all = no_feed xs none in
    absurd (not_both (get_or xs at 0) feed (fails_before_first is_feed xs at 0 (omega arith)))

-- the octets that were moved are the first of those that stop there
pub stops_given : (n count most : ℕ) (rest buf : List ℕ) → n ≤ count → count ≤ most → take n buf ≡ take n rest → StopsAtFeed count (take most rest) → StopsAtFeed n buf
stops_given n count most rest buf few within same stops = λ at low feed.
    let there : get_or (take most rest) at 0 ≡ 10 =
    get_or-take most rest at 0 (omega arith) ∙ sym (get_or-take n rest at 0 low) ∙ ap (λ l. get_or l at 0) (sym same) ∙ get_or-take n buf at 0 low ∙ feed in
    let last = stops at (omega arith) there in
    omega arith

-- a read into the front of a buffer, which has none only where no octet is left
pub read_front : {E : Type 0} (r : Result ℕ E) (left rest buf tail : List ℕ) → ReadsAtMost r buf → ReadConsumes (Some left) (Some rest) r buf → (length buf ≡ 0 → 0 < length tail → left ≡ [])
    → ReadConsumes (Some left) (Some rest) r (buf ++ tail)
read_front (Err e) left rest buf tail bound h none = h
read_front (Ok n) left rest buf tail bound h none =
    let same : take n (buf ++ tail) ≡ take n buf = take-append-le n buf tail bound.0 in (
      h.0 ∙ ap (λ l. l ++ rest) (sym same),
      λ zero room. step zero room (ltb 0 (length buf)) refl,
    )
  where
    after : n ≡ 0 → left ≡ rest
    after zero = h.0 ∙ ap (λ k. take k buf ++ rest) zero

    step : n ≡ 0 → 0 < length (buf ++ tail) → (b : Bool) → ltb 0 (length buf) ≡ b → rest ≡ []
    step zero room true e = h.1 zero (grind (arith, nat_tests))
    step zero room false e =
        let empty : length buf ≡ 0 = grind (arith, nat_tests) in
        sym (after zero) ∙ none empty (omega (arith, room, empty, length-append buf tail))

-- what was read stops at the first line feed
pub read_stops : {E : Type 0} (r : Result ℕ E) (count most : ℕ) (left rest buf tail : List ℕ) → ReadsAtMost r buf → ReadConsumes (Some left) (Some rest) r buf → length buf ≡ count → count ≤ most
    → StopsAtFeed count (take most left) → IfOk r (λ n. StopsAtFeed n (buf ++ tail))
read_stops (Err e) count most left rest buf tail bound h len within stops = tt
read_stops (Ok n) count most left rest buf tail bound h len within stops =
    let same : take n (buf ++ tail) ≡ take n buf = take-append-le n buf tail bound.0 in
    stops_given n count most left (buf ++ tail) (omega arith) within (same ∙ sym moved) stops
  where
    moved : take n left ≡ take n buf
    moved = ap (take n) h.0 ∙ take-append-le n (take n buf) rest (omega (arith, bound.1)) ∙ take_all n (take n buf) (omega (arith, bound.1))

-- how many were read: those of the line, that fit, that a step allows
pub read_most : {E : Type 0} (r : Result ℕ E) (count most : ℕ) (left part buf : List ℕ) (step : ℕ) → IfOk r (λ n. n ≡ min (min (length left) (length part)) step) → length part ≡ count
    → count ≡ min (line_length left) most → most ≡ min (length left) (length buf) → IfOk r (λ n. n ≡ min (min (line_length left) (length buf)) step)
read_most (Err e) count most left part buf step read len line fits = tt
read_most (Ok n) count most left part buf step read len line fits = omega (arith, read, len, line, fits)

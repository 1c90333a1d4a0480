-- What an append does to the layout of a tray, and where an item is found.
use Rattle.std.proofs.Common.{◌≡◌, ◌≢◌, ℕ, true, false, zero, suc, ◌+◌, ◌-◌, ◌*◌, ◌≤◌, ◌<◌, List, [], ◌∷◌, ◌++◌, length, take, drop, refl, sym, ◌∙◌, ap, subst, Some, arith, length-append, length-take, length-drop}
use Rattle.std.specs.Prelude.{slice_range, slice_get, slice_index_or}
use Rattle.std.proofs.lemmas.List.{take-append-le, drop-append-le}
use Rattle.std.proofs.lemmas.Option.{slice_get_read}
use Rattle.out_tray.specs.declared.tray.Entry.{Entry}
use Rattle.out_tray.specs.declared.way.Way.{Way}
use Rattle.out_tray.specs.declared.way.Way.TheVariants as way
use Rattle.switch_event.specs.Sent.{Sent, octets_of}
use Rattle.out_tray.specs.Way.{sent_by}
use Rattle.out_tray.specs.Tray.{Things, taken, room, spare}
use Rattle.out_tray.specs.Layout.{items_from, start_at, Rises, Sound}

-- a part before the end of a text is the same in a longer text
some_entry : {a b : Entry} → Some a ≡ Some b → a ≡ b
some_entry h = cc

part_stays : (xs ys : List ℕ) (i j : ℕ) → i ≤ j → j ≤ length xs → slice_range (xs ++ ys) i j ≡ slice_range xs i j
part_stays xs ys i j a b =
    rw (drop-append-le i xs ys (omega (arith, a, b))) (take-append-le (j - i) (drop i xs) ys (rw (length-drop i xs) (omega (arith, a, b))))

drop_all : (xs : List ℕ) → drop (length xs) xs ≡ []
drop_all [] = refl
drop_all (x ∷ xs) = drop_all xs

take_all : (xs : List ℕ) → take (length xs) xs ≡ xs
take_all [] = refl
take_all (x ∷ xs) = ap (λ r. x ∷ r) (take_all xs)

same_length : (a b : ℕ) → a + b - a ≡ b
same_length a b = omega arith

pub last_part : (xs ys : List ℕ) → slice_range (xs ++ ys) (length xs) (length xs + length ys) ≡ ys
last_part xs ys = rw (drop-append-le (length xs) xs ys (omega arith), drop_all xs, same_length (length xs) (length ys)) (take_all ys)

rises_most : (start : ℕ) (es : List Entry) (last : ℕ) → Rises start es last → start ≤ last
rises_most start [] last h = omega (arith, h)
rises_most start (e ∷ es) last h = omega (arith, h.0, rises_most e.end es last h.1)

pub rises_more : (start : ℕ) (es : List Entry) (last : ℕ) (e : Entry) → Rises start es last → last ≤ e.end → Rises start (es ++ e ∷ []) e.end
rises_more start [] last e h more = (omega (arith, h, more), refl)
rises_more start (x ∷ es) last e h more = (h.0, rises_more x.end es last e h.1 more)

pub items_more : (start : ℕ) (es : List Entry) (xs ys : List ℕ) (e : Entry) → Rises start es (length xs) → e.end ≡ length xs + length ys →
    items_from start (es ++ e ∷ []) (xs ++ ys) ≡ items_from start es xs ++ sent_by e.way ys ∷ []
items_more start [] xs ys e h end = ap (λ p. sent_by e.way p ∷ []) (rw (h, end) (last_part xs ys))
items_more start (x ∷ es) xs ys e h end =
    rw (part_stays xs ys start x.end h.0 (rises_most x.end es (length xs) h.1)) (ap (λ r. sent_by x.way (slice_range xs start x.end) ∷ r) (items_more x.end es xs ys e h.1 end))

pub octets_sent : (w : Way) (xs : List ℕ) → octets_of (sent_by w xs) ≡ xs
octets_sent (way.Frame port) xs = refl
octets_sent (way.Radius socket) xs = refl
octets_sent (way.Reply to) xs = refl

part_length : (xs : List ℕ) (i j : ℕ) → i ≤ j → j ≤ length xs → length (slice_range xs i j) + i ≡ j
part_length xs i j a b = rw (length-take (j - i) (drop i xs), length-drop i xs) (omega (arith, a, b))

-- the items take the octets from the first on, and 16 each
pub taken_from : (start : ℕ) (es : List Entry) (xs : List ℕ) → Rises start es (length xs) → taken (items_from start es xs) + start ≡ 16 * length es + length xs
taken_from start [] xs h = omega (arith, h)
taken_from start (e ∷ es) xs h =
    rw (octets_sent e.way (slice_range xs start e.end)) (omega (arith, part_length xs start e.end h.0 (rises_most e.end es (length xs) h.1), taken_from e.end es xs h.1))

pub count_from : (start : ℕ) (es : List Entry) (xs : List ℕ) → length (items_from start es xs) ≡ length es
count_from start [] xs = refl
count_from start (e ∷ es) xs = ap suc (count_from e.end es xs)

-- the item at a place is what lies between two ends
pub item_at : (start : ℕ) (es : List Entry) (xs : List ℕ) (n : ℕ) (e : Entry) → slice_get es n ≡ Some e →
    slice_get (items_from start es xs) n ≡ Some (sent_by e.way (slice_range xs (start_at start es n) e.end))
item_at start [] xs n e h = cc
item_at start (x ∷ es) xs zero e h = let same : x ≡ e = some_entry h in let P : Entry → Type 0 = λ y. Some (sent_by x.way (slice_range xs start x.end)) ≡ Some (sent_by y.way (slice_range xs start y.end)) in subst P same refl
item_at start (x ∷ es) xs (suc n) e h = item_at x.end es xs n e h

pub bounds_at : (start : ℕ) (es : List Entry) (last n : ℕ) (e : Entry) → Rises start es last → slice_get es n ≡ Some e → (start_at start es n ≤ e.end) × (e.end ≤ last)
bounds_at start [] last n e r h = cc
bounds_at start (x ∷ es) last zero e r h =
    let same : x ≡ e = some_entry h in
    let P : Entry → Type 0 = λ y. (start ≤ y.end) × (y.end ≤ last) in
    subst P same (r.0, rises_most x.end es last r.1)
bounds_at start (x ∷ es) last (suc n) e r h = bounds_at x.end es last n e r.1 h

-- an item begins where the one before it ends
pub start_after : (start : ℕ) (es : List Entry) (m : ℕ) (d : Entry) → m < length es → start_at start es (suc m) ≡ (slice_index_or es m d).end
start_after start [] m d h = absurd (omega (arith, h))
start_after start (x ∷ []) zero d h = refl
start_after start (x ∷ y ∷ es) zero d h = refl
start_after start (x ∷ es) (suc m) d h = start_after x.end es m d (omega (arith, h))

false_true : false ≡ true → ⊥
false_true h = cc

-- an item that the tray may take fits into its room
pub room_for : (sessions own n : ℕ) (es : List Entry) (xs : List ℕ) (now : Things) → record { sessions = sessions; items = items_from 0 es xs } ≡ now →
    own ≡ room sessions → Rises 0 es (length xs) → n + 16 ≤ spare now → 16 * length es + length xs + n + 16 ≤ own
room_for sessions own n es xs now e h r m =
    let P : Things → Type 0 = λ t. n + 16 ≤ spare t in
    let here : n + 16 ≤ room sessions - taken (items_from 0 es xs) = subst P (sym e) m in
    omega (arith, h, here, taken_from 0 es xs r)

pub sound_more : (sessions own places new_places space new_space : ℕ) (es new_es : List Entry) (xs ys new_xs : List ℕ) (e : Entry) →
    Sound sessions own es xs places space → new_es ≡ es ++ e ∷ [] → new_xs ≡ xs ++ ys → e.end ≡ length xs + length ys →
    16 * length es + length xs + length ys + 16 ≤ own → new_places ≡ places → new_space ≡ space → Sound sessions own new_es new_xs new_places new_space
sound_more sessions own places new_places space new_space es new_es xs ys new_xs e s p q end more a b = rw (p, q, a, b) (record {
  rises = (let R : ℕ → Type 0 = λ n. Rises 0 (es ++ e ∷ []) n in subst R (end ∙ sym (length-append xs ys)) (rises_more 0 es (length xs) e s.rises (omega (arith, end))));
  counted = s.counted;
  fits = rw (length-append es (e ∷ []), length-append xs ys) (omega (arith, more));
  holds = s.holds;
  has = s.has;
})

pub view_more : (sessions : ℕ) (es new_es : List Entry) (xs ys new_xs : List ℕ) (e : Entry) (now : Things) → record { sessions = sessions; items = items_from 0 es xs } ≡ now →
    Rises 0 es (length xs) → new_es ≡ es ++ e ∷ [] → new_xs ≡ xs ++ ys → e.end ≡ length xs + length ys →
    record { sessions = sessions; items = items_from 0 new_es new_xs } ≡ record now { items = now.items ++ sent_by e.way ys ∷ [] }
view_more sessions es new_es xs ys new_xs e now v r p q end =
    let P : Things → Type 0 = λ t. record { sessions = sessions; items = items_from 0 new_es new_xs } ≡ record t { items = t.items ++ sent_by e.way ys ∷ [] } in
    subst P v (rw (p, q, items_more 0 es xs ys e r end) refl)

pub length_of : (all xs ys : List ℕ) → all ≡ xs ++ ys → length all ≡ length xs + length ys
length_of all xs ys e = rw e (length-append xs ys)

pub start_first : (es : List Entry) (n : ℕ) → n ≡ 0 → 0 ≡ start_at 0 es n
start_first [] n e = refl
start_first (x ∷ es) zero e = refl
start_first (x ∷ es) (suc n) e = cc

less_one : (m : ℕ) → suc m - 1 ≡ m
less_one m = omega arith

pub start_before : (es : List Entry) (n : ℕ) (d : Entry) → n ≢ 0 → n < length es → (slice_index_or es (n - 1) d).end ≡ start_at 0 es n
start_before es zero d e h = absurd (e refl)
start_before es (suc m) d e h = rw (less_one m) (sym (start_after 0 es m d (omega (arith, h))))

-- what was read at a place of the list of ends
pub read_at : (es from : List Entry) (n : ℕ) (e : Entry) → from ≡ es → n < length from → e ≡ slice_index_or from n e → slice_get es n ≡ Some e
read_at es from n e same below h =
    let P : List Entry → Type 0 = λ x. slice_get x n ≡ Some e in
    subst P same (slice_get_read from (length from) n e refl below h)

taken_more : (items : List Sent) (item : Sent) → taken (items ++ item ∷ []) ≡ taken items + length (octets_of item) + 16
taken_more [] item = omega arith
taken_more (x ∷ items) item = omega (arith, taken_more items item)

pub room_more : (sessions : ℕ) (es new_es : List Entry) (xs ys new_xs : List ℕ) (e : Entry) (now : Things) (own : ℕ) → record { sessions = sessions; items = items_from 0 es xs } ≡ now →
    own ≡ room sessions → Rises 0 es (length xs) → new_es ≡ es ++ e ∷ [] → new_xs ≡ xs ++ ys → e.end ≡ length xs + length ys →
    16 * length es + length xs + length ys + 16 ≤ own →
    spare (record { sessions = sessions; items = items_from 0 new_es new_xs }) + length ys + 16 ≡ spare now
room_more sessions es new_es xs ys new_xs e now own v h r p q end more =
    let P : Things → Type 0 = λ t. spare (record { sessions = sessions; items = items_from 0 new_es new_xs }) + length ys + 16 ≡ spare t in
    subst P v (rw (p, q, items_more 0 es xs ys e r end, taken_more (items_from 0 es xs) (sent_by e.way ys), octets_sent e.way ys)
    (omega (arith, h, more, taken_from 0 es xs r)))

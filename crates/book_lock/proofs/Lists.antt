-- Sums over the seats, places in the log, and numbers in a ring.
use Rattle.std.proofs.Common.{◌≡◌, ◌≢◌, ℕ, zero, suc, ◌+◌, ◌%◌, ◌^◌, ◌<◌, ◌≤◌, Bool, true, false, List, [], ◌∷◌, ◌++◌, map, length, take, set, Option, Some, All, Result, Ok, Err, IfOk, IfErr, max, append_assoc, append-nil, slice_get, refl, ap, sym, ◌∙◌, arith, length-append, mod-eq_of_lt, ◌-◌, ◌*◌, ◌/◌}
use Rattle.std.proofs.lemmas.Option.{slice_get_within}
use Rattle.std.proofs.lemmas.List.{take-append-le}
use Rattle.std.proofs.lemmas.List.Elements.{All-append}
use Rattle.std.proofs.Math.Nat.{mod-add-div', add-mod_left, add-mul-mod_self_right}
use mathlib.Core.Option.{some, some-injective, some-ne-none}
use lib.ListN.{get_elem?}
use Rattle.atomic_table.proofs.Lists.{one_turn}
use Rattle.event_record.specs.declared.TheConstants.{MOST_EVENTS}
use Rattle.event_record.specs.Entry.{Entry}
use Rattle.book_lock.specs.declared.law.Made.{Made}
use Rattle.book_lock.specs.Sums.{total, lanes_up, Each, gathered, top}
use Rattle.book_lock.specs.Places.{times_at, Stands, one_at}

module _ {A : Type 0} (f : A → ℕ) where
  pub total_set : (xs : List A) (i : ℕ) (a b : A) → get_elem? xs i ≡ some a → total f (set xs i b) + f a ≡ total f xs + f b
  total_set [] i a b e = absurd (some-ne-none a (sym e))
  total_set (x ∷ xs) zero a b e = let h : f x ≡ f a = ap f (some-injective x a e) in omega arith
  total_set (x ∷ xs) (suc i) a b e = let h = total_set xs i a b e in omega arith

  pub total_snoc : (xs : List A) (a : A) → total f (xs ++ a ∷ []) ≡ total f xs + f a
  total_snoc [] a = omega arith
  total_snoc (x ∷ xs) a = let h = total_snoc xs a in omega arith

  pub total_has : (xs : List A) (i : ℕ) (a : A) → get_elem? xs i ≡ some a → f a ≤ total f xs
  total_has [] i a e = absurd (some-ne-none a (sym e))
  total_has (x ∷ xs) zero a e = let h : f x ≡ f a = ap f (some-injective x a e) in omega arith
  total_has (x ∷ xs) (suc i) a e = let h = total_has xs i a e in omega arith

  -- where one has all, each other has nothing
  pub total_two : (xs : List A) (i j : ℕ) (a b : A) → i ≢ j → get_elem? xs i ≡ some a → get_elem? xs j ≡ some b → f a + f b ≤ total f xs
  total_two [] i j a b apart e h = absurd (some-ne-none a (sym e))
  total_two (x ∷ xs) zero zero a b apart e h = absurd (apart refl)
  total_two (x ∷ xs) zero (suc j) a b apart e h = let l = total_has xs j b h in let m : f x ≡ f a = ap f (some-injective x a e) in omega arith
  total_two (x ∷ xs) (suc i) zero a b apart e h = let l = total_has xs i a e in let m : f x ≡ f b = ap f (some-injective x b h) in omega arith
  total_two (x ∷ xs) (suc i) (suc j) a b apart e h = let l = total_two xs i j a b (λ is. apart (ap suc is)) e h in omega arith

pub total_below : {A : Type 0} (f g : A → ℕ) (xs : List A) → ((i : ℕ) (a : A) → get_elem? xs i ≡ some a → f a ≤ g a) → total f xs ≤ total g xs
total_below f g [] h = omega arith
total_below f g (x ∷ xs) h = let a = h zero x refl in let b = total_below f g xs (λ i y e. h (suc i) y e) in omega arith

-- where only one has something, it has all
pub total_one : {A : Type 0} (f : A → ℕ) (xs : List A) (i : ℕ) (a : A) → get_elem? xs i ≡ some a → ((j : ℕ) (b : A) → j ≢ i → get_elem? xs j ≡ some b → f b ≡ 0) → total f xs ≡ f a
total_one f [] i a e none = absurd (some-ne-none a (sym e))
total_one f (x ∷ xs) zero a e none =
    let z = total_zero f xs (λ j b h. none (suc j) b (λ is. omega arith) h) in let m : f x ≡ f a = ap f (some-injective x a e) in omega arith
  where
    total_zero : {A : Type 0} (f : A → ℕ) (xs : List A) → ((j : ℕ) (b : A) → get_elem? xs j ≡ some b → f b ≡ 0) → total f xs ≡ 0
    total_zero f [] h = refl
    total_zero f (x ∷ xs) h = let a = h zero x refl in let b = total_zero f xs (λ j b e. h (suc j) b e) in omega arith
total_one f (x ∷ xs) (suc i) a e none =
    let z = total_one f xs i a e (λ j b apart h. none (suc j) b (λ is. apart (let q : j ≡ i = omega arith in q)) h) in let m = none zero x (λ is. omega arith) refl in omega arith

pub each_widens : {A : Type 0} (P Q : A → Type 0) (xs : List A) → ((x : A) → P x → Q x) → Each P xs → Each Q xs
each_widens P Q [] h e = tt
each_widens P Q (x ∷ xs) h e = (h x e.0, each_widens P Q xs h e.1)

pub each_both : {A : Type 0} (P : A → Type 0) (xs ys : List A) → Each P xs → Each P ys → Each P (xs ++ ys)
each_both P [] ys e h = h
each_both P (x ∷ xs) ys e h = (e.0, each_both P xs ys e.1 h)

pub times_both : (p : ℕ) (ms ns : List Made) → times_at p (ms ++ ns) ≡ times_at p ms + times_at p ns
times_both p [] ns = omega arith
times_both p (m ∷ ms) ns = let h = times_both p ms ns in omega arith

pub get_more : {A : Type 0} (xs ys : List A) (k : ℕ) (a : A) → slice_get xs k ≡ Some a → slice_get (xs ++ ys) k ≡ Some a
get_more [] ys k a e = absurd cc
get_more (x ∷ xs) ys zero a e = e
get_more (x ∷ xs) ys (suc k) a e = get_more xs ys k a e

pub get_last : {A : Type 0} (xs : List A) (a : A) → slice_get (xs ++ a ∷ []) (length xs) ≡ Some a
get_last [] a = refl
get_last (x ∷ xs) a = get_last xs a

pub take_last : {A : Type 0} (xs ys : List A) → take (length xs) (xs ++ ys) ≡ xs
take_last [] ys = refl
take_last (x ∷ xs) ys = ap (λ zs. x ∷ zs) (take_last xs ys)

pub stands_more : (log more : List Entry) (m : Made) → Stands log m → Stands (log ++ more) m
stands_more log more m s = let inside = slice_get_within log m.place m.entry s.0 in (get_more log more m.place m.entry s.0, s.1 ∙ sym (take-append-le m.place log more (omega arith)))

pub no_bool : (b : Bool) → (b ≡ true → ⊥) → b ≡ false
no_bool true h = absurd (h refl)
no_bool false h = refl

-- two tickets of one line differ
pub apart_in_line : (s k q : ℕ) → k < q → q ≤ 3 → (s + k) % 2 ^ 64 ≡ (s + q) % 2 ^ 64 → ⊥
apart_in_line s k q less few is = let e = one_turn (s + k) (s + q) (2 ^ 64) (omega arith) (omega arith) is in omega arith

-- the next ticket
pub mod_suc : (a : ℕ) → (a % 2 ^ 64 + 1) % 2 ^ 64 ≡ (a + 1) % 2 ^ 64
mod_suc a =
    let r : ℕ = a % 2 ^ 64 in let d : ℕ = a / 2 ^ 64 in
    let split : r + d * 2 ^ 64 ≡ a = mod-add-div' a (2 ^ 64) in
    let whole : (r + 1) + d * 2 ^ 64 ≡ a + 1 = omega arith in
    sym (add-mul-mod_self_right (r + 1) d (2 ^ 64)) ∙ ap (λ n. n % 2 ^ 64) whole

-- the line, counted from the next one
pub mod_next : (s k : ℕ) → 0 < k → s < 2 ^ 64 → Dec (s + 1 < 2 ^ 64) → (s + k) % 2 ^ 64 ≡ ((s + 1) % 2 ^ 64 + (k - 1)) % 2 ^ 64
mod_next s k above small (yes inside) = ap (λ n. n % 2 ^ 64) (let e : (s + 1) % 2 ^ 64 ≡ s + 1 = mod-eq_of_lt inside in let r : ℕ = (s + 1) % 2 ^ 64 in let e' : r ≡ s + 1 = e in omega arith)
mod_next s k above small (no outside) =
    let whole : s + 1 ≡ 2 ^ 64 = omega arith in
    let none : (s + 1) % 2 ^ 64 ≡ 0 = ap (λ n. n % 2 ^ 64) whole in
    let r : ℕ = (s + 1) % 2 ^ 64 in let none' : r ≡ 0 = none in
    let far : s + k ≡ 2 ^ 64 + (k - 1) = omega arith in
    ap (λ n. n % 2 ^ 64) far ∙ (add-mod_left (2 ^ 64) (k - 1) ∙ ap (λ n. n % 2 ^ 64) (let q : k - 1 ≡ r + (k - 1) = omega arith in q))

pub times_last : (p : ℕ) (ms : List Made) (m : Made) → times_at p (ms ++ m ∷ []) ≡ times_at p ms + one_at m.place p
times_last p [] m = omega arith
times_last p (d ∷ ms) m = let h = times_last p ms m in omega arith

pub slot_same : {A : Type 0} (a b : A) (r : Option A) (xs ys : List (ℕ × Option A)) → (0, Some a) ∷ xs ≡ (0, r) ∷ ys → r ≡ Some b → a ≡ b
slot_same {A = A} a b r xs ys is has =
    let heads : ◌≡◌ {A = ℕ × Option A} (0, Some a) (0, r) = cc in
    let e : ◌≡◌ {A = Option A} (Some a) (Some b) = ap (λ (p : ℕ × Option A). p.1) heads ∙ has in
    cc

-- a list that has room for one more entry is short
pub room_left : (opening log old new : List Entry) (e : Entry) → old ≡ opening ++ log → new ≡ old ++ e ∷ [] → length new ≤ MOST_EVENTS → length log < MOST_EVENTS
room_left opening log old new e is longer short =
    let a : length old ≡ length opening + length log = ap length is ∙ length-append opening log in
    let b : length new ≡ length old + 1 = ap length longer ∙ length-append old (e ∷ []) in
    omega arith

pub gathered_snoc : {A C : Type 0} (f : A → List C) (xs : List A) (a : A) → gathered f (xs ++ a ∷ []) ≡ gathered f xs ++ f a
gathered_snoc f [] a = append-nil (f a)
gathered_snoc f (x ∷ xs) a = ap (λ l. f x ++ l) (gathered_snoc f xs a) ∙ sym (append_assoc (f x) (gathered f xs) (f a))

pub top_snoc : {A : Type 0} (f : A → ℕ) (xs : List A) (a : A) → top f (xs ++ a ∷ []) ≡ max (top f xs) (f a)
top_snoc f [] a = omega arith
top_snoc f (x ∷ xs) a = let h = top_snoc f xs a in omega arith

alone : {A : Type 0} (P : A → Type 0) (a : A) → P a → All P (a ∷ [])
alone P a q zero d e = q
alone P a q (suc k) d e = absurd (omega arith)

pub all_last : {A : Type 0} (P : A → Type 0) (xs : List A) (a : A) → All P xs → P a → All P (xs ++ a ∷ [])
all_last P xs a h p = All-append P xs (a ∷ []) h (alone P a p)

pub all_front : {A : Type 0} (P : A → Type 0) (xs : List A) (a : A) → All P (xs ++ a ∷ []) → All P xs
all_front P [] a h k d e = absurd (omega arith)
all_front P (x ∷ xs) a h zero d e = h zero d (omega arith)
all_front P (x ∷ xs) a h (suc k) d e = all_front P xs a (λ j b l. h (suc j) b (omega arith)) k d (omega arith)

pub all_end : {A : Type 0} (P : A → Type 0) (xs : List A) (a : A) → All P (xs ++ a ∷ []) → P a
all_end P [] a h = h zero a (omega arith)
all_end P (x ∷ xs) a h = all_end P xs a (λ j b l. h (suc j) b (omega arith))

-- one more is taken in
pub taken_in : {A C : Type 0} (f h : A → ℕ) (e : A → List C) (whole front : List A) (a : A) (n m : ℕ) (l : List C) → whole ≡ front ++ a ∷ []
    → (total f front + (n + f a) ≡ total f whole + n) × (gathered e front ++ (e a ++ l) ≡ gathered e whole ++ l) × (max (top h front) (max m (h a)) ≡ max (top h whole) m)
taken_in f h e whole front a n m l is = (
  (let t = ap (total f) is ∙ total_snoc f front a in omega arith),
  sym (append_assoc (gathered e front) (e a) l) ∙ ap (λ z. z ++ l) (sym (ap (gathered e) is ∙ gathered_snoc e front a)),
  (let t = ap (top h) is ∙ top_snoc h front a in omega arith),
)

-- two things that stand at one place are one
pub some_there : {A : Type 0} (xs : List A) (a b : A) → get_elem? xs 0 ≡ some a → get_elem? xs 0 ≡ some b → a ≡ b
some_there xs a b e h = some-injective a b (sym e ∙ h)

map_snoc : {A B : Type 0} (f : A → B) (xs : List A) (a : A) → map f (xs ++ a ∷ []) ≡ map f xs ++ f a ∷ []
map_snoc f [] a = refl
map_snoc f (x ∷ xs) a = ap (λ ys. f x ∷ ys) (map_snoc f xs a)

-- one more lane, in order
pub lanes_next : {A : Type 0} (f : A → ℕ) (xs ys : List A) (a : A) (n : ℕ) → ys ≡ xs ++ a ∷ [] → f a ≡ n → 1 ≤ n → map f xs ≡ lanes_up (n - 1) → map f ys ≡ lanes_up n
lanes_next f xs ys a zero is at above up = absurd (omega arith)
lanes_next f xs ys a (suc n) is at above up =
    let less : suc n - 1 ≡ n = omega arith in
    ap (map f) is ∙ (map_snoc f xs a ∙ ((λ i. (up ∙ ap lanes_up less) i ++ f a ∷ []) ∙ ap (λ k. lanes_up n ++ k ∷ []) at))

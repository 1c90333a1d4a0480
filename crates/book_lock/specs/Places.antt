-- Accepted events with their places in the list that the book gets while it is locked.
use Rattle.std.specs.Prelude.{◌≡◌, ℕ, suc, ◌+◌, ◌==◌, ◌≤◌, List, [], ◌∷◌, take, if◌then◌else◌, slice_get, nat_lt, nat_le, Some}
use Rattle.event_record.specs.Entry.{Entry}
use Rattle.book_lock.specs.declared.law.Made.{Made}

-- 1 where p is below n
abbrev pub once_below : ℕ → ℕ → ℕ
once_below p n = if nat_lt p n then 1 else 0

abbrev pub one_at : ℕ → ℕ → ℕ
one_at place p = if place == p then 1 else 0

-- how many of these have the place p
abbrev pub times_at : ℕ → List Made → ℕ
times_at p [] = 0
times_at p (m ∷ ms) = one_at m.place p + times_at p ms

-- the entry stands in the log at its place, and the list kept with it is what stands before
abbrev pub Stands : List Entry → Made → Type 0
Stands log m = (slice_get log m.place ≡ Some m.entry) × (m.before ≡ take m.place log)

-- the places rise, from n on
abbrev pub RisesFrom : ℕ → List Made → Type 0
RisesFrom n [] = Unit {0}
RisesFrom n (m ∷ ms) = (n ≤ m.place) × RisesFrom (suc m.place) ms

abbrev pub Rises : List Made → Type 0
Rises ms = RisesFrom 0 ms

-- one more among those whose places rise, before the first of a greater place
abbrev pub placed : Made → List Made → List Made
placed m [] = m ∷ []
placed m (n ∷ ns) = if nat_le m.place n.place then m ∷ (n ∷ ns) else n ∷ placed m ns

-- both in the order of their places, where the second are in that order
abbrev pub merged : List Made → List Made → List Made
merged [] ns = ns
merged (m ∷ ms) ns = placed m (merged ms ns)

-- all in the order of their places
abbrev pub in_order : List Made → List Made
in_order ms = merged ms []

abbrev pub entry_made : Made → Entry
entry_made m = m.entry

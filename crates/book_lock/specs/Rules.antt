-- The rule of the lock, and what each step tells. Word 0 is the ticket, word 1 the serving number, word 2 the number of entries,
-- and the slot has the book.
use Rattle.std.specs.Prelude.{◌≡◌, ℕ, ◌+◌, ◌-◌, ◌%◌, ◌^◌, ◌<◌, ◌≤◌, true, false, List, [], ◌∷◌, ◌++◌, length, map, max, Option, Some, None}
use mathlib.Core.Option.{some}
use mathlib.Core.Option as maybe
use lib.ListN.{get_elem?}
use Rattle.atomic_table.specs.Table.{State, Me, rest}
use Rattle.event_record.specs.Entry.{Entry}
use Rattle.switch_event.specs.Sent.{Sent}
use Rattle.book_lock.specs.declared.law.Base.{Base}
use Rattle.book_lock.specs.declared.law.Made.{Made}
use Rattle.book_lock.specs.declared.law.Turns.{Turns}
use Rattle.book_lock.specs.Sums.{total, Each}
use Rattle.book_lock.specs.Places.{once_below, times_at, Stands, Rises, merged, in_order, entry_made}

abbrev pub one_if : Option ℕ → ℕ
one_if None = 0
one_if (Some t) = 1

abbrev pub made_at : ℕ → Entry → List Entry → Made
made_at n e before = record { place = n; entry = e; before = before }

module _ {F : Type 0} where
  abbrev pub waits : Turns F → ℕ
  waits v = one_if v.ticket

  abbrev pub parts_of : Turns F → ℕ
  parts_of v = v.parts

  -- a seat with so many parts that has done nothing
  abbrev pub idle : ℕ → Base F → Turns F
  idle n x = record { parts = n; base = Some x; ticket = None; turn = false; found = []; entries = []; mark = 0 }

  abbrev pub opened : Base F → Turns F
  opened x = idle 3 x

  -- a seat that gave a part away, and the new one
  abbrev pub fewer : Turns F → Turns F
  fewer v = record v { parts = v.parts - 1 }

  abbrev pub fresh : Turns F → Turns F
  fresh v = record { parts = 1; base = v.base; ticket = None; turn = false; found = []; entries = []; mark = 0 }

  -- a seat that took another in, and that other one
  abbrev pub joined : Turns F → Turns F → Turns F
  joined v w = record {
    parts = v.parts + w.parts;
    base = v.base;
    ticket = None;
    turn = false;
    found = [];
    entries = merged w.entries v.entries;
    mark = max v.mark w.mark;
  }

  abbrev pub spent : Turns F
  spent = record { parts = 0; base = None; ticket = None; turn = false; found = []; entries = []; mark = 0 }

  abbrev pub drawn : ℕ → Turns F → Turns F
  drawn n v = record v { ticket = Some n }

  abbrev pub served : List Entry → Turns F → Turns F
  served log v = record v { turn = true; found = log }

  abbrev pub recorded : Entry → ℕ → Turns F → Turns F
  recorded e n v = record v { found = v.found ++ e ∷ []; entries = v.entries ++ made_at n e v.found ∷ [] }

  abbrev pub passed : ℕ → Turns F → Turns F
  passed mark v = record v { ticket = None; turn = false; found = []; mark = mark }

  -- after a turn whose event was accepted
  abbrev pub added : Entry → List Entry → Turns F → Turns F
  added e before v = record v { ticket = None; turn = false; found = []; entries = v.entries ++ made_at (length before) e before ∷ [] }

  -- it holds no ticket and has a part
  abbrev pub IsFree : Turns F → Type 0
  IsFree v = (v.ticket ≡ None) × (v.turn ≡ false) × (0 < v.parts)

-- a seat before and after a turn whose event was accepted: it has one entry more, at a place above those of its others, and the answer
-- and what is sent are those of the entry after the list at that turn
abbrev pub WasAccepted : {F A : Type 0} → (F → List Entry → Entry → A → Type 0) → (F → List Entry → Entry → List Sent)
    → Entry → (old new : Turns F) → A → List Sent → Type 0
WasAccepted answers sends e old new a sent =
    (before : List Entry) × (new ≡ added e before old) × Each (λ m. m.place < length before) old.entries
    × ((y : Base _) → old.base ≡ Some y → answers y.fixed (y.opening ++ before) e a × (sent ≡ sends y.fixed (y.opening ++ before) e))

-- and one whose event was refused: it notes how many entries more the list had than as the lock was opened, and nothing is sent
abbrev pub WasRefused : {F R : Type 0} → (F → ℕ → R → Type 0) → (old new : Turns F) → R → List Sent → Type 0
WasRefused refuses old new r sent =
    (n : ℕ) × (new ≡ passed n old) × (sent ≡ []) × ((y : Base _) → old.base ≡ Some y → refuses y.fixed (length y.opening + n) r)

-- what a seat knows is true: serving is word 1, q the number of tickets held, count word 2, and log all entries by place
module _ {F : Type 0} (x : Base F) (serving q count : ℕ) (log : List Entry) where
  pub record Fits (v : Turns F) : Type 0 where
    pub based : (0 < v.parts) → v.base ≡ Some x
    pub spent : v.parts ≡ 0 → (v.ticket ≡ None) × (v.entries ≡ [])
    pub range : (t : ℕ) → v.ticket ≡ Some t → (k : ℕ) × (k < q) × (t ≡ (serving + k) % 2 ^ 64)
    pub turn : v.turn ≡ true → (v.ticket ≡ Some serving) × (v.found ≡ log)
    pub made : Each (Stands log) v.entries
    pub rises : Rises v.entries
    pub mark : v.mark ≤ count

module _ {B F : Type 0} (fixed : B → F) (list : B → List Entry) where
  abbrev pub base_of : B → Base F
  base_of b = record { fixed = fixed b; opening = list b }

  -- the book has the fixed value, and stands for the list at the opening followed by the log
  abbrev pub IsBook : Base F → List Entry → B → Type 0
  IsBook x log b = (fixed b ≡ x.fixed) × (list b ≡ x.opening ++ log)

  abbrev pub NoneServed : List (Turns F) → Type 0
  NoneServed views = (seat : ℕ) (v : Turns F) → get_elem? views seat ≡ some v → v.turn ≡ false

  abbrev pub IsServed : List (Turns F) → Type 0
  IsServed views = (seat : ℕ) × (v : Turns F) × (get_elem? views seat ≡ some v) × (v.turn ≡ true)

  -- the slot is at home exactly where no seat has the turn
  pub record Kept (x : Base F) (s : State (Option B) (Turns F)) : Type 0 where
    pub ticket : ℕ
    pub serving : ℕ
    pub count : ℕ
    pub log : List Entry
    pub words : s.words ≡ ticket ∷ serving ∷ count ∷ []
    pub one_slot : length s.homes ≡ 1
    pub parts : total parts_of s.views ≡ 3
    pub line : ticket ≡ (serving + total waits s.views) % 2 ^ 64
    pub small : serving < 2 ^ 64
    pub counted : length log ≡ count
    pub once : (p : ℕ) → total (λ v. times_at p v.entries) s.views ≡ once_below p count
    pub seats : (seat : ℕ) (v : Turns F) → get_elem? s.views seat ≡ some v → Fits x serving (total waits s.views) count log v
    pub differ : (j k : ℕ) (v w : Turns F) (t : ℕ) → get_elem? s.views j ≡ some v → get_elem? s.views k ≡ some w
        → v.ticket ≡ Some t → w.ticket ≡ Some t → j ≡ k
    pub home : NoneServed s.views → (b : B) × (s.homes ≡ some (Some b) ∷ []) × IsBook x log b
    pub away : IsServed s.views → s.homes ≡ maybe.none ∷ []

  abbrev Sat : Type 0
  Sat = Me (Option B) (Turns F)

  -- where the serving word is this seat's ticket, it has the turn, and the book
  abbrev pub Looked : Sat → ℕ → Sat → Type 0
  Looked me n after = (t : ℕ) → me.0.ticket ≡ Some t
      → (n ≡ t → (b : B) × (log : List Entry) × (after ≡ (served log me.0, (0, Some b) ∷ me.1))
      × ((x : Base F) → me.0.base ≡ Some x → IsBook x log b))
      × (¬ (n ≡ t) → after ≡ me)

  -- the seat has the turn, and the book was taken out of its slot
  pub record Taken (v : Turns F) (after : Sat) (b : B) : Type 0 where
    pub log : List Entry
    pub is : after ≡ (served log v, (0, None) ∷ [])
    pub book : (y : Base F) → v.base ≡ Some y → IsBook y log b

  -- the seat has the turn, and holds the book that is to be given back
  pub record Holds (me : Sat) : Type 0 where
    pub b : B
    pub on : me.0.turn ≡ true
    pub some_part : 0 < me.0.parts
    pub is : me.1 ≡ (0, Some b) ∷ []
    pub book : (y : Base F) → me.0.base ≡ Some y → IsBook y me.0.found b

module _ {S F : Type 0} where
  abbrev pub Drawn : Me S (Turns F) → ℕ → Me S (Turns F) → Type 0
  Drawn me n after = after ≡ (drawn n me.0, me.1)

  abbrev pub Recorded : Entry → Me S (Turns F) → ℕ → Me S (Turns F) → Type 0
  Recorded e me n after =
      (after ≡ (recorded e n me.0, me.1)) × (n ≡ length me.0.found) × Each (λ m. m.place < n) me.0.entries

  abbrev pub Passed : ℕ → Me S (Turns F) → Me S (Turns F) → Type 0
  Passed mark me after = after ≡ (passed mark me.0, rest me.1)

-- what is known of the book that comes back. The entries of the seats are all that was added to its list, each once, and in the order
-- of their places they are just that
module _ {B F : Type 0} (fixed : B → F) (list : B → List Entry) where
  pub record Whole (x : Base F) (entries : List Made) (highest : ℕ) (b : B) : Type 0 where
    pub log : List Entry
    pub book : IsBook fixed list x log b
    pub made : Each (Stands log) entries
    pub once : (p : ℕ) → times_at p entries ≡ once_below p (length log)
    pub all : map entry_made (in_order entries) ≡ log
    pub mark : highest ≤ length log

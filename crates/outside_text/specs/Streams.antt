-- One octet that is read, and a text that is written.
use Rattle.std.specs.Prelude.{◌≡◌, ◌<◌, ◌≤◌, ℕ, List, [], ◌∷◌, length, take, Option, Some, None, Result, Ok, Err}
use Rattle.std.specs.Io.KnownBytes.{Appends, Keeps, Consumes, IsAtEnd}
use Rattle.std.specs.Borrow.{Bor}
use Rattle.wire_defs.specs.Outside.{Rose}
use Rattle.outside_core.specs.Lines.{StopsAtFeed}

-- one octet was read; none is answered exactly at the end
abbrev pub GivesOctet : {E : Type 0} → Option (List ℕ) → Option (List ℕ) → Result (Option ℕ) E
    → Type 0
GivesOctet old new (Ok None) = Keeps old new × IsAtEnd new
GivesOctet old new (Ok (Some octet)) = Consumes old new (octet ∷ [])
GivesOctet old new (Err e) = Keeps old new

-- a piece of one line was read; it is empty exactly at the end
abbrev pub GivesPiece : {E : Type 0} → Option (List ℕ) → Option (List ℕ)
    → Result (Bor (List ℕ)) E → Type 0
GivesPiece old new (Ok piece) = Consumes old new piece.now
    × (piece.now ≡ [] → IsAtEnd new) × StopsAtFeed (length piece.now) piece.now
GivesPiece old new (Err e) = Keeps old new

-- the text was taken, or at a failure a proper prefix of it
abbrev pub TakesWhole : {A E : Type 0} → Option (List ℕ) → Option (List ℕ) → List ℕ → Result A E
    → Type 0
TakesWhole old new text (Ok a) = Appends old new text
TakesWhole old new text (Err e) = (n : ℕ) × (n < length text) × Appends old new (take n text)

-- a prefix of the text was taken, and all of it where the count of faults did not rise
pub record Says (old new : Option (List ℕ)) (before now : ℕ) (text : List ℕ) : Type 0 where
  pub part : (n : ℕ) × (n ≤ length text) × Appends old new (take n text)
  pub whole : (Rose before now → ⊥) → Appends old new text

-- What is kept of a line.
use Rattle.std.specs.Prelude.{ℕ, ◌==◌, if◌then◌else◌, List, [], ◌∷◌, ◌++◌, take, drop}

-- a carriage return stands for itself where nothing follows it, and an x for it and what follows
abbrev pub return_before : List ℕ → ℕ
return_before [] = 13
return_before (octet ∷ rest) = 120

-- the octet that stands for the rest of a line: a space for spaces, and else the first octet that is no space
abbrev pub stand_in : List ℕ → ℕ
stand_in [] = 32
stand_in (octet ∷ rest) = if octet == 32 then stand_in rest else if octet == 13 then return_before rest else octet

-- one octet for the rest of a line, and none where there is no rest
abbrev pub stood_for : List ℕ → List ℕ
stood_for [] = []
stood_for (octet ∷ rest) = stand_in (octet ∷ rest) ∷ []

-- so many octets of a line, and one that stands for the rest
unfoldable pub kept_in : (room : ℕ) → List ℕ → List ℕ
kept_in room line = take room line ++ stood_for (drop room line)

-- what is kept of a line: a line that may be read has at most 10,240 octets and a carriage return, and one octet more tells
-- whether it is longer
unfoldable pub kept_of : List ℕ → List ℕ
kept_of line = kept_in 10241 line

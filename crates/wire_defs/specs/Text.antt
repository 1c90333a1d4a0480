-- Lines and words of a text, as lists of octets.
use Rattle.std.specs.Prelude.{ℕ, ◌==◌, nat_lt, if◌then◌else◌, List, [], ◌∷◌, ◌++◌, length, filter}
use Rattle.std.specs.List.{slice_split}

-- the lines that a line feed ends in a text, where part stands before the text
abbrev pub ended_after : List ℕ → List ℕ → List (List ℕ)
ended_after part [] = []
ended_after part (octet ∷ rest) = if octet == 10 then part ∷ ended_after [] rest else ended_after (part ++ octet ∷ []) rest

-- what follows the last line feed of a text, where part stands before the text
abbrev pub open_after : List ℕ → List ℕ → List ℕ
open_after part [] = part
open_after part (octet ∷ rest) = if octet == 10 then open_after [] rest else open_after (part ++ octet ∷ []) rest

-- the lines of a text that end with a line feed, without it
abbrev pub ended_lines : List ℕ → List (List ℕ)
ended_lines text = ended_after [] text

-- what follows the last line feed of a text
abbrev pub open_line : List ℕ → List ℕ
open_line text = open_after [] text

-- what follows the last line feed is a line where it holds an octet
abbrev pub last_line : List ℕ → List (List ℕ)
last_line [] = []
last_line (octet ∷ rest) = (octet ∷ rest) ∷ []

-- the words of a line: runs of octets other than the space
abbrev pub words : List ℕ → List (List ℕ)
words line = filter (λ word. nat_lt 0 (length word)) (slice_split (λ octet. octet == 32) line)

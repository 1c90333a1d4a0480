-- A line that comes in pieces, of which the beginning is kept in place of the line.
use Rattle.std.specs.Prelude.{◌≡◌, ℕ, ◌+◌, ◌==◌, Bool, if◌then◌else◌, List, [], ◌∷◌, ◌++◌, Option, option_map, position}
use Rattle.wire_defs.specs.Text.{ended_lines, open_line, last_line}
use Rattle.switch_event.specs.Config.{Config}
use Rattle.trace_defs.specs.Line.{line_of}

-- two beginnings of a line are read alike under all settings, whatever follows them, and neither is
-- empty without the other
pub record ReadAlike (kept line : List ℕ) : Type 0 where
  pub alike : (config : Config) (given : ℕ) (begun : Bool) (more : List ℕ)
      → line_of config given begun (kept ++ more) ≡ line_of config given begun (line ++ more)
  pub none : kept ≡ [] → line ≡ []
  pub some : line ≡ [] → kept ≡ []

-- lines of one text and of another, one after the other, are read alike
abbrev pub AreReadAlike : (kept lines : List (List ℕ)) → Type 0
AreReadAlike [] [] = Unit {0}
AreReadAlike [] (line ∷ lines) = ⊥
AreReadAlike (text ∷ kept) [] = ⊥
AreReadAlike (text ∷ kept) (line ∷ lines) = ReadAlike text line × AreReadAlike kept lines

-- of a text that was fed so far: what is kept of each line that it ended, in order, and what is
-- kept of its open line
pub record IsFed (fed : List ℕ) (lines : List (List ℕ)) (kept : List ℕ) : Type 0 where
  pub each_line : AreReadAlike lines (ended_lines fed)
  pub begun_line : ReadAlike kept (open_line fed)

-- the lines of a text: what follows the last line feed is one where it holds an octet
abbrev pub all_lines : List ℕ → List (List ℕ)
all_lines text = ended_lines text ++ last_line (open_line text)

-- what a reader of lines holds: what is kept of a line so far, and whether a line feed has ended it
pub record Held : Type 0 where
  pub text : List ℕ
  pub ended : Bool

abbrev pub is_line_feed : ℕ → Bool
is_line_feed octet = octet == 10

-- how many octets stand up to the first line feed of a piece of text, with it
abbrev pub len_to_feed : List ℕ → Option ℕ
len_to_feed piece = option_map (λ at. at + 1) (position is_line_feed piece)

-- where there is no more room, the last octet that is kept stands for the rest of a line: a space
-- for spaces, a carriage return for one that may be the last octet, and else an octet that neither
-- is
abbrev pub stand_in_with : (last octet : ℕ) → ℕ
stand_in_with last octet = if last == 32 then octet else if last == 13 then 120 else last

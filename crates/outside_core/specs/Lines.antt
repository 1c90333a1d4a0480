-- Octets that are read up to the end of a line.
use Rattle.std.specs.Prelude.{ℕ, ◌+◌, ◌<◌, ◌≡◌, ◌==◌, min, List, length, get_or}
use Rattle.std.specs.List.{position_or_len}

-- how many octets stand up to the first line feed, with it; all where there is none
abbrev pub line_length : List ℕ → ℕ
line_length octets = min (position_or_len (λ octet. octet == 10) octets + 1) (length octets)

-- of the first n octets of a buffer only the last may be a line feed
abbrev pub StopsAtFeed : ℕ → List ℕ → Type 0
StopsAtFeed n buf = (at : ℕ) → at < n → get_or buf at 0 ≡ 10 → at + 1 ≡ n

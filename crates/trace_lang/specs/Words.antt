-- Parts of a text, as a cursor finds them.
use Rattle.std.specs.Prelude.{◌≡◌, ◌≢◌, ◌≤◌, ◌<◌, ℕ, List, length, slice_index}

-- so many octets stand before the first separator
pub record IsPartLen (separator : ℕ) (text : List ℕ) (n : ℕ) : Type 0 where
  pub within : n ≤ length text
  pub before : (k : ℕ) → k < n → slice_index text k ≢ separator
  pub end : n < length text → slice_index text n ≡ separator

-- What a call makes of a count of faults.
use Rattle.std.specs.Prelude.{ℕ, Result, Ok, Err}
use Rattle.wire_defs.specs.Outside.{risen}

-- it rises exactly where the call failed
abbrev pub count_after : {T E : Type 0} → Result T E → (before : ℕ) → ℕ
count_after (Ok done) before = before
count_after (Err e) before = risen before

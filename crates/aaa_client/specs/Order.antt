-- Lists in rising order of a number of their elements.
use Rattle.std.specs.Prelude.{ℕ, suc, ◌<◌, nat_lt, List, [], ◌∷◌, if◌then◌else◌}
use Rattle.std.specs.List.{AllByRecursion}
use Rattle.aaa_defs.specs.declared.TheConstants.{NAMES}
use Rattle.aaa_defs.specs.Waits.{RisesBy}
use Rattle.aaa_client.specs.declared.order.Entry.{Entry}

-- how many stand before the place of a number
abbrev pub below : {X : Type 0} → (X → ℕ) → ℕ → List X → ℕ
below number n [] = 0
below number n (x ∷ rest) = if nat_lt (number x) n then suc (below number n rest) else 0

abbrev pub session_of : Entry → ℕ
session_of e = e.session

abbrev pub Rising : List Entry → Type 0
Rising entries = RisesBy session_of entries

-- the sessions rise, and each name is one
pub record IsOrder (entries : List Entry) : Type 0 where
  pub rising : Rising entries
  pub names : AllByRecursion (λ e. e.name < NAMES) entries

-- What a step of a session leaves as it was.
use Rattle.std.proofs.Common.{◌≡◌, ℕ, suc, ◌+◌, ◌≤◌, List, [], ◌∷◌, ◌++◌, length, filter, None, Bool, ◌-◌}
use Rattle.std.specs.Prelude.{find}
use Rattle.switch_defs.specs.Switch.{Host, is_at, most_hosts, State, hosts}
use Rattle.switch_defs.specs.Sound.{host_on}
use Rattle.switch_defs.specs.Turn.{opened}

-- what can happen to them: some are closed, one is opened under the next number at a port and an address that nobody has
pub data Moves : List Host → ℕ → List Host → ℕ → Type 0 where
  stays : {hs : List Host} {n : ℕ} → Moves hs n hs n
  drops : {hs gs : List Host} {n m : ℕ} (keep : Host → Bool) → Moves (filter keep hs) n gs m → Moves hs n gs m
  opens : {hs gs : List Host} {n m : ℕ} (port : ℕ) (address : List ℕ) → find (is_at port address) hs ≡ None → suc (length (filter (host_on port) hs)) ≤ most_hosts →
      Moves (hs ++ record { number = n; port = port; address = address } ∷ []) (n + 1) gs m → Moves hs n gs m

-- a record, so that the states can be left out
pub record Moved (s t : State) : Type 0 where
  pub by : Moves (hosts s) s.next (hosts t) t.next

-- The places of the numbers before this one are there.
use Rattle.std.proofs.Common.{◌≡◌, ◌<◌, ℕ, length, get_or, None}
use Rattle.switch_ports.specs.Index.{place_of}
use Rattle.switch_ports.proofs.ports.places_of.Given as goal

abbrev pub invariant-loop-n : goal.invariant-loop-n
invariant-loop-n l = record { size : length l.places ≡ 61; known : (m : ℕ) → m < l.n-counter → get_or l.places m None ≡ place_of m l.ports }

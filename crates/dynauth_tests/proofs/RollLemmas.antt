-- A roll of two sessions at most.
use Rattle.std.proofs.Common.{◌≡◌, ℕ, zero, suc, ◌<◌, ◌≤◌, true, [], ◌∷◌, take, refl, arith}
use Rattle.std.specs.List.Sorted.{IsStrictlyIncreasing}
use Rattle.dynauth_defs.specs.Session.{Row}
use Rattle.dynauth_server.specs.Roll.{IsRoll, is_identity}

one_rises : (n : ℕ) → IsStrictlyIncreasing (n ∷ [])
one_rises n k within = absurd (omega (arith, within))

two_rise : (n m : ℕ) → n < m → IsStrictlyIncreasing (n ∷ m ∷ [])
two_rise n m less zero within = less
two_rise n m less (suc k) within = absurd (omega (arith, within))

pub is_roll-two : (len : ℕ) (x y : Row) → len ≤ 2 → x.number < y.number → is_identity x.identity ≡ true → is_identity y.identity ≡ true → IsRoll (take len (x ∷ y ∷ []))
is_roll-two zero x y few less first second = record { rises = λ k within. absurd (omega (arith, within)); identities = refl }
is_roll-two (suc zero) x y few less first second = record { rises = one_rises x.number; identities = rw first refl }
is_roll-two (suc (suc zero)) x y few less first second = record { rises = two_rise x.number y.number less; identities = rw (first, second) refl }
is_roll-two (suc (suc (suc n))) x y few less first second = absurd (omega arith)

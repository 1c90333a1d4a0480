-- What is held, once a change of one value in its place has ended.
use Rattle.std.specs.Prelude.{ℕ, List, Option}
use Rattle.std.specs.Borrow.{Fml, RattleType, MutBor, Lends, LendsIf}
use Rattle.session_table.specs.Slots.{Entry, renewed}
use Rattle.session_table.specs.contracts.slots.Slots.{the_row}

module _ (T : RattleType) (s : MutBor (List (Entry T.Denot))) (at : ℕ) where
  -- the place has the last value written
  abbrev pub lends_value : MutBor T.Denot → Fml
  lends_value r = Lends (the_row T) T s r (λ w. renewed at w s.now)

  -- the same where something is held there, and else nothing changes
  abbrev pub lends_get : Option (MutBor T.Denot) → Fml
  lends_get r = LendsIf (the_row T) T s r (λ w. renewed at w s.now) s.now

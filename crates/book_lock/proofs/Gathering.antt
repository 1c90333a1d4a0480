-- What the seats have that were taken in.
use Rattle.std.proofs.Common.{◌≡◌, ℕ, ◌+◌, List, ◌++◌, sym, ap, ◌∙◌, subst, arith}
use Rattle.event_record.specs.Entry.{Entry}
use Rattle.book_lock.specs.declared.law.Made.{Made}
use Rattle.book_lock.specs.Sums.{Each}
use Rattle.book_lock.specs.Places.{times_at, Stands, merged}
use Rattle.book_lock.proofs.Lists.{times_both, each_both}
use Rattle.book_lock.proofs.Merging.{times_merged, merged_each}

-- the entries of the front and those that were taken in are all
pub record Has (all front taken : List Made) : Type 0 where
  pub times : (p : ℕ) → times_at p all ≡ times_at p front + times_at p taken
  pub stand : (log : List Entry) → Each (Stands log) front → Each (Stands log) taken → Each (Stands log) all

pub has_first : (all front own : List Made) → all ≡ front ++ own → Has all front own
has_first all front own is = record {
  times = λ p. ap (times_at p) is ∙ times_both p front own;
  stand = λ log a b. subst (Each (Stands log)) (sym is) (each_both (Stands log) front own a b);
}

-- one more is taken in
pub has_next : (all front rest own taken : List Made) → front ≡ rest ++ own → Has all front taken → Has all rest (merged own taken)
has_next all front rest own taken is h = record {
  times = λ p. (let a = h.times p in let b = ap (times_at p) is ∙ times_both p rest own in let d = times_merged p own taken in omega arith);
  stand = λ log a b. let parts = merged_each (Stands log) own taken b in h.stand log (subst (Each (Stands log)) (sym is) (each_both (Stands log) rest own a parts.0)) parts.1;
}

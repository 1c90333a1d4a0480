use Rattle.std.proofs.Common.{rules, ◌≡◌, ◌+◌, [], ◌∷◌, ◌++◌, All, max, sym, ap, ◌∙◌, subst, arith}
use Rattle.book_lock.specs.Sums.{total, gathered, top, Each}
use Rattle.book_lock.specs.Places.{Stands}
use Rattle.book_lock.specs.Rules.{joined}
use Rattle.book_lock.proofs.Lists.{all_front, all_end, taken_in, gathered_snoc}
use Rattle.book_lock.proofs.Gathering.{Has, has_first, has_next}
use Rattle.book_lock.proofs.Keeping.{joins}
use Rattle.book_lock.proofs.lock.gather.Goals as goal

pub loop-seat-init : goal.loop-seat-init
loop-seat-init g c =
    let chair = c.into_chair-chair.result in
    let seat = c.unwrap.result in
    let front = c.pop.new.self.items in
    let is : c.args.seats.items ≡ front ++ seat ∷ [] = search rules in
    let same : chair ≡ seat.chair = c.into_chair-chair.ensures.same in
    let all : All (λ s. s.chair.table_id ≡ c.args.desk.now.table_id) (front ++ seat ∷ []) = subst (All (λ s. s.chair.table_id ≡ c.args.desk.now.table_id)) is c.requires.lock in
    let one = taken_in (λ s. s.chair.me.0.parts) (λ s. s.chair.me.0.mark) (λ s. s.chair.me.0.entries) c.args.seats.items front seat 0 0 [] is in
    let parts : total (λ s. s.chair.me.0.parts) front + chair.me.0.parts ≡ 3 =
    (let a = one.0 in let b = c.requires.parts in let d : chair.me.0.parts ≡ seat.chair.me.0.parts = ap (λ (z : _). z.me.0.parts) same in omega arith) in (
      ap (λ (z : _). z.table_id) same ∙ all_end (λ s. s.chair.table_id ≡ c.args.desk.now.table_id) front seat all,
      c.into_chair-chair.ensures.free.0,
      c.into_chair-chair.ensures.free.1,
      all_front (λ s. s.chair.table_id ≡ c.args.desk.now.table_id) front seat all,
      parts,
      has_first _ _ _ (ap (gathered (λ s. s.chair.me.0.entries)) is ∙ (gathered_snoc (λ s. s.chair.me.0.entries) front seat ∙ ap (λ (z : _). gathered (λ s. s.chair.me.0.entries) front ++ z.me.0.entries) (sym same))),
      (let a = one.2 in let d : chair.me.0.mark ≡ seat.chair.me.0.mark = ap (λ (z : _). z.me.0.mark) same in omega arith),
    )

pub join_seat-requires : goal.join_seat-requires
join_seat-requires g c =
    let i = c.loop-seat.invariant in
    let seat = c.in-Some.seat in
    let same = c.into_chair.ensures.same in
    let all : All (λ s. s.chair.table_id ≡ c.args.desk.now.table_id) (c.pop-in-loop-seat.new.self.items ++ seat ∷ []) = subst (All (λ s. s.chair.table_id ≡ c.args.desk.now.table_id)) c.in-Some.ensures.items i.3 in (
      i.0,
      ap (λ (z : _). z.table_id) same ∙ all_end (λ s. s.chair.table_id ≡ c.args.desk.now.table_id) c.pop-in-loop-seat.new.self.items seat all,
      c.into_chair.ensures.free.1,
      (let w = c.requires.table in omega arith),
      joins g.B.Booked.fixed g.B.Booked.list _ _ c.loop-seat.chair.me.0 _ c.into_chair.result.me.0 i.1.2 i.1.0 c.into_chair.ensures.free.0.0,
    )

pub loop-seat-preserved : goal.loop-seat-preserved
loop-seat-preserved g c =
    let i = c.loop-seat.invariant in
    let seat = c.in-Some.seat in
    let front = c.pop-in-loop-seat.new.self.items in
    let v = c.loop-seat.chair.me.0 in
    let same = c.into_chair.ensures.same in
    let is = c.in-Some.ensures.items in
    let all : All (λ s. s.chair.table_id ≡ c.args.desk.now.table_id) (front ++ seat ∷ []) = subst (All (λ s. s.chair.table_id ≡ c.args.desk.now.table_id)) is i.3 in
    let now = c.join_seat.ensures.2 in
    let view : c.join_seat.new.seat.me.0 ≡ joined v seat.chair.me.0 = ap (λ m. m.0) now ∙ ap (λ (z : _). joined v z.me.0) same in
    let one = taken_in (λ s. s.chair.me.0.parts) (λ s. s.chair.me.0.mark) (λ s. s.chair.me.0.entries) c.loop-seat.seats.items front seat v.parts v.mark v.entries is in
    let some_part = i.1.2 in
    let parts : c.join_seat.new.seat.me.0.parts ≡ v.parts + seat.chair.me.0.parts = ap (λ z. z.parts) view in (
      c.join_seat.ensures.0 ∙ i.0,
      (ap (λ z. z.ticket) view, ap (λ z. z.turn) view, (let p = parts in omega arith)),
      ap (λ m. m.1) now ∙ i.2,
      all_front (λ s. s.chair.table_id ≡ c.args.desk.now.table_id) front seat all,
      (let p = parts in let a = one.0 in let b = i.4 in omega arith),
      subst (Has _ _) (sym (ap (λ z. z.entries) view)) (has_next _ _ _ seat.chair.me.0.entries v.entries (ap (gathered (λ s. s.chair.me.0.entries)) is ∙ gathered_snoc (λ s. s.chair.me.0.entries) front seat) i.5),
      ap (λ z. max (top (λ s. s.chair.me.0.mark) front) z.mark) view ∙ (one.2 ∙ i.6),
    )

pub returns-clause-stand : goal.returns-clause-stand
returns-clause-stand g c log e =
    let none : c.loop-seat.seats.items ≡ [] = search rules in
    let all = ap (gathered (λ s. s.chair.me.0.entries)) none in
    c.loop-seat.invariant.5.stand log (subst (Each (Stands log)) (sym all) tt) e

use Rattle.std.proofs.Common.{rules, ◌≡◌, List, Option, [], ◌∷◌, Some, sym, ap, ◌∙◌, subst}
use Rattle.atomic_table.specs.Table.{opening}
use Rattle.book_lock.specs.Rules.{base_of, opened, Kept}
use Rattle.book_lock.proofs.Keeping.{starts}
use Rattle.book_lock.proofs.lock.BookLock.open.Goals as goal

pub new-requires : goal.new-requires
new-requires g c =
    let f = g.B.Booked.fixed in let l = g.B.Booked.list in
    let items : c.push.new.self.items ≡ Some c.args.book ∷ [] = search rules in
    let same = c.of-about.ensures in
    subst (λ (z : g.row.B.Denot × List (Option g.row.B.Denot)). Kept f l (base_of f l z.0) (opening (0 ∷ 0 ∷ 0 ∷ []) z.1 (opened (base_of f l z.0)))) (λ i. (sym same i, sym items i)) (starts f l c.args.book)

pub returns-in-Ok-new-clause-seats : goal.returns-in-Ok-new-clause-seats
returns-in-Ok-new-clause-seats g c k d below =
    let h = c.deal.ensures.seats k d below in
    let key : c.in-Ok-new.table.shared.key.value ≡ c.args.book = search rules in
    (h.0, h.1 ∙ ap (λ b. Some (base_of g.B.Booked.fixed g.B.Booked.list b)) key, h.2, h.3)

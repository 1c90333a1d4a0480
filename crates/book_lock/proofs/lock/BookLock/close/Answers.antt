use Rattle.std.proofs.Common.{rules, ◌≡◌, Some}
use Rattle.book_lock.specs.Rules.{base_of}
use Rattle.book_lock.proofs.Lists.{some_there}
use Rattle.book_lock.proofs.Keeping.{closes, gathers}
use Rattle.book_lock.proofs.lock.BookLock.close.Goals as goal

pub unwrap-book-requires : goal.unwrap-book-requires
unwrap-book-requires g c =
    let f = g.B.Booked.fixed in let l = g.B.Booked.list in
    let got = closes f l (base_of f l c.args.self.table.shared.key.value) _ c.gather-chair.result.me.0 _ _ c.gather-chair.ensures.parts c.gather-chair.ensures.free.0.0 c.close_with-closed.ensures.values.2 in
    let is : c.take.result ≡ Some got.0 = some_there _ _ _ c.take.ensures.value got.1 in
    search rules

pub returns : goal.returns
returns g c =
    let f = g.B.Booked.fixed in let l = g.B.Booked.list in
    let x = base_of f l c.args.self.table.shared.key.value in
    let got = closes f l x _ c.gather-chair.result.me.0 _ _ c.gather-chair.ensures.parts c.gather-chair.ensures.free.0.0 c.close_with-closed.ensures.values.2 in
    let is : c.take.result ≡ Some got.0 = some_there _ _ _ c.take.ensures.value got.1 in
    let same : got.0 ≡ c.unwrap-book.result = search rules in
    gathers f l x _ _ _ _ got.0 c.unwrap-book.result got.2 c.gather-chair.ensures.times c.gather-chair.ensures.stand c.gather-chair.ensures.mark same

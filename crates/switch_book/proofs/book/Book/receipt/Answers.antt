use Rattle.switch_book.proofs.book.Book.receipt.Goals as goal

pub invariant_of-self : goal.invariant_of-self
invariant_of-self g c =
    let kept = c.self.invariant in
    let same = c.receipt.ensures.same in
    rw same kept

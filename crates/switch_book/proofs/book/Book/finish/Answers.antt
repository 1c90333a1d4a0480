use Rattle.std.proofs.Common.{rules, ◌≡◌}
use Rattle.switch_book.proofs.Telling.{kept_open, kept_finished}
use Rattle.switch_book.proofs.book.Book.finish.Goals as goal

pub finish-requires : goal.finish-requires
finish-requires g c =
    kept_open g.A.Authenticator.stands g.A.Authenticator.made _ _ _ _ c.self.invariant c.if-self.false

pub invariant_of-self : goal.invariant_of-self
invariant_of-self g c =
    kept_finished g.A.Authenticator.stands g.A.Authenticator.made _ _ _ _ c.self.invariant c.if-self.false c.finish.new.self.name c.finish.new.self.list c.finish.new.self.first c.in-Ok.ensures.published c.finish.ensures.same.1

pub invariant_of-self-in-Err : goal.invariant_of-self-in-Err
invariant_of-self-in-Err g c =
    let kept = c.self.invariant in
    let same : c.finish.new.self ≡ c.self.inside.publisher = search rules in
    search (rules, same, kept)

use Rattle.std.proofs.Common.{◌≡◌, ◌+◌, ◌-◌, ◌≤◌, ◌++◌, length, take, drop, min, sym, ap, ◌∙◌, arith, length-drop}
use Rattle.std.proofs.lemmas.List.{length-take-le}
use Rattle.outside_core.proofs.Moves.{moved, range_later}
use Rattle.outside_core.proofs.ahead.Ahead.give_many.Goals as goal

pub returns-clause-octets : goal.returns-clause-octets
returns-clause-octets c =
    let at = c.self.inside.at in
    let n = c.min-count.result in
    let rest = take (c.self.inside.end - at) (drop at c.self.inside.octets) in
    let copied = c.copy_from_slice.new.self in
    let seen : rest ≡ c.args.self.now = c.self.view_is in
    let after : copied ≡ take n rest = c.copy_from_slice.ensures.after in
    let least : n ≡ min (length rest) (length c.args.buf.now) = c.min-count.ensures in
    let bound : n ≤ length rest = omega arith in
    let long : length rest ≡ c.self.inside.end - at =
    length-take-le (c.self.inside.end - at) (drop at c.self.inside.octets) (omega (arith, length-drop at c.self.inside.octets, c.self.told, c.self.invariant.1)) in
    let later : at + n ≤ c.self.inside.end = omega (arith, c.self.invariant.0) in
    sym seen ∙ moved rest copied (drop n c.args.buf.now) n after bound
    ∙ ap (λ l. take n (copied ++ drop n c.args.buf.now) ++ l) (range_later c.self.inside.octets at c.self.inside.end n later)

use Rattle.std.proofs.Common.{◌≡◌, ◌-◌, length, take, drop, min, ap, ◌∙◌, arith, length-take}
use Rattle.outside_core.specs.Lines.{line_length}
use Rattle.outside_core.proofs.Feeds.{line_of_part}
use Rattle.outside_core.proofs.ahead.Ahead.give_line.Goals as goal

pub returns-clause-most : goal.returns-clause-most
returns-clause-most c =
    let rest = take (c.self.inside.end - c.self.inside.at) (drop c.self.inside.at c.self.inside.octets) in
    let part : c.line_len-count.result ≡ min (line_length rest) c.min.result =
    c.line_len-count.ensures.value ∙ line_of_part c.min.result rest in
    omega (arith, part, ap length c.self.view_is, ap line_length c.self.view_is, c.give_many.ensures.most, c.min.ensures, length-take c.line_len-count.result c.args.buf.now)

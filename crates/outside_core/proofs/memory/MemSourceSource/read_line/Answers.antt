use Rattle.std.proofs.Common.{◌≡◌, ◌≤◌, ◌-◌, length, min, take, drop, take_all, ap, ◌∙◌, subst, arith, length-drop, length-take}
use Rattle.std.proofs.lemmas.List.{nil_from_length, length-take-le}
use Rattle.outside_core.specs.Lines.{StopsAtFeed, line_length}
use Rattle.outside_core.proofs.Feeds.{line_of_part, read_front, read_most, read_stops}
use Rattle.outside_core.proofs.memory.MemSourceSource.read_line.Goals as goal

-- the octets that the source has
held : (c : goal.After-slice_known-2-1) → take (length c.deref.result.now - c.self.inside.at) (drop c.self.inside.at c.deref.result.now) ≡ c.args.self.now.left
held c =
    let at = c.self.inside.at in
    let octets = c.deref.result.now in
    take_all (length octets - at) (drop at octets) (omega (arith, length-drop at octets)) ∙ ap (drop at) c.deref.ensures.value ∙ ap (λ v. v.left) c.self.view_is

long : (c : goal.After-slice_known-2-1) → c.line_len-count.result ≤ c.min-most.result
long c = omega (arith, c.line_len-count.ensures.most, length-take c.min-most.result (take (length c.deref.result.now - c.self.inside.at) (drop c.self.inside.at c.deref.result.now)))

front : (c : goal.After-slice_known-2-1) → length c.read.new.buf ≡ c.line_len-count.result
front c = c.read.auto.buf ∙ length-take-le c.line_len-count.result c.args.buf.now (omega (arith, long c, c.min-most.ensures))

pub returns-clause-octets : goal.returns-clause-octets
returns-clause-octets c = read_front c.read.result c.args.self.now.left c.read.new.self.left c.read.new.buf _ c.read.ensures.bound c.read.ensures.octets (λ zero room.
    let rest = take (length c.deref.result.now - c.self.inside.at) (drop c.self.inside.at c.deref.result.now) in
    let none = ap length (c.line_len-count.ensures.some (omega (arith, zero, front c))) in
    nil_from_length c.args.self.now.left (omega (arith, ap length (held c), none, length-take c.min-most.result rest, c.min-most.ensures, room, zero, length-drop c.line_len-count.result c.args.buf.now)))

pub returns-clause-line : goal.returns-clause-line
returns-clause-line c = read_stops c.read.result c.line_len-count.result c.min-most.result c.args.self.now.left c.read.new.self.left c.read.new.buf _ c.read.ensures.bound c.read.ensures.octets (front c) (long c)
    (subst (λ l. StopsAtFeed c.line_len-count.result (take c.min-most.result l)) (held c) c.line_len-count.ensures.line)

pub returns-clause-most : goal.returns-clause-most
returns-clause-most c =
    let count = c.line_len-count.result in
    let most = c.min-most.result in
    let fits : length (take count c.args.buf.now) ≡ count = length-take-le count c.args.buf.now (omega (arith, long c, c.min-most.ensures)) in
    let line : count ≡ min (line_length c.args.self.now.left) most =
    c.line_len-count.ensures.value ∙ line_of_part most _ ∙ ap (λ l. min (line_length l) most) (held c) in
    read_most c.read.result count most c.args.self.now.left (take count c.args.buf.now) c.args.buf.now c.args.self.now.step c.read.ensures.most fits line
    (c.min-most.ensures ∙ ap (λ l. min (length l) (length c.args.buf.now)) (held c))

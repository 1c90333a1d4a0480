use Rattle.std.proofs.Common.{ap, arith}
use Rattle.auth_publish.specs.Changes.{front_of, weight}
use Rattle.auth_publish.proofs.Lists.{front_more}
use Rattle.auth_publish.proofs.publisher.Publisher.finish.Goals as goal

pub publish-requires-clause-room : goal.publish-requires-clause-room
publish-requires-clause-room g c =
    let list = c.args.self.now.list in
    let more = front_more list c.finish.result in
    let ends = ap weight c.finish.ensures in
    let room = c.publish.invariant.4 in
    let same = ap (λ f. front_of f.list) c.publish.view_is in omega arith

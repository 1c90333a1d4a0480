use Rattle.std.proofs.Common.{arith}
use Rattle.auth_publish.proofs.Lists.{front_more, front_small, weight_small}
use Rattle.auth_publish.proofs.publisher.Publisher.post.Goals as goal

pub publish-requires-clause-room : goal.publish-requires-clause-room
publish-requires-clause-room g c =
    let list = c.args.self.now.list in
    let more = front_more list c.in_ok-change.change in
    let few = front_small list in
    let one = weight_small c.in_ok-change.change in
    let room = c.requires.room in omega arith

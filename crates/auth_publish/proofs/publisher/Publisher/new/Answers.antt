use Rattle.auth_publish.proofs.Steps.{starts}
use Rattle.auth_publish.proofs.publisher.Publisher.new.Goals as goal

pub new-requires-clause-rule : goal.new-requires-clause-rule
new-requires-clause-rule g c = starts _ c.begin-head.ensures.empty

use Rattle.std.proofs.Common.{ap, sym}
use Rattle.dynauth_server.specs.Found.{first_of_them}
use Rattle.dynauth_server.proofs.SoughtLemmas.{none_named}
use Rattle.dynauth_server.proofs.session.named.Goals as goal

pub returns-in-None : goal.returns-in-None
returns-in-None g c = sym (ap first_of_them (none_named c.args.p.now.attributes (g.R.Roll.rows c.args.roll.now) c.sought_by.result c.sought_by.ensures c.in-None.is))

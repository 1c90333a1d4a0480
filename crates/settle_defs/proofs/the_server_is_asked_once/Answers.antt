-- The laws are proved over the definitions.
use Rattle.settle_defs.proofs.SettleLaws.{asks_where_it_waits, asks_by_name, leaves_the_server, is_always_named, stays_named}
use Rattle.settle_defs.proofs.the_server_is_asked_once.Goals as goal

pub returns-clause-asks : goal.returns-clause-asks
returns-clause-asks c = asks_where_it_waits

pub returns-clause-by_name : goal.returns-clause-by_name
returns-clause-by_name c = asks_by_name

pub returns-clause-leaves : goal.returns-clause-leaves
returns-clause-leaves c = leaves_the_server

pub returns-clause-named : goal.returns-clause-named
returns-clause-named c = is_always_named

pub returns-clause-stays_named : goal.returns-clause-stays_named
returns-clause-stays_named c = stays_named

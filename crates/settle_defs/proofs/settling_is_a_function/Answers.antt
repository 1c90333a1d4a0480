-- The laws are proved over the definitions.
use Rattle.settle_defs.proofs.SettleLaws.{is_settled, settled_chain, has_outcome, begins_so, stays_at_rest, stays_live, is_idle_after, keeps_its_peer, sends_few}
use Rattle.settle_defs.proofs.settling_is_a_function.Goals as goal

pub returns-clause-same : goal.returns-clause-same
returns-clause-same c = is_settled

pub returns-clause-chain : goal.returns-clause-chain
returns-clause-chain c = settled_chain

pub returns-clause-live : goal.returns-clause-live
returns-clause-live c = stays_live

pub returns-clause-idle : goal.returns-clause-idle
returns-clause-idle c = is_idle_after

pub returns-clause-peer : goal.returns-clause-peer
returns-clause-peer c = keeps_its_peer

pub returns-clause-sends : goal.returns-clause-sends
returns-clause-sends c = sends_few

pub returns-clause-outcome : goal.returns-clause-outcome
returns-clause-outcome c = has_outcome

pub returns-clause-opening : goal.returns-clause-opening
returns-clause-opening c = begins_so

pub returns-clause-rest : goal.returns-clause-rest
returns-clause-rest c = stays_at_rest

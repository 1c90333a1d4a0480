-- The law is proved over the definitions.
use Rattle.serve_defs.proofs.LogBack.{logs_read_back}
use Rattle.serve_defs.proofs.logs_are_traces.Goals as goal

pub returns : goal.returns
returns c = record { traces = logs_read_back }

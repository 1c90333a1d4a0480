use Rattle.std.proofs.Common.{refl}
use Rattle.settings_reader.proofs.Reached.{start_at}
use Rattle.settings_reader.proofs.reader.Reader.start.Goals as goal

pub returns-clause-at : goal.returns-clause-at
returns-clause-at c = start_at _ c.empty.ensures refl refl c.in_ok-open.ensures

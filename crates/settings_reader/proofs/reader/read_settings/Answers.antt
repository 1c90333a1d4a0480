use Rattle.settings_reader.proofs.Reached.{end_nothing}
use Rattle.settings_reader.proofs.reader.read_settings.Goals as goal

pub returns-in_err-reader-clause-ends : goal.returns-in_err-reader-clause-ends
returns-in_err-reader-clause-ends g c = end_nothing c.args.limit _ c.from_residual.result c.from_residual.ensures.0 c.from_residual.ensures.1

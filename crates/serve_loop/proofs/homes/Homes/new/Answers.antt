use Rattle.serve_loop.proofs.Parts.{no_homes}
use Rattle.serve_loop.proofs.homes.Homes.new.Goals as goal

pub returns : goal.returns
returns c = no_homes

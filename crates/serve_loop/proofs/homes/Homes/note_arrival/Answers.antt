use Rattle.std.proofs.Common.{sym, ◌∙◌}
use Rattle.serve_loop.specs.Arrived.{arrival_of}
use Rattle.serve_loop.proofs.Parts.{noted}
use Rattle.serve_loop.proofs.homes.Homes.note_arrival.Goals as goal

pub returns-in-Some-from : goal.returns-in-Some-from
returns-in-Some-from c = λ homes table.
    noted _ homes (arrival_of c.args.arrived) c.in-Some.port c.in-Some-from.at (sym c.frame_port.ensures ∙ c.in-Some.is) c.in-Some-from.is (c.note.ensures homes table)

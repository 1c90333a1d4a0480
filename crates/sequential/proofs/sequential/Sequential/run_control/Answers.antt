use Rattle.std.proofs.Common.{refl, ap, ◌∙◌}
use Rattle.event_record.specs.Record.{event_of}
use Rattle.sequential.proofs.RecordLemmas.{Prints-turned}
use Rattle.sequential.proofs.sequential.Sequential.run_control.Goals as goal

pub returns-clause-block : goal.returns-clause-block
returns-clause-block g c = λ lane.
    Prints-turned g.A.Authenticator.stands g.A.Authenticator.made c.args.self.now c.turn-outcome.new.self _ lane (event_of c.args.what.now) c.turn-outcome.result c.args.text.now.items c.print_control.new.out.items
    c.turn-outcome.ensures.turned c.turn-outcome.ensures.number c.turn-outcome.ensures.serial c.in_ok-print_control.ensures.printed refl

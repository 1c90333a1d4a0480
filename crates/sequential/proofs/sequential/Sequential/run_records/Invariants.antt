use Rattle.std.proofs.Common.{take}
use Rattle.sequential.specs.Records.{PrintsAll}
use Rattle.sequential.proofs.sequential.Sequential.run_records.Given as goal

abbrev pub invariant-loop-entry : goal.invariant-loop-entry
invariant-loop-entry g l = PrintsAll g.A.Authenticator.stands g.A.Authenticator.made l.fn.self l.self (take l.entry-index l.records) l.fn.text.items l.text.items

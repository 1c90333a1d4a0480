use Rattle.std.proofs.Common.{arith, sym, ◌∙◌}
use Rattle.trace_defs.specs.Sized.{IsSized}
use Rattle.serve_loop.proofs.Parts.{a_port}
use Rattle.serve_loop.proofs.arrived.frame_entry.Goals as goal

pub returns-then-is_control-clause-may : goal.returns-then-is_control-clause-may
returns-then-is_control-clause-may c = λ settings ports known.
    let sized : IsSized 0 2000 c.args.octets.now = record { low = omega arith; high = omega (arith, c.requires.short); octets = λ i. let f = c.type_inv.octets i in omega arith } in
    (omega arith, omega arith, (a_port settings c.args.port ports known, sized, sym c.is_control.ensures ∙ c.if-is_control.true))

pub returns-else-is_control-clause-may : goal.returns-else-is_control-clause-may
returns-else-is_control-clause-may c = λ settings ports known.
    let sized : IsSized 0 2000 c.args.octets.now = record { low = omega arith; high = omega (arith, c.requires.short); octets = λ i. let f = c.type_inv.octets i in omega arith } in
    (a_port settings c.args.port ports known, sized, sym c.is_control.ensures ∙ c.if-is_control.false)

use Rattle.std.proofs.Common.{◌∙◌}
use Rattle.trace_print.proofs.Texts.{dotted_is}
use Rattle.trace_print.proofs.piece.dotted.Goals as goal

pub returns : goal.returns
returns c = c.four_numbers.ensures ∙ dotted_is c.args.ip.now c.told-ip

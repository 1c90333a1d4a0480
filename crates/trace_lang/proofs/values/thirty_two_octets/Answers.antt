use Rattle.std.proofs.Common.{sym, ◌∙◌, arith, Ok, Err}
use Rattle.trace_lang.proofs.HexLemmas.{hex_in-sized}
use Rattle.trace_lang.proofs.values.thirty_two_octets.Goals as goal

pub returns-in-Ok : goal.returns-in-Ok
returns-in-Ok c = sym (hex_in-sized 32 c.args.text.now (Ok c.in-Ok.octets) (omega arith) (sym c.from_hex.ensures ∙ c.in-Ok.is))

pub returns-in-Err : goal.returns-in-Err
returns-in-Err c = sym (hex_in-sized 32 c.args.text.now (Err c.in-Err.field-0) (omega arith) (sym c.from_hex.ensures ∙ c.in-Err.is))

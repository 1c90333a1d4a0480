use Rattle.std.proofs.Common.{◌∙◌, sym, arith}
use Rattle.std.proofs.lemmas.List.{take_rest}
use Rattle.wire_defs.proofs.EthernetLemmas.{eth_of_only}
use Rattle.eth_frame.proofs.FrameLemmas.{read_by_octets}
use Rattle.eth_frame.proofs.read.parse.Goals as goal

pub returns-clause-value : goal.returns-clause-value
returns-clause-value c = sym (read_by_octets c.args.b.now _ _ (omega arith) (omega arith) (omega arith) (take_rest c.args.b.now 14))

pub returns-clause-only : goal.returns-clause-only
returns-clause-only c = λ r h. eth_of_only c.args.b.now r h ∙ sym (returns-clause-value c)

use Rattle.std.proofs.Common.{◌∙◌, rules}
use Rattle.wire_defs.proofs.EthernetLemmas.{tagged_text-of}
use Rattle.eth_frame.specs.Frame.{fields}
use Rattle.eth_frame.proofs.write.write_tagged.Goals as goal

pub returns-clause-text : goal.returns-clause-text
returns-clause-text c = search rules

pub returns-clause-behind_tag : goal.returns-clause-behind_tag
returns-clause-behind_tag c = λ octets h. returns-clause-text c ∙ tagged_text-of c.args.vlan octets (fields c.args.f.now) h

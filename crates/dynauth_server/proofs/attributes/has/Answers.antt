use Rattle.std.proofs.Common.{◌==◌, rules, tests}
use Rattle.std.proofs.lemmas.Iterator.Consumers.{YieldsList-from_first}
use Rattle.std.proofs.lemmas.Iterator.Search.{any_from_yields_List}
use Rattle.radius_defs.specs.Packet.{Attribute}
use Rattle.radius_packet.specs.Views.{attribute}
use Rattle.dynauth_server.proofs.attributes.has.Goals as goal

pub returns : goal.returns
returns c = any_from_yields_List (λ (a : Attribute). a.kind == c.args.ty) c.any.new.self _ _ c.any.ensures.ran (YieldsList-from_first attribute (λ s. s) c.args.p.now.attributes c.attributes.ensures.same) (λ x b q k. search (rules, tests))

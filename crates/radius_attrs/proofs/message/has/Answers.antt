use Rattle.std.proofs.Common.{◌==◌, rules, tests, refl}
use Rattle.std.proofs.lemmas.Iterator.Consumers.{YieldsList-from_first}
use Rattle.std.proofs.lemmas.Iterator.Search.{any_from_yields_List}
use Rattle.radius_defs.specs.Packet.{Attribute}
use Rattle.radius_packet.specs.Views.{attribute}
use Rattle.radius_attrs.proofs.message.has.Goals as goal

pub returns : goal.returns
returns c = any_from_yields_List (λ (a : Attribute). a.kind == c.args.ty) c.any.new.self _ _ c.any.ensures.ran (YieldsList-from_first attribute (λ s. s) c.args.attributes refl) (λ x b q k. search (rules, tests))
